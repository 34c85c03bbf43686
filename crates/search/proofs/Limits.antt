-- The most that is asked for is the least limit of the table, or 9 where a node that fetches b is "many".
use Prim.Native.Nat.{ℕ, zero, suc, ◌+◌, ◌-◌, ◌≤◌, ◌<◌, max}
use native.Mathlib.Omega.{arith}
use native.Mathlib.Decide.{ℕ_discrete, dec_lt}
use mathlib.Core.Path.{◌≡◌, refl, sym, ◌∙◌, ap}
use mathlib.Core.Logic.{◌≢◌, ◌⊎◌, inl, inr, ⊎_elim}
use mathlib.Core.Bool.{Bool, true, cond}
use mathlib.Core.List.{List}
use borrow.Author.Tests.{eq-eqb, ne_eqb}
use Rattle.paper.specs.declared.Loop.{Loop}
use Rattle.paper.specs.Cases.{Fact, Case, inside, size, scope_of, fetches}
use Rattle.paper.specs.Facts.{held}
use Rattle.paper.proofs.Says.{Says, holds, fails, says_eq, says_true, says_is}
use Rattle.paper.proofs.GraphLaws.{inside_says}
use Rattle.paper.proofs.RowLaws.{held_set, held_other, held_low}
use Rattle.theory.proofs.LeastLimit.{Fetching, Limit}
use Rattle.search.specs.Steps.{number_of, row_by}
use Rattle.search.specs.Passes.{table_row, row_index, node_row, asks, most_to}
use Rattle.search.proofs.Searching.{rows_of, Settled}

asks_many : (n : ℕ) → n ≡ 8 → asks n ≡ 9
unfolding asks
asks_many n p = rw p refl

asks_held : (r : List ℕ) → number_of r ≢ 8 → number_of r ≤ 9 → asks (number_of r) ≡ suc (held (row_by r))
unfolding asks
asks_held r n h =
    elim (dec_lt (number_of r) 8) [
      | yes l ↦ rw (ne_eqb (number_of r) 9 (omega arith)) (omega (arith, held_set (row_by r) l))
      | no m ↦ rw (eq-eqb (number_of r) 9 (omega arith)) (omega (arith, held_other (row_by r) (omega arith)))
    ]

asks_range : (r : List ℕ) → number_of r ≤ 9 → (1 ≤ asks (number_of r)) × (asks (number_of r) ≤ 9)
asks_range r h =
    elim (ℕ_discrete (number_of r) 8) [
      | yes p ↦ omega (arith, asks_many (number_of r) p)
      | no n ↦ omega (arith, asks_held r n h, held_low (row_by r))
    ]

module _ (e : Case) (t : Fact) where
  abbrev scope : Loop
  scope = scope_of e t

  fetches_says : (j : ℕ) → Says (e.block (scope.first + j) ≡ t.block) (fetches e t j)
  unfolding fetches
  fetches_says j = says_eq _ _

  module _ (table : List ℕ) where
    abbrev asked : ℕ → ℕ
    asked j = asks (number_of (table_row table j))

    abbrev Fetches : ℕ → Type 0
    Fetches j = e.block (scope.first + j) ≡ t.block

    -- the most is as great as each, and is one of them or 0
    pub most_each : (n j : ℕ) → j < n → Fetches j → asked j ≤ most_to e t table n
    unfolding most_to
    most_each zero j h p = absurd (omega arith)
    most_each (suc n) j h p = go (fetches_says n) (λ q. most_each n j (omega arith) p)
      where
        go : {b : Bool} → Says (Fetches n) b → (j ≢ n → asked j ≤ most_to e t table n) → asked j ≤ cond b (max (most_to e t table n) (asked n)) (most_to e t table n)
        go (holds m) rest = elim (ℕ_discrete j n) [ yes q ↦ rw q (omega arith) | no q ↦ omega (arith, rest q) ]
        go (fails m) rest = rest (λ q. m (rw q at p))

    pub most_met : (n : ℕ) → (most_to e t table n ≡ 0) ⊎ ((j : ℕ) × (j < n) × (Fetches j × (most_to e t table n ≡ asked j)))
    unfolding most_to
    most_met zero = inl refl
    most_met (suc n) = go (fetches_says n) (most_met n)
      where
        go : {b : Bool} → Says (Fetches n) b → (most_to e t table n ≡ 0) ⊎ ((j : ℕ) × (j < n) × (Fetches j × (most_to e t table n ≡ asked j))) →
            (cond b (max (most_to e t table n) (asked n)) (most_to e t table n) ≡ 0)
            ⊎ ((j : ℕ) × (j < suc n) × (Fetches j × (cond b (max (most_to e t table n) (asked n)) (most_to e t table n) ≡ asked j)))
        go (holds m) r =
            elim (dec_lt (asked n) (most_to e t table n)) [
              | yes l ↦ ⊎_elim (λ p. absurd (omega arith)) (λ p. inr (p.0, omega (arith, p.1), (p.2.0, omega (arith, p.2.1)))) r
              | no q ↦ inr (n, omega arith, (m, omega arith))
            ]
        go (fails m) r = ⊎_elim inl (λ p. inr (p.0, omega (arith, p.1), p.2)) r

  module _ (table : List ℕ) (s : Settled e t table) (some : (v : ℕ) × Fetching e t v) where
    abbrev most : ℕ
    most = most_to e t table (size scope)

    -- node j of the scope, counted from its first, and its row
    node : (j : ℕ) → j < size scope → inside scope (scope.first + j) ≡ true
    node j h = says_is (inside_says scope (scope.first + j)) (omega arith, omega arith)

    row_at : (j : ℕ) → node_row e t table (scope.first + j) ≡ table_row table j
    row_at j = let z : scope.first + j - scope.first ≡ j = omega arith in ap (table_row table) z

    low : (v : ℕ) → inside scope v ≡ true → number_of (node_row e t table v) ≤ 9
    low v i = (s.searched.just v i).row.number

    -- what a node that fetches b asks for is no more than the most
    node_each : (v : ℕ) → Fetching e t v → asks (number_of (node_row e t table v)) ≤ most
    node_each v f =
        let b = says_true (inside_says scope v) f.0 in
        let z : scope.first + (v - scope.first) ≡ v = omega arith in
        most_each table (size scope) (row_index e t v) (omega arith) (ap e.block z ∙ f.1)

    -- and one asks for it
    node_met : (v : ℕ) × Fetching e t v × (most ≡ asks (number_of (node_row e t table v)))
    node_met =
        ⊎_elim
        (λ p. absurd (let h = node_each some.0 some.1 in omega (arith, asks_range (node_row e t table some.0) (low some.0 some.1.0))))
        (λ p. (scope.first + p.0, (node p.0 p.1, p.2.0), p.2.1 ∙ ap (λ (r : List ℕ). asks (number_of r)) (sym (row_at p.0))))
        (most_met table (size scope))

    pub most_many : most ≡ 9 → (v : ℕ) × Fetching e t v × (number_of (node_row e t table v) ≡ 8)
    most_many q =
        let (v, f, m) = node_met in
        let h = low v f.0 in (
          v,
          f,
          elim (ℕ_discrete (number_of (node_row e t table v)) 8) [
            | yes p ↦ p
            | no n ↦ absurd (omega (arith, asks_held (node_row e t table v) n h, held_low (row_by (node_row e t table v))))
          ],
        )

    -- where the most is not 9 no node that fetches b is "many"
    few : most ≢ 9 → (v : ℕ) → Fetching e t v → number_of (node_row e t table v) ≢ 8
    few q v g m =
        let (u, f, z) = node_met in
        omega (arith, node_each v g, asks_many (number_of (node_row e t table v)) m, asks_range (node_row e t table u) (low u f.0))

    pub most_limit : most ≢ 9 → Limit e t (rows_of e t table) most
    most_limit q =
        let (v, f, m) = node_met in
        record {
          each = λ u g. (few q u g, omega (arith, node_each u g, asks_held (node_row e t table u) (few q u g) (low u g.0)));
          met = (v, f, m ∙ asks_held (node_row e t table v) (few q v f) (low v f.0));
        }
