-- The search: a pass over the edges keeps the table justified. It changes nothing, and then every edge keeps its rule, or it raises the ranks in all, which are at most 9 for each node: so passes end.
use Prim.Native.Nat.{ℕ, zero, suc, ◌+◌, ◌-◌, ◌*◌, ◌≤◌, ◌<◌}
use native.Mathlib.Omega.{arith}
use native.Mathlib.Decide.{ℕ_discrete}
use mathlib.Core.Path.{◌≡◌, refl, sym, ◌∙◌, ap, subst}
use mathlib.Core.Logic.{◌≢◌, ◌⊎◌, inl, inr, ⊎_elim}
use mathlib.Core.Bool.{Bool, true, false, cond, ◌||◌, true≢false}
use mathlib.Core.List.{List}
use lib.ListN.{length}
use Rattle.paper.specs.declared.Loop.{Loop}
use Rattle.paper.specs.Lists.{sum_to}
use Rattle.paper.specs.Cases.{Row, Fact, Case, inside, size, scope_of}
use Rattle.paper.specs.Writing.{per_row}
use Rattle.paper.proofs.Says.{Says, holds, fails, says_bool, says_eq, says_not, says_and, says_false, says_true, says_is, neither}
use Rattle.paper.proofs.GraphLaws.{inside_says}
use Rattle.paper.proofs.Meaning.{In, EdgeRule}
use Rattle.theory.proofs.Needed.{Closed}
use Rattle.theory.proofs.Justified.{Justified, same_justified}
use Rattle.search.specs.Steps.{number_of, row_by, plain}
use Rattle.search.specs.Passes.{table_row, with_row, row_index, node_row, within, stepped_at, changes, after_edge, pass_to, changed_to}
use Rattle.search.proofs.Ranks.{rank, ranks_low, ranks_grow}
use Rattle.search.proofs.Justly.{Asked, nine_justified, step_justified}
use Rattle.search.proofs.Settling.{step_settles}
use Rattle.search.proofs.Tables.{with_length, with_row_lem, with_others}

module _ (e : Case) (t : Fact) where
  abbrev scope : Loop
  scope = scope_of e t

  abbrev Inside : ℕ → Type 0
  Inside v = inside scope v ≡ true

  abbrev pub rows_of : List ℕ → ℕ → Row
  rows_of table v = row_by (node_row e t table v)

  -- The table is long enough, and all that it says has its walk.
  pub record Searched (table : List ℕ) : Type 0 where
    pub long : per_row * size scope ≤ length table
    pub just : (v : ℕ) → Inside v → Justified e t v (rows_of table v)

  -- And every edge keeps its rule.
  pub record Settled (table : List ℕ) : Type 0 where
    pub searched : Searched table
    pub closed : Closed e t (rows_of table)

  -- the ranks of the rows in all
  unfoldable pub measure : List ℕ → ℕ
  measure table = sum_to (λ j. rank (number_of (table_row table j))) (size scope)

  in_scope : (v : ℕ) → Inside v → In scope v
  in_scope v h = says_true (inside_says scope v) h

  -- before the first pass nothing is said
  pub searched_start : (table : List ℕ) → per_row * size scope ≤ length table → ((j : ℕ) → j < size scope → table_row table j ≡ plain 9) → Searched table
  searched_start table h nine =
      record {
        long = h;
        just = λ v i.
            let b = in_scope v i in
            subst (λ (r : List ℕ). Justified e t v (row_by r)) (sym (nine (row_index e t v) (omega arith))) (nine_justified e t v);
      }

  pub numbers_low : (table : List ℕ) → Searched table → (v : ℕ) → Inside v → number_of (node_row e t table v) ≤ 9
  numbers_low table s v i = (s.just v i).row.number

  pub measure_low : (table : List ℕ) → Searched table → measure table ≤ 9 * size scope
  unfolding measure
  measure_low table s = ranks_low (λ j. number_of (table_row table j)) (size scope) (λ j h. low j h)
    where
      low : (j : ℕ) → j < size scope → number_of (table_row table j) ≤ 9
      low j h =
          let z : scope.first + j - scope.first ≡ j = omega arith in
          subst (λ (i : ℕ). number_of (table_row table i) ≤ 9) z (numbers_low table s (scope.first + j) (says_is (inside_says scope (scope.first + j)) (omega arith, omega arith)))

  module _ (ask : Asked e t) where
    -- One edge.
    module _ (i : ℕ) (h : i < e.edges) (table : List ℕ) (s : Searched table) where
      abbrev from : ℕ
      from = e.from i

      abbrev to : ℕ
      to = e.to i

      abbrev old : List ℕ
      old = node_row e t table to

      abbrev new : List ℕ
      new = stepped_at e t table i

      changes_says : Says ((Inside from × Inside to) × (number_of new ≢ number_of old)) (changes e t table i)
      unfolding changes within
      changes_says = says_and (says_and (says_bool (inside scope from)) (says_bool (inside scope to))) (says_not (says_eq (number_of new) (number_of old)))

      settles : Inside from → Inside to → ((new ≡ old) × EdgeRule e t (e.block from) (rows_of table from) (rows_of table to)) ⊎ (rank (number_of old) < rank (number_of new))
      unfolding stepped_at
      settles a b = step_settles e t ask (e.block from) (node_row e t table from) old (s.just from a).row (s.just to b).row

      new_justified : Inside from → Inside to → Justified e t to (row_by new)
      unfolding stepped_at
      new_justified a b = step_justified e t ask from to ((i, h, refl, refl), a, b) _ _ (s.just from a) (s.just to b)

      -- where v's row stands in the changed table
      module _ (a : Inside from) (b : Inside to) where
        room : 8 * row_index e t to + 8 ≤ length table
        room = let z = in_scope to b in omega (arith, s.long)

        changed_row : (v : ℕ) → Inside v → Justified e t v (row_by (node_row e t (with_row table (row_index e t to) new) v))
        changed_row v m =
            let z = in_scope to b in
            let y = in_scope v m in
            elim (ℕ_discrete v to) [
              | yes p ↦ rw p (same_justified e t to _ _ (with_row_lem table (row_index e t to) new room) (new_justified a b))
              | no n ↦ subst (λ (r : List ℕ). Justified e t v (row_by r)) (sym (with_others table (row_index e t to) new (row_index e t v) (omega arith))) (s.just v m)
            ]

        changed_searched : Searched (with_row table (row_index e t to) new)
        changed_searched = record { long = omega (arith, s.long, with_length table (row_index e t to) new); just = changed_row }

        changed_measure : rank (number_of old) < rank (number_of new) → measure table < measure (with_row table (row_index e t to) new)
        unfolding measure
        changed_measure l =
            let z = in_scope to b in
            let y = (with_row_lem table (row_index e t to) new room).number in
            ranks_grow (λ j. number_of (table_row table j)) (λ j. number_of (table_row (with_row table (row_index e t to) new) j)) (size scope) (row_index e t to) (omega arith)
            (rw y l)
            (λ j q.
            elim (ℕ_discrete j (row_index e t to)) [
              | yes p ↦ rw (p, y) (omega arith)
              | no n ↦ omega (arith, ap (λ (r : List ℕ). rank (number_of r)) (with_others table (row_index e t to) new j n))
            ])

      grows : Inside from → Inside to → number_of new ≢ number_of old → rank (number_of old) < rank (number_of new)
      grows a b n = ⊎_elim (λ p. absurd (n (ap number_of p.0))) (λ l. l) (settles a b)

      edge_searched : Searched (after_edge e t table i)
      unfolding after_edge
      edge_searched = go changes_says
        where
          go : {c : Bool} → Says ((Inside from × Inside to) × (number_of new ≢ number_of old)) c → Searched (cond c (with_row table (row_index e t to) new) table)
          go (holds p) = changed_searched p.0.0 p.0.1
          go (fails n) = s

      edge_grows : changes e t table i ≡ true → measure table < measure (after_edge e t table i)
      unfolding after_edge
      edge_grows c = let p = says_true changes_says c in rw c (changed_measure p.0.0 p.0.1 (grows p.0.0 p.0.1 p.1))

      -- an edge that changes nothing keeps its rule
      edge_rule_lem : changes e t table i ≡ false → Inside from → Inside to → EdgeRule e t (e.block from) (rows_of table from) (rows_of table to)
      edge_rule_lem c a b = ⊎_elim (λ p. p.1) (λ l. absurd ((says_false changes_says).0 c ((a, b), λ p. omega (arith, ap rank p)))) (settles a b)

    edge_same : (i : ℕ) (table : List ℕ) → changes e t table i ≡ false → after_edge e t table i ≡ table
    unfolding after_edge
    edge_same i table c = rw c refl

    module _ (table : List ℕ) (s : Searched table) where
      pub searched_to : (i : ℕ) → i ≤ e.edges → Searched (pass_to e t table i)
      unfolding pass_to
      searched_to zero h = s
      searched_to (suc i) h = edge_searched i h (pass_to e t table i) (searched_to i (omega arith))

      pub searched_pass : Searched (pass_to e t table e.edges)
      searched_pass = searched_to e.edges (omega arith)

      -- edge i of the pass changes the table, or leaves it
      turn : (i : ℕ) → i < e.edges → (changes e t (pass_to e t table i) i ≡ false) ⊎ (measure (pass_to e t table i) < measure (pass_to e t table (suc i)))
      unfolding pass_to
      turn i h = go (changes e t (pass_to e t table i) i) refl
        where
          go : (c : Bool) → changes e t (pass_to e t table i) i ≡ c → (changes e t (pass_to e t table i) i ≡ false) ⊎ (measure (pass_to e t table i) < measure (after_edge e t (pass_to e t table i) i))
          go true p = inr (edge_grows i h (pass_to e t table i) (searched_to i (omega arith)) p)
          go false p = inl p

      still : (i : ℕ) → changes e t (pass_to e t table i) i ≡ false → pass_to e t table (suc i) ≡ pass_to e t table i
      unfolding pass_to
      still i c = edge_same i (pass_to e t table i) c

      never_falls : (i : ℕ) → i ≤ e.edges → measure table ≤ measure (pass_to e t table i)
      unfolding pass_to
      never_falls zero h = omega arith
      never_falls (suc i) h =
          let before = never_falls i (omega arith) in
          ⊎_elim (λ c. omega (arith, ap measure (still i c))) (λ l. omega arith) (turn i h)

      grows_to : (i : ℕ) → i ≤ e.edges → changed_to e t table i ≡ true → measure table < measure (pass_to e t table i)
      unfolding pass_to changed_to
      grows_to zero h p = absurd (true≢false (sym p))
      grows_to (suc i) h p =
          ⊎_elim
          (λ c.
          let q : changed_to e t table i ≡ true = first (changed_to e t table i) (changes e t (pass_to e t table i) i) c p in
          omega (arith, grows_to i (omega arith) q, ap measure (still i c)))
          (λ l. omega (arith, never_falls i (omega arith)))
          (turn i h)
        where
          first : (a b : Bool) → b ≡ false → (a || b) ≡ true → a ≡ true
          first true b c p = refl
          first false b c p = absurd (true≢false (sym p ∙ c))

      -- a pass that changes the table raises the measure
      pub measure_grows : changed_to e t table e.edges ≡ true → measure table < measure (pass_to e t table e.edges)
      measure_grows = grows_to e.edges (omega arith)

    same_to : (table : List ℕ) (i : ℕ) → changed_to e t table i ≡ false → pass_to e t table i ≡ table
    unfolding pass_to changed_to
    same_to table zero p = refl
    same_to table (suc i) p =
        let q = neither (changed_to e t table i) (changes e t (pass_to e t table i) i) p in
        edge_same i (pass_to e t table i) q.1 ∙ same_to table i q.0

    pub pass_same : (table : List ℕ) → changed_to e t table e.edges ≡ false → pass_to e t table e.edges ≡ table
    pass_same table p = same_to table e.edges p

    -- after a pass that changes nothing every edge keeps its rule
    rule_to : (table : List ℕ) → Searched table → (i : ℕ) → i ≤ e.edges → changed_to e t table i ≡ false → (j : ℕ) → j < i → Inside (e.from j) → Inside (e.to j) →
        EdgeRule e t (e.block (e.from j)) (rows_of table (e.from j)) (rows_of table (e.to j))
    unfolding changed_to
    rule_to table s zero h p j l a b = absurd (omega arith)
    rule_to table s (suc i) h p j l a b =
        let q = neither (changed_to e t table i) (changes e t (pass_to e t table i) i) p in
        elim (ℕ_discrete j i) [
          | yes z ↦ rw z (edge_rule_lem i h table s (ap (λ (x : List ℕ). changes e t x i) (sym (same_to table i q.0)) ∙ q.1) (rw z at a) (rw z at b))
          | no n ↦ rule_to table s i (omega arith) q.0 j (omega arith) a b
        ]

    pub settled : (table : List ℕ) → Searched table → changed_to e t table e.edges ≡ false → Settled table
    settled table s p =
        record {
          searched = s;
          closed = λ u v d.
              rw (d.0.2, d.0.3) at (rule_to table s e.edges (omega arith) p d.0.0 d.0.1 (rw d.0.2 d.1) (rw d.0.3 d.2));
        }
