-- A fact along a walk: what its accesses cost is paid by the stays in its scope, by the interruptions and by the accesses.
use Prim.Native.Nat.{ℕ, suc, ◌+◌, ◌-◌, ◌*◌, ◌%◌, ◌≤◌}
use native.Mathlib.Omega.{arith}
use native.Mathlib.Nat.{mul-add, mul-zero, mul-one, mul-le-mul_left}
use mathlib.Core.Path.{◌≡◌, refl, ◌∙◌, ap}
use mathlib.Core.Logic.{◌≢◌}
use mathlib.Core.Bool.{Bool, true, false, ◌&&◌, ◌||◌, cond, true≢false}
use mathlib.Core.Option.{Option, none, some}
use mathlib.Core.List.{List, [], ◌∷◌}
use borrow.Author.Tests.{not-false}
use lib.Dec.{eqb}
use Rattle.paper.specs.declared.Loop.{Loop}
use Rattle.paper.specs.Lists.{bit}
use Rattle.paper.specs.Machines as Machines
use Rattle.paper.specs.Cases.{Fact, Case, inside, scope_of, row_of}
use Rattle.paper.specs.Walks.{Step, Follows, outside}
use Rattle.paper.specs.Runs.{Event, visit, interruption, walk_of, interruptions}
use Rattle.paper.specs.Bounds.{covers}
use Rattle.paper.proofs.Says.{Says, holds, fails, says_eq, says_true}
use Rattle.paper.proofs.GraphLaws.{inside_says}
use Rattle.paper.proofs.Meaning.{In, SoundEvidence}
use Rattle.theory.proofs.Law.{Machine, Law}
use Rattle.theory.proofs.Tally.{tally, begins, stays}
use Rattle.theory.proofs.Costs.{paid}
use Rattle.theory.proofs.Passing.{ones}
use Rattle.theory.proofs.Moves.{moved, moved_to}
use Rattle.theory.proofs.Rows.{Known, begun, carried, again}

module _ (e : Case) (M : Machine) (t : Fact) where
  abbrev scope : Loop
  scope = scope_of e t

  abbrev q : ℕ
  q = t.block % e.sets

  -- b was fetched in this stay, v's fetch included
  abbrev pub since : Bool → ℕ → Bool
  since known v = inside scope v && (known || eqb (e.block v) t.block)

  -- σ has b's set before each event of r. Once b was fetched in a stay, the visits take the set from state to state;
  -- where nothing is known since b, any legal state may follow. After an interruption nothing is known.
  abbrev pub Taken : Bool → List Event → (ℕ → M.State) → Type 0
  Taken known [] σ = Unit {0}
  Taken known (visit v ∷ r) σ = M.Legal (σ 0) × (since known v ≡ true → σ 1 ≡ moved e M q v (σ 0)) × Taken (since known v) r (λ i. σ (suc i))
  Taken known (interruption ∷ r) σ = Taken false r (λ i. σ (suc i))

  -- the misses of the fact's accesses
  abbrev pub missed : List Event → (ℕ → M.State) → ℕ
  missed [] σ = 0
  missed (visit v ∷ r) σ = cond (covers e t v) (M.miss t.block (σ 0)) 0 + missed r (λ i. σ (suc i))
  missed (interruption ∷ r) σ = missed r (λ i. σ (suc i))

  module _ (real : t.block ≢ Machines.none) (rows : SoundEvidence e t) (c a d : ℕ) (L : Law M t.block (t.limit - 1) c a d) where
    -- After the visit p: b was not fetched in this stay, and where p is in the scope its first fetch is paid;
    -- or it was, and the row of each node that may be next says what is known.
    abbrev Mode : Bool → Option ℕ → ℕ → ℕ → M.State → Type 0
    Mode false p x m s = outside scope p ≡ false → 1 ≤ x
    Mode true p x m s = (v : ℕ) → Step e p v → In scope v → Known e M t c a d L m (row_of e t v) s

    module _ (p : Option ℕ) (v x m : ℕ) (s s' : M.State) (lg : M.Legal s) where
      -- one visit: `i` in the scope, `g` of b
      record Turn (i g known : Bool) : Type 0 where
        x' : ℕ
        m' : ℕ
        mode : Mode known (some v) x' m' s'
        pays : c * cond (i && g) (M.miss t.block s) 0 + a * x' + m' ≤ a * (bit (i && outside scope p) + x) + d * cond (i && g) 1 0 + m

      -- the stay has begun, now or before
      first_paid : (outside scope p ≡ false → 1 ≤ x) → a ≤ a * (bit (outside scope p) + x)
      first_paid o = omega (arith, mul-le-mul_left a (go (outside scope p) o), mul-one a)
        where
          go : (out : Bool) → (out ≡ false → 1 ≤ x) → 1 ≤ bit out + x
          go true o = omega arith
          go false o = omega (arith, o refl)

      -- what is known after an access of b
      after_block : (m' : ℕ) → In scope v → e.block v ≡ t.block → s' ≡ moved e M q v s → L.Known m' [] (M.step t.block s) → Mode true (some v) 0 m' s'
      after_block m' i g n k u j o =
          rw (n ∙ moved_to e M q v s (rw g real) (ap (λ (y : ℕ). y % e.sets) g) ∙ ap (λ (y : ℕ). M.step y s) g)
          (begun e M t c a d L m' (row_of e t u) _ (rows.rows u o) ((rows.edges v u j i o).after_block g) k)

      turn : (known : Bool) → Step e p v → Mode known p x m s → {i g : Bool} → Says (In scope v) i → Says (e.block v ≡ t.block) g →
          ((i && (known || g)) ≡ true → s' ≡ moved e M q v s) → Turn i g (i && (known || g))
      turn known st μ (fails n) g nx =
          record {
            x' = 0;
            m' = 0;
            mode = λ o. absurd (n (says_true (inside_says scope v) (not-false _ o)));
            pays = omega (arith, mul-zero c, mul-zero a, mul-zero d);
          }
      turn false st μ (holds i) (fails n) nx =
          record { x' = 1; m' = 0; mode = λ o. omega arith; pays = omega (arith, mul-zero c, mul-one a, mul-zero d, first_paid μ) }
      turn false st μ (holds i) (holds g) nx =
          let r = L.first s lg in
          record {
            x' = 0;
            m' = r.0;
            mode = after_block r.0 i g (nx refl) r.2;
            pays = omega (arith, r.1, mul-zero a, mul-one d, first_paid μ);
          }
      turn true st μ (holds i) (fails n) nx =
          record {
            x' = 0;
            m' = m;
            mode = λ u j o. rw (nx refl) (carried e M t c a d L m v (row_of e t v) (row_of e t u) s lg n (rows.rows u o) (rows.edges v u j i o) (μ v st i));
            pays = omega (arith, mul-zero c, mul-zero a, mul-zero d);
          }
      turn true st μ (holds i) (holds g) nx =
          let r = again e M t c a d L m (row_of e t v) s (rows.many v i g) lg (μ v st i) in
          record {
            x' = 0;
            m' = r.0;
            mode = after_block r.0 i g (nx refl) r.2;
            pays = omega (arith, r.1, mul-zero a, mul-one d);
          }

    -- c times the fact's misses, by the stays, the interruptions and the accesses
    pub fact_pays : (r : List Event) (σ : ℕ → M.State) → Taken false r σ → Follows e none (walk_of r) →
        c * missed r σ ≤ a * (stays scope (walk_of r) + interruptions r) + d * paid (covers e t) (ones (walk_of r))
    unfolding covers
    fact_pays r σ k f = simp mul-add (omega (arith, simp mul-add at (along r none false 0 0 σ k f (λ o. absurd (true≢false o))), mul-zero a))
      where
        along : (r : List Event) (p : Option ℕ) (known : Bool) (x m : ℕ) (σ : ℕ → M.State) → Taken known r σ → Follows e p (walk_of r) → Mode known p x m (σ 0) →
            c * missed r σ ≤ a * (tally (begins scope) p (walk_of r) + interruptions r + x) + d * paid (covers e t) (ones (walk_of r)) + m
        along [] p known x m σ k f μ = omega (arith, mul-zero c)
        along (visit v ∷ r) p known x m σ k f μ =
            let n = turn p v x m (σ 0) (σ 1) k.0 known f.0 μ (inside_says scope v) (says_eq (e.block v) t.block) k.1 in
            let y = along r (some v) (since known v) n.x' n.m' (λ i. σ (suc i)) k.2 f.1 n.mode in
            simp mul-add (omega (arith, simp mul-add at n.pays, simp mul-add at y))
        -- what is known is lost, and one more first fetch of b is paid
        along (interruption ∷ r) p known x m σ k f μ =
            let y = along r p false (suc x) 0 (λ i. σ (suc i)) k f (λ o. omega arith) in
            let z : tally (begins scope) p (walk_of r) + suc (interruptions r) + x ≡ tally (begins scope) p (walk_of r) + interruptions r + suc x = omega arith in
            rw z (omega (arith, y))
