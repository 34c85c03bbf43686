-- What a fact's row says of b's set before its node's fetch, and how an edge carries it on.
use Prim.Native.Nat.{ℕ, ◌+◌, ◌-◌, ◌*◌, ◌%◌, ◌≤◌, ◌<◌}
use native.Mathlib.Omega.{arith}
use native.Mathlib.Decide.{ℕ_discrete, dec_le}
use mathlib.Core.Path.{◌≡◌, ap}
use mathlib.Core.Logic.{◌≢◌}
use mathlib.Core.Bool.{Bool, cond}
use mathlib.Core.List.{List, []}
use Rattle.paper.specs.Machines.{none}
use Rattle.paper.specs.Cases.{Row, Fact, Case}
use Rattle.paper.specs.Facts.{held}
use Rattle.paper.specs.Bounds.{lives}
use Rattle.paper.specs.Demands.{Other}
use Rattle.paper.proofs.Says.{Says, holds, fails}
use Rattle.paper.proofs.TableLaws.{length_table}
use Rattle.paper.proofs.RowLaws.{held_set}
use Rattle.paper.proofs.Meaning.{Holds, SoundRow, Carried, EdgeRule}
use Rattle.theory.proofs.Blocks.{blocks, holds_mem, mem_holds}
use Rattle.theory.proofs.Count.{cnt, sum, mem_cnt, cnt_mem}
use Rattle.theory.proofs.Law.{Machine, Law}
use Rattle.paper.proofs.TestLaws.{lives_says}
use Rattle.theory.proofs.Moves.{moved}

holds_cnt : (r : Row) (x : ℕ) → Holds r x → 1 ≤ cnt x (blocks r)
holds_cnt r x h = mem_cnt (holds_mem r x h)

cnt_holds : (r : Row) (x : ℕ) → 1 ≤ cnt x (blocks r) → Holds r x
cnt_holds r x h = mem_holds r x (cnt_mem x (blocks r) h)

module _ (e : Case) (M : Machine) (t : Fact) (c a d : ℕ) (L : Law M t.block (t.limit - 1) c a d) where
  -- A set: all other accesses of b's set since b were of its blocks. 8: nothing is known, and b is not fetched again in this stay. 9: it cannot be.
  pub data Known (m : ℕ) (r : Row) (s : M.State) : Type 0 where
    set : r.number < 8 → L.Known m (blocks r) s → Known m r s
    many : r.number ≡ 8 → Known m r s

  widened :
      (m : ℕ) (R : List ℕ) (r : Row) (s : M.State) → SoundRow e t r → r.number < 8 → ((y : ℕ) → 1 ≤ cnt y R → 1 ≤ cnt y (blocks r))
      → L.Known m R s → L.Known m (blocks r) s
  widened m R r s z h i k = L.wider m R (blocks r) s i (omega (arith, length_table r.slot (held r), held_set r h, z.few h)) real k
    where
      real : cnt none (blocks r) ≡ 0
      real =
          elim (dec_le 1 (cnt none (blocks r))) [
            | yes n ↦ let (j, l, p) = cnt_holds r none n in absurd ((z.others j l).1 p)
            | no n ↦ omega arith
          ]

  -- after an access of b: "row v is not 9"
  pub begun : (m : ℕ) (r : Row) (s : M.State) → SoundRow e t r → r.number ≢ 9 → L.Known m [] s → Known m r s
  unfolding sum
  begun m r s z n k =
      elim (dec_le 8 r.number) [
        | yes h ↦ many (omega (arith, z.number))
        | no h ↦ set (omega arith) (widened m [] r s z (omega arith) (λ y i. absurd (omega arith)) k)
      ]

  -- after a visit of v, which does not fetch b: "row v is 8, or a set that holds row u's blocks and also u's block where u fetches one of b's set"
  pub carried :
      (m v : ℕ) (r r' : Row) (s : M.State) → M.Legal s → e.block v ≢ t.block → SoundRow e t r' → EdgeRule e t (e.block v) r r'
      → Known m r s → Known m r' (moved e M (t.block % e.sets) v s)
  unfolding moved
  carried m v r r' s lg n z h k = elim (ℕ_discrete r'.number 8) [ yes p ↦ many p | no p ↦ go p k ]
    where
      on :
          L.Known m (blocks r') s → (Other e t (e.block v) → Holds r' (e.block v))
          → {g : Bool} → Says ((e.block v ≢ none) × (e.block v % e.sets ≡ t.block % e.sets)) g
          → L.Known m (blocks r') (cond g (M.step (e.block v) s) s)
      on k w (holds o) = L.other m (e.block v) (blocks r') s n (holds_cnt r' (e.block v) (w (n, o.0, o.1))) lg k
      on k w (fails o) = k

      kept : Carried e t (e.block v) r r' → (y : ℕ) → Holds r y → 1 ≤ cnt y (blocks r')
      kept w y (j, l, p) = omega (arith, holds_cnt r' (r.slot j) (w.keeps j l), ap (λ (x : ℕ). cnt x (blocks r')) p)

      go : r'.number ≢ 8 → Known m r s → Known m r' (cond (lives e (t.block % e.sets) (e.block v)) (M.step (e.block v) s) s)
      go p (set l k) =
          let w = h.other n (omega arith) p in
          set w.set_after
          (on (widened m (blocks r) r' s z w.set_after (λ y i. kept w y (cnt_holds r y i)) k) w.adds
          (lives_says e (t.block % e.sets) (e.block v)))
      go p (many l) = absurd ((h.other n (omega arith) p).set_before l)

  -- an access of b
  pub again :
      (m : ℕ) (r : Row) (s : M.State) → r.number ≢ 8 → M.Legal s → Known m r s
      → (m' : ℕ) × (c * M.miss t.block s + m' ≤ d + m) × L.Known m' [] (M.step t.block s)
  again m r s n lg (set l k) = L.again m (blocks r) s lg k
  again m r s n lg (many l) = absurd (n l)
