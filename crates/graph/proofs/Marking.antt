-- The laws of marks: a table that holds them, loop by loop, and what the last mark at a node says of all of them.
use Prim.Native.Nat.{ℕ, zero, suc, ◌+◌, ◌≤◌, ◌<◌}
use native.Mathlib.Omega.{arith}
use native.Mathlib.Numerals.{add-one}
use native.Mathlib.Decide.{ℕ_discrete}
use mathlib.Core.Path.{◌≡◌, refl, ◌∙◌}
use mathlib.Core.Bool.{Bool, cond, ◌&&◌}
use mathlib.Core.List.{List}
use lib.Dec.{ltb, leb}
use lib.ListN.{get_or}
use Rattle.paper.specs.declared.Trailer.{Trailer}
use Rattle.paper.specs.declared.Loop.{Loop}
use Rattle.paper.specs.Cases.{Case}
use Rattle.paper.specs.Files.{case_of}
use Rattle.paper.proofs.Says.{Says, holds, fails, says_lt, says_le, says_and, says_is, says_false}
use Rattle.loops.specs.Counts.{no_loop, count_in}
use Rattle.loops.specs.Handed.{Handed}
use Rattle.loops.proofs.Handing.{handed_header}
use Rattle.graph.specs.declared.marks.Mark.{Mark}
use Rattle.graph.specs.declared.marks.Rule.{Rule}
use Rattle.graph.specs.declared.marks.Rule.TheVariants.{Entry, Return, Count}
use Rattle.graph.specs.Filled.{Filled, Holds}
use Rattle.paper.specs.Known.{Shaped}
use Rattle.graph.specs.Marks.{loop_mark, marks, marked_to}
use Rattle.graph.proofs.Filling.{filled_out}

-- the mark is written at node v
abbrev pub At : Mark → ℕ → Type 0
At x v = (x.from ≤ v) × (v < x.to)

at_says : (x : Mark) (v : ℕ) → Says (At x v) (leb x.from v && ltb v x.to)
at_says x v = says_and (says_le _ _) (says_lt _ _)

module _ (m : ℕ → Mark) (start : ℕ) where
  pub marked_in : (v j : ℕ) → At (m j) v → marked_to m start v (suc j) ≡ (m j).value
  unfolding marked_to
  marked_in v j h = rw (says_is (at_says (m j) v) h) refl

  pub marked_out : (v j : ℕ) → ¬ At (m j) v → marked_to m start v (suc j) ≡ marked_to m start v j
  unfolding marked_to
  marked_out v j n = rw ((says_false (at_says (m j) v)).1 n) refl

  pub marked_start : (v : ℕ) → marked_to m start v 0 ≡ start
  unfolding marked_to
  marked_start v = refl

  -- what writing mark j does to the table
  pub marked_step : (n j : ℕ) (old new : List ℕ) (x : Mark) → x ≡ m j → Filled old new x.from x.to x.value →
      Holds (λ v. marked_to m start v j) n old → Holds (λ v. marked_to m start v (j + 1)) n new
  marked_step n j old new x e w trailer = record { room = omega (arith, w.same, trailer.room); at = λ v l. go v l (at_says x v) }
    where
      go : (v : ℕ) → v < n → {s : Bool} → Says (At x v) s → get_or new v 0 ≡ marked_to m start v (j + 1)
      go v l (holds p) = w.within v p.0 p.1 ∙ rw (add-one, marked_in v j (rw e at p), e) refl
      go v l (fails k) = filled_out w v k ∙ trailer.at v l ∙ rw (add-one, marked_out v j (rw e at k)) refl

-- a mark above x that was written: the last one
pub marked_has : (m : ℕ → Mark) (v x n : ℕ) → x < marked_to m 0 v n → (j : ℕ) × (j < n) × (At (m j) v × (x < (m j).value))
unfolding marked_to
marked_has m v x zero h = absurd (omega arith)
marked_has m v x (suc n) h = go (at_says (m n) v) h (marked_has m v x n)
  where
    go : {s : Bool} → Says (At (m n) v) s → x < cond s (m n).value (marked_to m 0 v n) →
        (x < marked_to m 0 v n → (j : ℕ) × (j < n) × (At (m j) v × (x < (m j).value))) → (j : ℕ) × (j < suc n) × (At (m j) v × (x < (m j).value))
    go (holds p) q ih = (n, omega arith, (p, q))
    go (fails k) q ih = let r = ih q in (r.0, omega (arith, r.1), r.2)

-- where later marks at v are no lower, the last is the greatest
pub marked_le : (m : ℕ → Mark) (v n : ℕ) → ((i j : ℕ) → i < j → j < n → At (m i) v → At (m j) v → (m i).value ≤ (m j).value) → (j : ℕ) → j < n → At (m j) v →
    (m j).value ≤ marked_to m 0 v n
unfolding marked_to
marked_le m v zero up j l p = absurd (omega arith)
marked_le m v (suc n) up j l p = go (at_says (m n) v) (marked_le m v n (λ i k a b. up i k a (omega arith)) j)
  where
    go : {s : Bool} → Says (At (m n) v) s → (j < n → At (m j) v → (m j).value ≤ marked_to m 0 v n) → (m j).value ≤ cond s (m n).value (marked_to m 0 v n)
    go (holds q) ih = elim (ℕ_discrete j n) [ yes e ↦ rw e (omega arith) | no k ↦ up j n (omega arith) (omega arith) p q ]
    go (fails q) ih = elim (ℕ_discrete j n) [ yes e ↦ absurd (q (rw e at p)) | no k ↦ ih (omega arith) p ]

-- a loop's mark lies within the nodes
pub mark_fits : (e : Case) → Shaped e → (rule : Rule) (j : ℕ) (x : Mark) → j < e.loops → x ≡ marks e rule j → (x.from ≤ x.to) × (x.to ≤ e.nodes)
unfolding marks loop_mark
mark_fits e w Entry j x q p = rw p (omega (arith, w.fits j q))
mark_fits e w Return j x q p = rw p (omega (arith, w.fits j q))
mark_fits e w Count j x q p = rw p (omega (arith, w.fits j q))

-- the mark that is made from the records
pub handed_mark : (f : List ℕ) (trailer : Trailer) (loops : List Loop) (rule : Rule) (j : ℕ) (x : Mark) → Handed f trailer loops → Shaped (case_of f trailer) → j < trailer.loops →
    x ≡ loop_mark rule (get_or loops j no_loop) (count_in loops (suc j) (get_or loops j no_loop).first) → x ≡ marks (case_of f trailer) rule j
unfolding marks case_of
handed_mark f trailer loops rule j x w s q h = h ∙ rw (handed_header f trailer loops w s j q, w.at j q) refl
