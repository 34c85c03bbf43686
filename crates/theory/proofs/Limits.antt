-- A walk that keeps the limits: a header's visits are at most its bound times the stays. No edge matters here.
use Prim.Native.Nat.{ℕ, ◌+◌, ◌*◌, ◌≤◌}
use native.Mathlib.Omega.{arith}
use native.Mathlib.Nat.{mul-add, mul-one, mul-zero}
use mathlib.Core.Path.{◌≡◌, refl, sym, ◌∙◌, ap}
use mathlib.Core.Logic.{⊎_elim}
use mathlib.Core.Bool.{Bool, true, false, not, ◌&&◌, true≢false}
use mathlib.Core.Option.{Option, none, some}
use mathlib.Core.List.Memᴰ
use mathlib.Core.List.{List, [], ◌∷◌, ◌++◌, append_assoc, Memᴰ, head?, get_last?}
use borrow.Author.Tests.{ne_eqb}
use lib.Dec.{eqb}
use Rattle.paper.specs.declared.Loop.{Loop}
use Rattle.paper.specs.Lists.{bit}
use Rattle.paper.specs.Cases.{inside}
use Rattle.paper.specs.Walks.{visits, outside, Stay}
use Rattle.paper.proofs.GraphLaws.{inside_says}
use Rattle.paper.proofs.Says.{says_is}
use Rattle.theory.proofs.Tally.{tally, begins, stays}

last_of : (a : List ℕ) (v : ℕ) → get_last? (a ++ (v ∷ [])) ≡ some v
last_of [] v = refl
last_of (x ∷ []) v = refl
last_of (x ∷ y ∷ a) v = last_of (y ∷ a) v

visits_more : (t : ℕ) (a : List ℕ) (v : ℕ) → visits t (a ++ (v ∷ [])) ≡ visits t a + bit (eqb v t)
visits_more t [] v = omega arith
visits_more t (u ∷ a) v = omega (arith, visits_more t a v)

module _ (l : Loop) (fits : l.first ≤ l.last) (w : List ℕ) (limit : (s : List ℕ) → Stay l w s → visits l.first s ≤ l.bound) where
  -- The walk was `before`, ending outside, then `run`, inside, and `rest` is to come. `out`: the run has not begun; else its bound is paid.
  record At (before run rest : List ℕ) (out : Bool) : Type 0 where
    parts : w ≡ before ++ (run ++ rest)
    within : (v : ℕ) → Memᴰ v run → inside l v ≡ true
    entered : outside l (get_last? before) ≡ true
    begun : out ≡ true → visits l.first run ≡ 0

  module _ (before run rest : List ℕ) where
    -- the run is a stay
    stay : (out : Bool) → At before run rest out → outside l (head? rest) ≡ true → visits l.first run ≤ l.bound * bit (not out)
    stay true a o = omega (arith, a.begun refl, mul-zero l.bound)
    stay false a o =
        omega (
          arith,
          mul-one l.bound,
          limit run (record { before = before; after = rest; parts = a.parts; within = a.within; entered = a.entered; left = o }),
        )

    -- one visit more inside, and outside
    longer : (v : ℕ) (out : Bool) → At before run (v ∷ rest) out → inside l v ≡ true → At before (run ++ (v ∷ [])) rest false
    longer v out a i =
        record {
          parts = a.parts ∙ simp append_assoc;
          within = λ u m. ⊎_elim (a.within u) (λ z. ap (inside l) (Memᴰ.eq_of_singleton z) ∙ i) (Memᴰ.append_cases run m);
          entered = a.entered;
          begun = λ z. absurd (true≢false (sym z));
        }

    over : (v : ℕ) (out : Bool) → At before run (v ∷ rest) out → inside l v ≡ false → At (before ++ (run ++ (v ∷ []))) [] rest true
    over v out a i =
        record {
          parts = a.parts ∙ simp append_assoc;
          within = λ u m. absurd (Memᴰ.not-nil m);
          entered = rw (← append_assoc before run (v ∷ []), last_of (before ++ run) v, i) refl;
          begun = λ z. refl;
        }

  not_header : (v : ℕ) → inside l v ≡ false → eqb v l.first ≡ false
  not_header v i = ne_eqb v l.first (λ q. absurd (true≢false (sym (says_is (inside_says l v) (omega arith)) ∙ i)))

  one : (out : Bool) → l.bound * bit out + l.bound * bit (not out) ≡ l.bound
  one true = omega arith
  one false = omega arith

  visits_paid : (rest before run : List ℕ) (p : Option ℕ) → At before run rest (outside l p) →
      visits l.first run + visits l.first rest ≤ l.bound * (tally (begins l) p rest + bit (not (outside l p)))
  visits_paid [] before run p a = omega (arith, stay before run [] (outside l p) a refl)
  visits_paid (v ∷ rest) before run p a = go (inside l v) refl (outside l p) a (visits_paid rest)
    where
      go : (i : Bool) → inside l v ≡ i → (out : Bool) → At before run (v ∷ rest) out →
          ((before run : List ℕ) (p : Option ℕ) → At before run rest (outside l p) →
          visits l.first run + visits l.first rest ≤ l.bound * (tally (begins l) p rest + bit (not (outside l p)))) →
          visits l.first run + visits l.first (v ∷ rest) ≤ l.bound * (bit (inside l v && out) + tally (begins l) (some v) rest + bit (not out))
      go true i out a ih =
          let r = ih before (run ++ (v ∷ [])) (some v) (rw i (longer before run rest v out a i)) in
          let q = rw i at r in
          rw (i, mul-add) (omega (arith, visits_more l.first run v, one out, mul-add l.bound (tally (begins l) (some v) rest) 1))
      go false i out a ih =
          let r = ih (before ++ (run ++ (v ∷ []))) [] (some v) (rw i (over before run rest v out a i)) in
          let q = rw i at r in
          rw (i, not_header v i, mul-add) (omega (arith, stay before run (v ∷ rest) out a (rw i refl)))

  pub visits_stays : visits l.first w ≤ l.bound * stays l w
  visits_stays =
      omega (
        arith,
        visits_paid w [] [] none (record { parts = refl; within = λ u m. absurd (Memᴰ.not-nil m); entered = refl; begun = λ z. refl }),
      )
