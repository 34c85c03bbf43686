-- The states that a run holds, one for each set in an array; and what FIFO stores.
use Prim.Native.Nat.{ℕ, zero, suc, ◌<◌}
use native.Mathlib.Nat.{not-suc-le-zero, le_of_suc-le-suc}
use mathlib.Core.Path.{◌≡◌, refl, sym, ap, ◌∙◌}
use mathlib.Core.Bool.{true}
use mathlib.Core.List.{List, [], ◌∷◌}
use lib.ListN.{length, get_or, set, replicate, length-set}
use lib.Seq.{get_or-set_same, get_or-set_other}
use Rattle.paper.specs.declared.SetState.{SetState}
use Rattle.paper.specs.declared.Stepped.{Stepped}
use Rattle.paper.specs.Machines.{empty_set, hits, fifo_step}
use Rattle.runs.specs.TraceRuns.{held, no_lines}

alike : {A : Type 0} (n q : ℕ) (x : A) → get_or (replicate n x) q x ≡ x
alike zero q x = refl
alike (suc n) zero x = refl
alike (suc n) (suc q) x = alike n q x

-- what stands past the end does not matter within the list
get_d_within : {A : Type 0} (l : List A) (i : ℕ) (d e : A) → i < length l → get_or l i d ≡ get_or l i e
get_d_within [] i d e h = absurd (not-suc-le-zero h)
get_d_within (x ∷ l) zero d e h = refl
get_d_within (x ∷ l) (suc i) d e h = get_d_within l i d e (le_of_suc-le-suc h)

pub held_empty : (n q : ℕ) → held (replicate n empty_set) q ≡ empty_set
unfolding held
held_empty n q = alike n q empty_set

module _ (l : List SetState) (at : ℕ) (low : at < length l) where
  pub held_at : held l at ≡ get_or l at no_lines
  unfolding held
  held_at = get_d_within l at empty_set no_lines low

  pub held_here : (s : SetState) → held (set l at s) at ≡ s
  unfolding held
  held_here s = get_or-set_same l at s empty_set low

  pub held_there : (s : SetState) (q : ℕ) → (q ≡ at → ⊥) → held (set l at s) q ≡ held l q
  unfolding held
  held_there s q n = get_or-set_other l at q s empty_set n

-- "A hit changes nothing"
pub fifo_same : (k b : ℕ) (s : SetState) (t : Stepped) → t ≡ fifo_step k s b → t.hit ≡ true → t.state ≡ s
unfolding fifo_step
fifo_same k b s t e h =
    let f : hits k s.lines b ≡ true = ap (λ (x : Stepped). x.hit) (sym e) ∙ h in
    ap (λ (x : Stepped). x.state) e ∙ rw f

-- only a miss is stored
pub record Stored (l : List SetState) (at : ℕ) (t : SetState) (m : List SetState) : Type 0 where
  pub long : length m ≡ length l
  pub here : held m at ≡ t
  pub there : (q : ℕ) → (q ≡ at → ⊥) → held m q ≡ held l q

module _ (l : List SetState) (at : ℕ) (t : SetState) (m : List SetState) (low : at < length l) where
  pub stored : m ≡ set l at t → Stored l at t m
  stored e =
      record {
        long = ap length e ∙ length-set l at t;
        here = rw e (held_here l at low t);
        there = λ q n. rw e (held_there l at low t q n);
      }

  pub unchanged : m ≡ l → t ≡ get_or l at no_lines → Stored l at t m
  unchanged e f = record { long = ap length e; here = rw e (held_at l at low ∙ sym f); there = λ q n. rw e }
