-- What is said n times, lists one after another, and the parts of a list.
use Prim.Native.Nat.{ℕ, zero, suc, ◌+◌, ◌*◌, ◌≤◌, ◌<◌}
use native.Mathlib.Omega.{arith}
use native.Mathlib.Decide.{ℕ_discrete}
use native.Mathlib.Nat.{mul-suc, mul-zero, mul-add}
use mathlib.Core.Path.{◌≡◌, refl, sym, ◌∙◌, ap}
use mathlib.Core.List.{List}
use lib.ListN.{length, get_or, length-append}
use lib.Seq.{ext_get_or}
use Rattle.paper.specs.Lists.{sum_to, each, spaced, part}
use Rattle.paper.proofs.Spaces.{length_spaced, get_d_spaced, spaced_append}

-- what is said n times
module _ (g : ℕ → ℕ) (d : ℕ) where
  -- parts that follow one another, w 0, w 1, … long
  pub each_spaced : (w q : ℕ → ℕ) (p n : ℕ) → ((i : ℕ) → i < n → q i ≡ p + d * sum_to w i) → each (λ i. spaced g d (q i) (w i)) n ≡ spaced g d p (sum_to w n)
  unfolding each spaced sum_to
  each_spaced w q p zero h = refl
  each_spaced w q p (suc n) h = rw (each_spaced w q p n (λ i l. h i (omega arith)), h n (omega arith), spaced_append g d p (sum_to w n) (w n)) refl

pub sum_same : (v w : ℕ → ℕ) (n : ℕ) → ((i : ℕ) → i < n → v i ≡ w i) → sum_to v n ≡ sum_to w n
unfolding sum_to
sum_same v w zero h = refl
sum_same v w (suc n) h = omega (arith, sum_same v w n (λ i l. h i (omega arith)), h n (omega arith))

pub sum_times : (d : ℕ) (w : ℕ → ℕ) (n : ℕ) → sum_to (λ i. d * w i) n ≡ d * sum_to w n
unfolding sum_to
sum_times d w zero = omega (arith, mul-zero d)
sum_times d w (suc n) = omega (arith, sum_times d w n, mul-add d (sum_to w n) (w n))

pub sum_all : (d n : ℕ) → sum_to (λ i. d) n ≡ d * n
unfolding sum_to
sum_all d zero = omega (arith, mul-zero d)
sum_all d (suc n) = omega (arith, sum_all d n, mul-suc d n)

pub length_each : (g : ℕ → List ℕ) (w : ℕ → ℕ) (n : ℕ) → ((i : ℕ) → i < n → length (g i) ≡ w i) → length (each g n) ≡ sum_to w n
unfolding each sum_to
length_each g w zero h = refl
length_each g w (suc n) h = length-append (each g n) (g n) ∙ omega (arith, length_each g w n (λ i l. h i (omega arith)), h n (omega arith))

pub each_same : (g h : ℕ → List ℕ) (n : ℕ) → ((i : ℕ) → i < n → g i ≡ h i) → each g n ≡ each h n
unfolding each
each_same g h zero e = refl
each_same g h (suc n) e = rw (each_same g h n (λ i l. e i (omega arith)), e n (omega arith)) refl

pub each_rises : (g : ℕ → List ℕ) (i n : ℕ) → i ≤ n → length (each g i) ≤ length (each g n)
unfolding each
each_rises g i zero h =
    let e : i ≡ 0 = omega arith in
    rw e (omega arith)
each_rises g i (suc n) h =
    elim (ℕ_discrete i (suc n)) [
      | yes e ↦ rw e (omega arith)
      | no m ↦ omega (arith, each_rises g i n (omega arith), length-append (each g n) (g n))
    ]

pub part_all : (l : List ℕ) → part l 0 (length l) ≡ l
part_all l =
    ext_get_or 0 _ _ (length_spaced _ 1 0 (length l))
    (λ i h. get_d_spaced _ 1 0 (length l) i (omega (arith, length_spaced (λ q. get_or l q 0) 1 0 (length l))) ∙ ap (λ (k : ℕ). get_or l k 0) (omega arith))

-- a list is its parts, one after another
pub parts_all : (l : List ℕ) (w q : ℕ → ℕ) (n : ℕ) → length l ≡ sum_to w n → ((i : ℕ) → i < n → q i ≡ sum_to w i) → each (λ i. part l (q i) (w i)) n ≡ l
parts_all l w q n e h = each_spaced (λ p. get_or l p 0) 1 w q 0 n (λ i m. omega (arith, h i m)) ∙ ap (λ (k : ℕ). part l 0 k) (sym e) ∙ part_all l
