-- Laws of the lines of a set: where a block stands, and what a shift does to it.
use Prim.Native.Nat.{ℕ, suc, ◌+◌, ◌*◌, ◌≤◌, ◌<◌}
use mathlib.Core.Path.{◌≡◌, refl, sym, ◌∙◌, ap}
use mathlib.Core.Logic.{◌≢◌}
use mathlib.Core.List.{List, [], ◌∷◌}
use native.Mathlib.Decide.{ℕ_discrete, dec_le}
use native.Mathlib.Omega.{arith}
use borrow.Author.Tests.{eq-eqb, ne_eqb}
use lib.ListN.{length}
use Rattle.paper.specs.Machines.{line_of}
use Rattle.theory.proofs.Count.{sum, one, cnt, one_yes, one_no}
use Rattle.theory.proofs.Ideal.{miss, shift, lru, fifo, Apart}

-- the line of a block: line 0 holds it, or it stands one further down than in the lines after it
pub line_first : (x y : ℕ) (l : List ℕ) → y ≡ x → line_of (y ∷ l) x ≡ 0
unfolding line_of
line_first x y l p = rw eq-eqb

pub line_next : (x y : ℕ) (l : List ℕ) → y ≢ x → line_of (y ∷ l) x ≡ suc (line_of l x)
unfolding line_of
line_next x y l q = rw ne_eqb

pub line_cons : (x y : ℕ) (l : List ℕ) → line_of (y ∷ l) x ≤ suc (line_of l x)
line_cons x y l = elim (ℕ_discrete y x) [ yes p ↦ omega (arith, line_first x y l p) | no q ↦ omega (arith, line_next x y l q) ]

pub line_le : (x : ℕ) (l : List ℕ) → line_of l x ≤ length l
unfolding line_of
line_le x [] = omega arith
line_le x (y ∷ l) = omega (arith, line_cons x y l, line_le x l)

-- x stands in a line if its line is one of them, and only then
pub line_in : (x : ℕ) (l : List ℕ) → line_of l x < length l → 1 ≤ cnt x l
unfolding line_of sum
line_in x [] h = omega arith
line_in x (y ∷ l) h =
    elim (ℕ_discrete y x) [
      | yes p ↦ omega (arith, one_yes x y p)
      | no q ↦ omega (arith, line_in x l (omega (arith, line_next x y l q)))
    ]

pub in_line : (x : ℕ) (l : List ℕ) → 1 ≤ cnt x l → line_of l x < length l
unfolding sum
in_line x [] h = omega arith
in_line x (y ∷ l) h =
    elim (ℕ_discrete y x) [
      | yes p ↦ omega (arith, line_first x y l p)
      | no q ↦ omega (arith, line_next x y l q, in_line x l (omega (arith, one_no x y q)))
    ]

pub line_out : (x : ℕ) (l : List ℕ) → ¬ (1 ≤ cnt x l) → line_of l x ≡ length l
line_out x l o =
    elim (dec_le (suc (line_of l x)) (length l)) [ yes h ↦ absurd (o (line_in x l h)) | no h ↦ omega (arith, line_le x l) ]

-- a shift
pub length_shift : (x c : ℕ) (l : List ℕ) → length (shift x c l) ≡ length l
unfolding shift
length_shift x c [] = refl
length_shift x c (y ∷ l) = elim (ℕ_discrete y x) [ yes p ↦ rw eq-eqb | no q ↦ rw ne_eqb (ap suc (length_shift x y l)) ]

pub sum_shift : (w : ℕ → ℕ) (x c : ℕ) (l : List ℕ) → sum w (shift x c l) ≤ w c + sum w l
unfolding shift sum
sum_shift w x c [] = omega arith
sum_shift w x c (y ∷ l) =
    elim (ℕ_discrete y x) [ yes p ↦ rw eq-eqb (omega arith) | no q ↦ rw ne_eqb (omega (arith, sum_shift w x y l)) ]

-- where x stands in a line, it goes from there
pub sum_shift_in : (w : ℕ → ℕ) (x c : ℕ) (l : List ℕ) → 1 ≤ cnt x l → sum w (shift x c l) + w x ≤ w c + sum w l
unfolding shift sum
sum_shift_in w x c [] h = omega arith
sum_shift_in w x c (y ∷ l) h =
    elim (ℕ_discrete y x) [
      | yes p ↦ rw eq-eqb (omega (arith, ap w p))
      | no q ↦ rw ne_eqb (omega (arith, sum_shift_in w x y l (omega (arith, one_no x y q))))
    ]

-- another block comes at most one down
pub line_shift : (b x c : ℕ) (l : List ℕ) → x ≢ b → line_of (shift x c l) b ≤ line_of (c ∷ l) b
unfolding shift line_of
line_shift b x c [] n = omega arith
line_shift b x c (y ∷ l) n =
    elim (ℕ_discrete c b) [
      | yes p ↦ rw (eq-eqb c b) (omega arith)
      | no r ↦
          rw (ne_eqb c b)
          (elim (ℕ_discrete y x) [
            | yes p ↦ rw (eq-eqb y x) (omega (arith, line_next b y l (λ e. n (sym p ∙ e))))
            | no q ↦ rw (ne_eqb y x) (omega (arith, line_shift b x y l n))
          ])
    ]

pub line_front : (b : ℕ) (l : List ℕ) → line_of (lru b l) b ≡ 0
unfolding shift line_of
line_front b [] = refl
line_front b (y ∷ l) = rw (eq-eqb b b refl)

pub apart_lru : (x : ℕ) (l : List ℕ) → Apart l → Apart (lru x l)
apart_lru x l h z e =
    elim (dec_le 1 (cnt x l)) [
      | yes i ↦ omega (arith, sum_shift_in (one z) x x l i, h z e)
      | no o ↦
          elim (ℕ_discrete x z) [
            | yes p ↦ omega (arith, sum_shift (one z) x x l, one_yes z x p, ap (λ (u : ℕ). cnt u l) p)
            | no q ↦ omega (arith, sum_shift (one z) x x l, one_no z x q, h z e)
          ]
    ]

-- "A miss as in LRU. A hit changes nothing."
pub fifo_in : (x : ℕ) (l : List ℕ) → 1 ≤ cnt x l → fifo x l ≡ l
unfolding fifo
fifo_in x l h = rw (ne_eqb (cnt x l) 0 (omega arith))

pub fifo_out : (x : ℕ) (l : List ℕ) → ¬ (1 ≤ cnt x l) → fifo x l ≡ lru x l
unfolding fifo
fifo_out x l h = rw (eq-eqb (cnt x l) 0 (omega arith))

pub length_fifo : (x : ℕ) (l : List ℕ) → length (fifo x l) ≡ length l
length_fifo x l = elim (dec_le 1 (cnt x l)) [ yes i ↦ rw fifo_in | no i ↦ rw fifo_out (length_shift x x l) ]

pub apart_fifo : (x : ℕ) (l : List ℕ) → Apart l → Apart (fifo x l)
apart_fifo x l h = elim (dec_le 1 (cnt x l)) [ yes i ↦ rw fifo_in h | no i ↦ rw fifo_out (apart_lru x l h) ]

-- what an access costs at d a miss
pub times_in : (d x : ℕ) (l : List ℕ) → 1 ≤ cnt x l → d * miss x l ≡ 0
times_in d x l h = let e : miss x l ≡ 0 = omega arith in omega (arith, ap (λ (u : ℕ). d * u) e)

pub times_out : (d x : ℕ) (l : List ℕ) → ¬ (1 ≤ cnt x l) → d * miss x l ≡ d
times_out d x l h = let e : miss x l ≡ 1 = omega arith in omega (arith, ap (λ (u : ℕ). d * u) e)
