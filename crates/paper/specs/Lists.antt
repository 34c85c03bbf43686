-- Tests, sums, products and lists over the numbers below n. Each rule of the paper that looks for "the least place" is one `least`.
use Rattle.std.specs.Prelude.{ℕ, zero, suc, ◌+◌, ◌*◌, min, max, Bool, true, false, cond, List, [], ◌∷◌, ◌++◌, ltb, get_or}

unfoldable pub least_from : (ℕ → Bool) → ℕ → ℕ → ℕ
least_from p i zero = i
least_from p i (suc n) =
    let r = least_from p (suc i) n in
    cond (p i) i r

-- The least i below n at which p holds, and n where there is none.
unfoldable pub least : (ℕ → Bool) → ℕ → ℕ
least p n = least_from p 0 n

-- Whether p holds at some i below n.
unfoldable pub some : (ℕ → Bool) → ℕ → Bool
some p n = ltb (least p n) n

unfoldable pub sum_to : (ℕ → ℕ) → ℕ → ℕ
sum_to g zero = 0
sum_to g (suc n) = sum_to g n + g n

-- "Empty products are 1."
unfoldable pub product_to : (ℕ → ℕ) → ℕ → ℕ
product_to g zero = 1
product_to g (suc n) = product_to g n * g n

-- From 1, by the numbers below n that pass the test, in order: j makes k into `f j k`.
unfoldable pub chain : (ℕ → ℕ → ℕ) → (ℕ → Bool) → ℕ → ℕ
chain f test zero = 1
chain f test (suc n) =
    let k = chain f test n in
    cond (test n) (f n k) k

-- The least of a and of g's values below n.
unfoldable pub lowest_to : (ℕ → ℕ) → ℕ → ℕ → ℕ
lowest_to g a zero = a
lowest_to g a (suc n) = min (lowest_to g a n) (g n)

-- The greatest of g's values below n, and 0 where there is none.
unfoldable pub highest_to : (ℕ → ℕ) → ℕ → ℕ
highest_to g zero = 0
highest_to g (suc n) = max (highest_to g n) (g n)

-- g's values below n, in order.
unfoldable pub table : {A : Type 0} → (ℕ → A) → ℕ → List A
table g zero = []
table g (suc n) = g 0 ∷ table (λ i. g (suc i)) n

-- A table of n entries made in turn: f makes each from those before it, which it reads by index.
unfoldable pub in_turn : ((ℕ → ℕ) → ℕ → ℕ) → ℕ → List ℕ
in_turn f zero = []
in_turn f (suc n) =
    let t = in_turn f n in
    t ++ (f (λ i. get_or t i 0) n ∷ [])

abbrev pub bit : Bool → ℕ
bit true = 1
bit false = 0

-- The lists g 0, g 1, … one after another, n of them.
unfoldable pub each : (ℕ → List ℕ) → ℕ → List ℕ
each g zero = []
each g (suc n) = each g n ++ g n

-- What g says at p, p + d, p + 2d, …, n times.
unfoldable pub spaced : (ℕ → ℕ) → ℕ → ℕ → ℕ → List ℕ
spaced g d p zero = []
spaced g d p (suc n) = g p ∷ spaced g d (p + d) n

-- The n numbers of the list from p on. (Past its end a list reads as 0.)
abbrev pub part : List ℕ → ℕ → ℕ → List ℕ
part l p n = spaced (λ q. get_or l q 0) 1 p n
