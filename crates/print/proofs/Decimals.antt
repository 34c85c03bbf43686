-- The paper's decimal is std's: the fewest digits that hold the number, the most significant first.
use Prim.Native.Nat.{ℕ, zero, suc, ◌*◌, ◌/◌, ◌%◌, ◌^◌, ◌≤◌, ◌<◌}
use native.Mathlib.Numerals.{unary_clauses}
use native.Mathlib.Nat.{pow-suc, one-le-pow}
use native.Mathlib.Omega.{arith}
use mathlib.Core.Path.{◌≡◌, refl, sym, ◌∙◌}
use mathlib.Core.List.{[], ◌∷◌}
use borrow.Author.Tests.{lt-ltb, le-ltb}
use native.Mathlib.Decide.{dec_le}
use mathlib.Core.Logic.{dite}
use Rattle.std.specs.Fmt as Fmt
use Rattle.std.proofs.lemmas.Fmt.{decimal_digit, decimal_step}
use Rattle.paper.specs.Listings.{digit, decimal_in, decimal}
use Rattle.io.specs.Digits.{last_digits, hex_digit_ascii, IsDigitCount}

decimal_in_lem : (turns n : ℕ) → n ≤ turns → n < 2 ^ 64 → decimal_in turns n ≡ Fmt.decimal n
unfolding decimal_in
decimal_in_lem zero n h b = sym (decimal_digit n (omega arith))
decimal_in_lem (suc turns) n h b =
    dite (dec_le 10 n)
    (λ (k : 10 ≤ n). rw (le-ltb n 10 k, decimal_in_lem turns (n / 10) (omega arith) (omega arith)) (sym (decimal_step n k b)))
    (λ (k : ¬ (10 ≤ n)). rw (lt-ltb n 10 (omega arith)) (sym (decimal_digit n (omega arith))))

pub decimal_std : (n : ℕ) → n < 2 ^ 64 → decimal n ≡ Fmt.decimal n
unfolding decimal
decimal_std n b = decimal_in_lem n n (omega arith) b

last_digit : (n : ℕ) → hex_digit_ascii (n % 10) ∷ [] ≡ digit (n % 10)
last_digit n = rw (lt-ltb (n % 10) 10 (omega arith)) refl

small : (n r : ℕ) → n < 10 → IsDigitCount 10 1 n r → digit n ≡ last_digits 10 r n
small n zero h f = absurd (omega arith)
small n (suc zero) h f =
    let e : n % 10 ≡ n = omega arith in
    sym (last_digit n ∙ rw e refl)
small n (suc (suc r)) h f =
    let m : 10 ^ r * 10 ≤ n = simp unary_clauses at (f.2 (omega arith)) in
    absurd (omega (arith, one-le-pow r 10 (omega arith)))

more : (n r : ℕ) → 10 ≤ n → IsDigitCount 10 1 n (suc r) → IsDigitCount 10 1 (n / 10) r
more n zero h f = absurd (omega arith)
more n (suc r) h f =
    let m : 10 ^ r * 10 ≤ n = simp unary_clauses at (f.2 (omega arith)) in
    (omega arith, omega (arith, f.1, pow-suc 10 (suc r)), λ k. simp unary_clauses (omega arith))

decimal_in_digits : (turns n r : ℕ) → n ≤ turns → IsDigitCount 10 1 n r → decimal_in turns n ≡ last_digits 10 r n
unfolding decimal_in
decimal_in_digits zero n r h f = small n r (omega arith) f
decimal_in_digits (suc turns) n zero h f = absurd (omega arith)
decimal_in_digits (suc turns) n (suc r) h f =
    dite (dec_le 10 n)
    (λ (k : 10 ≤ n). rw (le-ltb n 10 k, last_digit n, decimal_in_digits turns (n / 10) r (omega arith) (more n r k f)) refl)
    (λ (k : ¬ (10 ≤ n)). rw (lt-ltb n 10 (omega arith)) (small n (suc r) (omega arith) f))

-- and the fewest digits that hold the number
pub decimal_digits : (n r : ℕ) → IsDigitCount 10 1 n r → decimal n ≡ last_digits 10 r n
unfolding decimal
decimal_digits n r f = decimal_in_digits n n r (omega arith) f
