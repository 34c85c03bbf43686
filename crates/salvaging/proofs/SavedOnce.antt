-- Two outcomes that the promise allows coincide; and 65,537 bytes of the input are enough to read.
use Prim.Native.Nat.{ℕ, ◌≤◌}
use native.Mathlib.Omega.{arith}
use native.Mathlib.Decide.{dec_le}
use mathlib.Core.Path.{◌≡◌, refl, ◌∙◌, ap}
use mathlib.Core.Logic.{dite}
use mathlib.Core.List.{List}
use lib.ListN.{length, take}
use lib.Seq.{take_all, length-take-le}
use borrow.Author.Tests.{lt-ltb}
use Rattle.paper.specs.Answers.{Verdict}
use Rattle.listing.proofs.Determined.{printed_determined}
use Rattle.salvaging.specs.declared.Saved.{Saved}
use Rattle.salvaging.specs.Said.{verdict_of, rest_of, said_of, Saves}

saved_as : {rest rest' said said' : ℕ} → rest ≡ rest' → said ≡ said' → ◌≡◌ {A = Saved} (record { rest = rest; said = said }) (record { rest = rest'; said = said' })
saved_as {rest} {rest'} {said} {said'} e k =
    ap (λ (n : ℕ). record { rest = n; said = said }) e ∙ ap (λ (n : ℕ). record { rest = rest'; said = n }) k

pub saves_determined : (v : Verdict) (input out text : List ℕ) (r r' : Saved) (after after' textAfter textAfter' : List ℕ) →
    Saves v input out text r after textAfter → Saves v input out text r' after' textAfter' → (r ≡ r') × (after ≡ after') × (textAfter ≡ textAfter')
saves_determined v input out text r r' after after' textAfter textAfter' p q =
    let a = printed_determined (rest_of input v) out r.rest r'.rest after after' p.rest q.rest in
    let b = printed_determined (said_of input v) text r.said r'.said textAfter textAfter' p.said q.said in
    (saved_as a.0 b.0, a.1, b.1)

-- one byte more than is allowed shows that the input is longer
pub salvage_read : (input : List ℕ) → (rest_of (take 65537 input) (verdict_of (take 65537 input)) ≡ rest_of input (verdict_of input)) × (said_of (take 65537 input) (verdict_of (take 65537 input)) ≡ said_of input (verdict_of input))
unfolding verdict_of
salvage_read input =
    dite (dec_le (length input) 65537)
    (λ (h : length input ≤ 65537). rw (take_all 65537 input h) (refl, refl))
    (λ (h : ¬ (length input ≤ 65537)).
    rw (lt-ltb 65536 (length (take 65537 input)) (omega (arith, length-take-le 65537 input (omega arith))), lt-ltb 65536 (length input) (omega arith)) (refl, refl))
