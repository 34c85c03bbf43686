-- `frames::numbers::put` puts the least byte first: after it the bytes of the number divided by 256 are left.
use Prim.Native.Nat.{ℕ, ◌+◌, ◌-◌}
use native.Mathlib.Omega.{arith}
use mathlib.Core.Path.{◌≡◌, refl, subst}
use Rattle.puts.proofs.Putting.{Left, left_start, left_more, left_end, put_one}
use Rattle.frames.specs.Little.{little}
use Rattle.frames.proofs.Bytes.{next_byte, no_byte, put_to}
use Rattle.frames.proofs.numbers.put.Goals as goal

pub loop-to-init : goal.loop-to-init
loop-to-init c =
    let e : c.args.width ≡ c.args.at + c.args.width - c.args.at = omega arith in
    subst (λ (w : ℕ). Left c.args.out.now c.args.at (little c.args.width c.args.x) c.args.out.now c.args.at (little w c.args.x)) e left_start

pub loop-to-preserved : goal.loop-to-preserved
loop-to-preserved c = left_more put_one (next_byte _ c.loop-to.invariant (omega arith))

pub returns : goal.returns
returns c =
    record { put = put_to (omega arith) (left_end (no_byte _ c.loop-to.invariant (omega arith))); value = refl }
