-- `writer::write_listed`: the rules decide, or else the room does.
use Rattle.std.specs.Prelude.{Err}
use borrow.Author.Rules.{rules}
use mathlib.Core.Path.{◌≡◌}
use Rattle.writer.proofs.Written.{ruled_on, ruled_out}
use Rattle.writer.proofs.write_listed.Goals as goal

pub write_fitting-requires : goal.write_fitting-requires
write_fitting-requires c =
    record { listed = c.requires; facts = c.rules_on.ensures.facts c.in_ok-rules_on.was }

pub returns : goal.returns
returns c =
    ruled_on _ _ _ c.rules_on.ensures.value _ _ c.in_ok-rules_on.was c.write_fitting.ensures

pub returns-in_err-rules_on : goal.returns-in_err-rules_on
returns-in_err-rules_on c =
    let e : c.from_residual.result ≡ Err c.in_err-rules_on.field-0.0 = search rules in
    rw e (ruled_out _ _ _ c.rules_on.ensures.value _ c.in_err-rules_on.was)
