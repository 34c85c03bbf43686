-- `writer::sections::put_offsets`: where each section begins.
use native.Mathlib.Omega.{arith}
use borrow.Author.Rules.{rules}
use Rattle.writer.proofs.LoopBytes.{facts_narrow}
use Rattle.writer.proofs.sections.put_offsets.Goals as goal

pub overflow_cast-facts_at : goal.overflow_cast-facts_at
overflow_cast-facts_at c =
    omega (arith, c.facts_at.ensures, facts_narrow c.args.trailer (search rules) (search rules) (search rules))
