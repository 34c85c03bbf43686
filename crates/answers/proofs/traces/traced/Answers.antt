-- `answers::traces::traced` asks by the arguments in their order, on the blocks and the marks that are lent.
use Prim.Native.Nat.{◌+◌, ◌*◌}
use mathlib.Core.Path.{◌∙◌}
use borrow.Author.Rules.{rules}
use lib.ListN.{length}
use Rattle.frames.specs.Places.{lent_at}
use Rattle.answers.proofs.Asking.{trace_asked_lem, tail_left}
use Rattle.answers.proofs.traces.traced.Goals as goal

pub returns : goal.returns
returns c =
    let a = trace_asked_lem c.args.request.now c.args.bytes.now c.requires.blocks_len c.read_list.ensures c.trace_run.ensures in
    record { value = a.0; bytes_after = tail_left c.args.bytes.now _ (lent_at + 2 * length c.args.blocks.now) (search rules) ∙ a.1 }
