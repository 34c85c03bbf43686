-- `answers::writes::read_lists`: each list is read where the one before it ends.
use Rattle.answers.proofs.AskingWrites.{lists_read}
use Rattle.answers.proofs.writes.read_lists.Goals as goal

pub returns : goal.returns
returns c =
    let r = lists_read c.args.request.now c.args.bytes.now c.requires.counted (c.read_list_at-after_nodes.ensures.numbers_after, c.read_list_at-after_nodes.ensures.value) (c.read_list_at-after_edges.ensures.numbers_after, c.read_list_at-after_edges.ensures.value) (c.read_list_at-after_loops.ensures.numbers_after, c.read_list_at-after_loops.ensures.value) (c.read_list_at-after_heads.ensures.numbers_after, c.read_list_at-after_heads.ensures.value)
    (c.read_list_at.ensures.numbers_after, c.read_list_at.ensures.value) in
    record { rows_after = r.0; value = r.1 }
