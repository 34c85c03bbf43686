-- `answers::salvages::framed` puts the numbers behind the lent bytes, which stay as the salvage left them, and the head so that it ends where they begin.
use mathlib.Core.List.{◌++◌}
use lib.ListN.{drop}
use borrow.Author.Rules.{rules}
use Rattle.frames.specs.Places.{lent_at}
use Rattle.frames.specs.Frames.{salvage_asked}
use Rattle.frames.proofs.Answering.{answered_as, answered_before}
use Rattle.answers.proofs.Asking.{drop_place}
use Rattle.answers.proofs.AskingSalvages.{put_behind, salvage_framed}
use Rattle.answers.proofs.salvages.framed.Goals as goal

pub returns : goal.returns
returns c =
    let asked = salvage_asked c.args.request.now (c.args.file.now ++ drop lent_at c.args.bytes.now) in
    let l = c.put_list.new.out in
    let e = put_behind c.args.bytes.now asked.out lent_at c.u32_at.ensures (search rules) c.salvaged.ensures.bytes_after c.put_list.ensures.put (search rules) in
    answered_as (salvage_framed asked c.salvage-head.ensures c.salvaged.ensures.value c.salvaged.ensures.numbers_after)
    (answered_before {l = l} _ (search rules) c.salvage_front.ensures.put (drop_place l c.salvage_front.result lent_at (search rules) e))
