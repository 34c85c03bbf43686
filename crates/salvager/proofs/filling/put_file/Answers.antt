-- `salvager::filling::put_file`: the graph, the facts and the trailer. Each place is named by what was put there.
use Rattle.puts.proofs.Putting.{put_then}
use Rattle.salvager.proofs.SalvageEnds.{file_put}
use Rattle.salvager.proofs.filling.put_file.Goals as goal

pub returns : goal.returns
returns c =
    let a = c.args in
    file_put a.file.now a.trailer c.requires.trailer_value c.requires.laid a.s a.spans.now a.whys.now c.requires.sieved _ c.facts_at.ensures
    (put_then c.word-graph.ensures (put_then c.put_facts-facts.ensures.put c.put_trailer.ensures))
