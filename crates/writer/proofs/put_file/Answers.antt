-- `writer::put_file`: nodes, edges, loops, facts and the trailer, one after another. Each place is named by what was put there.
use native.Mathlib.Omega.{arith}
use Rattle.puts.proofs.Putting.{put_length, put_then}
use Rattle.writer.proofs.Words.{put_as}
use Rattle.writer.proofs.Written.{facts_fit, file_parts}
use Rattle.writer.proofs.put_file.Goals as goal

pub put_facts-after_facts-requires : goal.put_facts-after_facts-requires
put_facts-after_facts-requires c =
    let a = c.args in
    record {
      facts_fit = facts_fit a.trailer a.lists.now.nodes.now a.lists.now.edges.now a.lists.now.loops.now a.lists.now.heads.now a.lists.now.rows.now c.requires.listed;
      rows_in_bounds = omega (
        arith,
        c.put_loops-after_loops.ensures.value,
        put_length c.put_loops-after_loops.ensures.put,
        c.put_words-after_edges.ensures.value,
        put_length c.put_words-after_edges.ensures.put,
        c.put_words-after_nodes.ensures.value,
        put_length c.put_words-after_nodes.ensures.put,
        c.requires.listed.nodes,
        c.requires.listed.edges,
        c.requires.trailer_size_in_bounds,
      );
    }

pub returns : goal.returns
returns c =
    let a = c.args in
    put_as (file_parts a.trailer a.lists.now.nodes.now a.lists.now.edges.now a.lists.now.loops.now a.lists.now.heads.now a.lists.now.rows.now c.requires.listed)
    (put_then c.put_words-after_nodes.ensures.put
    (put_then c.put_words-after_edges.ensures.put
    (put_then c.put_loops-after_loops.ensures.put (put_then c.put_facts-after_facts.ensures.put c.put_trailer.ensures.put))))
