-- Rules 8 to 10 with one number for each node, in place of a search among the loops for each edge or node.
use Rattle.std.specs.Prelude.{ℕ, zero, suc, ◌+◌, Bool, false, cond, ◌&&◌, ltb, leb}
use Rattle.paper.specs.declared.Loop.{Loop}
use Rattle.paper.specs.Cases.{Case}
use Rattle.paper.specs.Graphs.{bad_entry, bad_return}
use Rattle.loops.specs.Counts.{shown, count_to}
use Rattle.graph.specs.declared.marks.Mark.{Mark}
use Rattle.graph.specs.declared.marks.Rule.{Rule}
use Rattle.graph.specs.declared.marks.Rule.TheVariants.{Entry, Return, Count}

-- What loop l marks, where n is its header's count. 8: its header, at its other nodes; 9: the node after its last, at its header; 10: n, at all its nodes.
unfoldable pub loop_mark : Rule → Loop → ℕ → Mark
loop_mark Entry l n = record { from = l.first + 1; to = l.last + 1; value = l.first }
loop_mark Return l n = record { from = l.first; to = l.first + 1; value = l.last + 1 }
loop_mark Count l n = record { from = l.first; to = l.last + 1; value = n }

unfoldable pub marks : Case → Rule → ℕ → Mark
marks e rule j = loop_mark rule (e.loop j) (shown (count_to e (e.loop j).first (suc j)))

-- What node v has after the first j marks: the last that was written there.
unfoldable pub marked_to : (ℕ → Mark) → ℕ → ℕ → ℕ → ℕ
marked_to m start v zero = start
marked_to m start v (suc j) = cond (leb (m j).from v && ltb v (m j).to) (m j).value (marked_to m start v j)

-- The edge u to v breaks rule 8 or 9, where v has the mark x. No edge breaks rule 10.
unfoldable pub breaks : Rule → ℕ → ℕ → ℕ → Bool
breaks Entry u v x = ltb u x
breaks Return u v x = leb v u && leb x u
breaks Count u v x = false

unfoldable pub edge_rule : Case → Rule → ℕ → Bool
edge_rule e Entry = bad_entry e
edge_rule e Return = bad_return e
edge_rule e Count = λ i. false
