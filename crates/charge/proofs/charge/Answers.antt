-- The numbers begin as 0; the facts are passed over, then the nodes and the sets, and what comes later asks for what the facts left.
use mathlib.Core.Path.{◌∙◌}
use Rattle.paper.specs.Files.{case_of}
use Rattle.charge.proofs.Cover.{covered_start}
use Rattle.charge.proofs.PartLaws.{part_start, part_self, part_end}
use Rattle.charge.proofs.Tallies.{grouped_start}
use Rattle.charge.proofs.charge.Goals as goal

pub charge_facts-requires-clause-covered : goal.charge_facts-requires-clause-covered
unfolding case_of
charge_facts-requires-clause-covered c = covered_start _ c.requires.laid.nodes_high

pub charge_facts-requires-clause-facts_added : goal.charge_facts-requires-clause-facts_added
charge_facts-requires-clause-facts_added c = grouped_start _ _ _ _

pub charge_facts-requires-clause-part : goal.charge_facts-requires-clause-part
charge_facts-requires-clause-part c = part_self _ _ _ _ _ _ _ (part_start _ _ _ _ c.requires.in_bounds c.clear.ensures)

pub charge_rest-requires-clause-part : goal.charge_rest-requires-clause-part
charge_rest-requires-clause-part c = part_self _ _ _ _ _ _ _ c.charge_facts.ensures.all_written

pub returns : goal.returns
unfolding case_of
returns c =
    let w = part_start (case_of c.args.file.now c.args.trailer) c.args.interruptions _ _ c.requires.in_bounds c.clear.ensures in
    part_end _ _ c.args.numbers.now _ _ (c.charge_facts.ensures.all_written.later ∙ w.later) c.charge_rest.ensures
