-- The first of the three that is told of is what is refused; where none is, nothing is.
use Rattle.std.specs.Prelude.{Err}
use mathlib.Core.Path.{◌∙◌, ap}
use Rattle.layout.proofs.FirstLaws.{told_first}
use Rattle.evidence.proofs.Scopes.{rows_sound, edge_bad, evidence_16, evidence_edge, evidence_18, evidence_kept}
use Rattle.evidence.proofs.evidence_rules.Goals as goal

pub at_node-requires-clause-j_bound : goal.at_node-requires-clause-j_bound
at_node-requires-clause-j_bound c = (told_first _ _ _ c.in-Some.ensures).1

pub returns-in-Some : goal.returns-in-Some
returns-in-Some c = c.at_node.ensures ∙ evidence_16 _ _ _ c.requires.stands _ _ c.in-Some.ensures

pub bad_steps-requires-clause-sound_rows : goal.bad_steps-requires-clause-sound_rows
bad_steps-requires-clause-sound_rows c = rows_sound _ _ _ c.requires.stands c.in_default.ensures

pub step_number-number-requires-clause-bad_step : goal.step_number-number-requires-clause-bad_step
step_number-number-requires-clause-bad_step c = edge_bad _ _ _ c.requires.stands _ c.in-Some-bad_steps.ensures

pub returns-in-Some-bad_steps : goal.returns-in-Some-bad_steps
returns-in-Some-bad_steps c =
    ap Err c.refuse_at.ensures
    ∙ rw c.step_number-number.ensures (evidence_edge _ _ _ c.requires.stands _ c.in_default.ensures _ c.in-Some-bad_steps.ensures)

pub at_node-requires-in-Some-bad_manys-clause-j_bound : goal.at_node-requires-in-Some-bad_manys-clause-j_bound
at_node-requires-in-Some-bad_manys-clause-j_bound c = (told_first _ _ _ c.in-Some-bad_manys.ensures).1

pub returns-in-Some-bad_manys : goal.returns-in-Some-bad_manys
returns-in-Some-bad_manys c =
    c.at_node-in-Some-bad_manys.ensures
    ∙ evidence_18 _ _ _ c.requires.stands _ c.in_default.ensures c.in_default-bad_steps.ensures _ c.in-Some-bad_manys.ensures

pub returns : goal.returns
returns c =
    evidence_kept _ _ _ c.requires.stands _ c.in_default.ensures c.in_default-bad_steps.ensures c.in_default-bad_manys.ensures
