-- Rule 6's least edge decides, then rule 7's least loop.
use mathlib.Core.Path.{refl}
use Rattle.paper.specs.Verdicts.{shape_rules}
use Rattle.layout.proofs.FirstLaws.{passes_first, stops_first}
use Rattle.graph.proofs.shape_rules_on.Goals as goal

pub returns-in-Some : goal.returns-in-Some
unfolding shape_rules
returns-in-Some g c = stops_first _ _ _ _ _ c.in-Some.ensures _ c.refuse.ensures

pub returns-in-Some-first_bad_loop : goal.returns-in-Some-first_bad_loop
unfolding shape_rules
returns-in-Some-first_bad_loop g c = passes_first _ _ _ _ c.in_default.ensures _ (stops_first _ _ _ _ _ c.in-Some-first_bad_loop.ensures _ c.refuse-in-Some-first_bad_loop.ensures)

pub returns : goal.returns
unfolding shape_rules
returns g c = passes_first _ _ _ _ c.in_default.ensures _ (passes_first _ _ _ _ c.in_default-first_bad_loop.ensures _ refl)
