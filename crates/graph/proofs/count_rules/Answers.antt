-- The least node whose count is too large, or none, decides rule 10; where none is, all counts stand in the table.
use mathlib.Core.Path.{refl}
use Rattle.paper.specs.Files.{case_of}
use Rattle.paper.specs.Verdicts.{count_rules}
use Rattle.paper.proofs.RuleLaws.{never}
use Rattle.layout.proofs.FirstLaws.{passes_first, stops_first}
use Rattle.graph.proofs.count_rules.Goals as goal

pub returns-in-Some : goal.returns-in-Some
unfolding count_rules case_of
returns-in-Some c =
    record { value = stops_first _ _ _ _ _ c.in-Some.ensures.value _ c.refuse.ensures; counted = never _ }

pub returns : goal.returns
unfolding count_rules case_of
returns c =
    record { value = passes_first _ _ _ _ c.in_default.ensures.value _ refl; counted = λ e. c.in_default.ensures.counted refl }
