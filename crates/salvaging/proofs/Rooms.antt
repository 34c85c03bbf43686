-- Where nothing is refused, the rest and the list of dropped facts have the room that is lent to them.
use Rattle.std.specs.Prelude.{Ok, Err}
use Prim.Native.Nat.{ℕ, ◌≤◌}
use mathlib.Core.Path.{◌≡◌, sym, ◌∙◌}
use mathlib.Core.Bool.{◌||◌}
use mathlib.Core.List.{List}
use lib.Dec.{ltb}
use lib.ListN.{length}
use borrow.Author.Tests.{ltb-false}
use Rattle.paper.specs.Answers.{Verdict}
use Rattle.paper.specs.Files.{read_case}
use Rattle.paper.specs.Rules.{rule}
use Rattle.paper.specs.Verdicts.{layout_rules, graph_rules}
use Rattle.paper.specs.Salvaging.{salvaged, dropped_list, salvage_verdict}
use Rattle.paper.proofs.RuleLaws.{never, past, follow, hands_then}
use Rattle.paper.proofs.Says.{neither}
use Rattle.paper.proofs.VerdictLaws.{hands_layout, hands_graph}

follow_rest : (v rest : Verdict) → follow v rest ≡ Ok tt → rest ≡ Ok tt
follow_rest (Ok tt) rest h = h
follow_rest (Err r) rest h = never r h

pub both_fit : (f : List ℕ) (room list_room : ℕ) → salvage_verdict f room list_room ≡ Ok tt → (length (salvaged f) ≤ room) × (length (dropped_list f) ≤ list_room)
unfolding salvage_verdict
both_fit f room list_room h =
    let t = ltb room (length (salvaged f)) || ltb list_room (length (dropped_list f)) in
    let whole = hands_then (layout_rules f) (graph_rules (read_case f)) (hands_layout f) (hands_graph (read_case f)) (rule 20 0 t (Ok tt)) in
    let b = neither (ltb room (length (salvaged f))) (ltb list_room (length (dropped_list f))) (past 20 0 t (Ok tt) (follow_rest (layout_rules f (graph_rules (read_case f) (Ok tt))) (rule 20 0 t (Ok tt)) (sym whole ∙ h))).0 in
    (ltb-false room (length (salvaged f)) b.0, ltb-false list_room (length (dropped_list f)) b.1)
