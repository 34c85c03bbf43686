-- `salvager::salvage_in`: the graph's refusal, or what comes of the facts.
use Rattle.std.specs.Prelude.{Err}
use borrow.Author.Rules.{rules}
use mathlib.Core.Path.{◌≡◌}
use Rattle.salvager.proofs.SalvageEnds.{graph_shaped, graph_out, graph_on}
use Rattle.salvager.proofs.salvage_in.Goals as goal

pub returns-in_err-graph_rules : goal.returns-in_err-graph_rules
returns-in_err-graph_rules c =
    let e : c.from_residual.result ≡ Err c.in_err-graph_rules.field-0.0 = search rules in
    rw e (graph_out _ _ _ c.graph_rules.ensures.value _ _ _ _ c.in_err-graph_rules.was)

pub sift_and_fill-requires : goal.sift_and_fill-requires
sift_and_fill-requires c =
    record { laid = c.requires.laid; shaped = graph_shaped _ _ _ c.graph_rules.ensures.value c.in_ok-graph_rules.was; trailer_value = c.requires.trailer_value }

pub returns : goal.returns
returns c =
    graph_on _ _ _ c.graph_rules.ensures.value _ _ _ _ _ _ c.in_ok-graph_rules.was c.sift_and_fill.ensures
