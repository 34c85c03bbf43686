-- What `time` answers of a file whose trailer has been read: the check's refusals, else what crates/timing answers for the total.
use Rattle.std.specs.Prelude.{ℕ, List, length, get_or, Result, Ok}
use Rattle.paper.specs.declared.Trailer.{Trailer}
use Rattle.paper.specs.Bounds.{total_bound}
use Rattle.paper.specs.Files.{case_of}
use Rattle.paper.specs.Rules.{follow}
use Rattle.paper.specs.Verdicts.{graph_rules, fact_rules}
use Rattle.paper.specs.Times.{graph_time, time_rules, time_answer}
use Rattle.paper.specs.declared.Refusal.{Refusal}

unfoldable pub time_for : List ℕ → Trailer → List ℕ → ℕ → ℕ → Result ℕ Refusal
time_for f trailer costs penalty p =
    let e = case_of f trailer in
    let time = graph_time e (λ v. get_or costs v 0) penalty (total_bound e p) in
    time_answer (follow (graph_rules e (fact_rules f trailer (Ok tt))) (time_rules e.nodes (length costs) time (Ok tt))) time
