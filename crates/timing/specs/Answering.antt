-- What is answered of a file that passes the check's own rules, for the total miss bound that it has.
use Rattle.std.specs.Prelude.{ℕ, List, length, Result, Ok}
use Rattle.paper.specs.Cases.{Case}
use Rattle.paper.specs.Times.{graph_time, time_rules, time_answer}
use Rattle.timing.specs.Ready.{entry}
use Rattle.paper.specs.declared.Refusal.{Refusal}

unfoldable pub answer_for : Case → List ℕ → ℕ → ℕ → Result ℕ Refusal
answer_for e costs penalty total =
    let time = graph_time e (entry costs) penalty total in
    time_answer (time_rules e.nodes (length costs) time (Ok tt)) time
