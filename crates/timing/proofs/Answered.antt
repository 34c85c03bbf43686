-- 20 and 27, where the time is known cut: it is too large exactly where what is cut is.
use Rattle.std.specs.Prelude.{Ok, Err}
use Prim.Native.Nat.{ℕ, ◌≤◌, ◌<◌, min}
use native.Mathlib.Omega.{arith}
use mathlib.Core.Path.{◌≡◌, ap}
use mathlib.Core.Logic.{◌≢◌}
use mathlib.Core.List.{List}
use borrow.Author.Tests.{lt-ltb, le-ltb, eq-eqb, ne_eqb}
use lib.ListN.{length}
use Rattle.paper.specs.declared.Refusal.{Refusal}
use Rattle.paper.specs.Answers.{refuse}
use Rattle.paper.specs.Cases.{Case}
use Rattle.paper.specs.Times.{graph_time, most_time, time_rules}
use Rattle.timing.specs.Pushed.{cut}
use Rattle.timing.specs.Ready.{entry}
use Rattle.timing.specs.Answering.{answer_for}

module _ (e : Case) (costs : List ℕ) (penalty total : ℕ) where
  pub wrong_length : length costs ≢ e.nodes → (r : Refusal) → r ≡ refuse 20 0 → Err r ≡ answer_for e costs penalty total
  unfolding answer_for time_rules
  wrong_length h r z = rw (ne_eqb (length costs) e.nodes h) (ap Err z)

  module _ (h : length costs ≡ e.nodes) (x : ℕ) (is : x ≡ min (graph_time e (entry costs) penalty total) cut) where
    pub time_large : cut ≤ x → (r : Refusal) → r ≡ refuse 27 0 → Err r ≡ answer_for e costs penalty total
    unfolding answer_for time_rules
    time_large l r z =
        let time = graph_time e (entry costs) penalty total in
        rw (eq-eqb (length costs) e.nodes h, lt-ltb most_time time (omega arith)) (ap Err z)

    pub time_fits : x < cut → Ok x ≡ answer_for e costs penalty total
    unfolding answer_for time_rules
    time_fits l =
        let time = graph_time e (entry costs) penalty total in
        let same : x ≡ time = omega arith in
        rw (eq-eqb (length costs) e.nodes h, le-ltb most_time time (omega arith)) (ap Ok same)
