-- The check's refusals are the time's, and the total that the time is made with is the first of the check's numbers.
use Rattle.std.specs.Prelude.{Result, Ok, Err}
use Prim.Native.Nat.{ℕ}
use mathlib.Core.Path.{◌≡◌, sym, ◌∙◌, ap}
use mathlib.Core.List.{List}
use lib.ListN.{length, get_or}
use Rattle.paper.specs.declared.Refusal.{Refusal}
use Rattle.paper.specs.declared.Trailer.{Trailer}
use Rattle.paper.specs.Answers.{Verdict}
use Rattle.paper.specs.Bounds.{total_bound}
use Rattle.paper.specs.Files.{case_of}
use Rattle.paper.specs.Known.{Shaped}
use Rattle.paper.specs.Rules.{follow}
use Rattle.paper.specs.Times.{graph_time, time_rules, time_answer}
use Rattle.paper.proofs.VerdictLaws.{graph_kept}
use Rattle.ruling.specs.Ruled.{written, Ruled}
use Rattle.timing.specs.Answering.{answer_for}
use Rattle.theory.proofs.Printed.{total_printed}
use Rattle.clock.specs.Timed.{time_for}

module _ (f : List ℕ) (trailer : Trailer) (costs : List ℕ) (penalty p : ℕ) (lent : List ℕ) (v : Verdict) (after : List ℕ) (j : Ruled f trailer p lent v after) where
  -- what the answer is for a verdict of the check's rules
  abbrev answered : Verdict → Result ℕ Refusal
  answered u =
      let e = case_of f trailer in
      let time = graph_time e (λ i. get_or costs i 0) penalty (total_bound e p) in
      time_answer (follow u (time_rules e.nodes (length costs) time (Ok tt))) time

  pub refused_time : (r : Refusal) → v ≡ Err r → Err r ≡ time_for f trailer costs penalty p
  unfolding time_for
  refused_time r h = ap answered (sym h ∙ j.answer)

  module _ (h : v ≡ Ok tt) where
    pub time_shaped : Shaped (case_of f trailer)
    time_shaped = (graph_kept (case_of f trailer) _ (sym j.answer ∙ h)).0

    total : get_or after 0 0 ≡ total_bound (case_of f trailer) p
    total = ap (λ (l : List ℕ). get_or l 0 0) (j.numbers ∙ ap (written f trailer p lent) h) ∙ total_printed (case_of f trailer) p _

    pub accepted_answer : (r : Result ℕ Refusal) → r ≡ answer_for (case_of f trailer) costs penalty (get_or after 0 0) → r ≡ time_for f trailer costs penalty p
    unfolding time_for answer_for
    accepted_answer r z = z ∙ ap (answer_for (case_of f trailer) costs penalty) total ∙ ap answered (sym h ∙ j.answer)
