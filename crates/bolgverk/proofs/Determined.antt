-- A promise gives the answer itself, since what an answer tells determines it; so two outcomes that a promise allows coincide: no promise leaves an answer or an element of lent memory open.
use Rattle.std.specs.Prelude.{Result, Option}
use Prim.Native.Nat.{ℕ}
use mathlib.Core.Path.{◌≡◌, sym, ◌∙◌, ap}
use mathlib.Core.List.{List}
use lib.ListN.{length}
use Rattle.paper.specs.declared.SetState.{SetState}
use Rattle.paper.specs.declared.Address.{Address}
use Rattle.paper.specs.declared.Block.{Block}
use Rattle.paper.specs.declared.Outcome.{Outcome}
use Rattle.paper.specs.declared.StepAnswer.{StepAnswer}
use Rattle.paper.specs.Answers.{Verdict}
use Rattle.paper.specs.Operations.{step_answer, block_answer, set_answer}
use Rattle.paper.specs.Traces.{trace_run}
use Rattle.paper.specs.Verdicts.{verdict, lent_after}
use Rattle.paper.specs.Writing.{write_verdict, write_answer}
use Rattle.paper.specs.Salvaging.{salvage_verdict, salvage_answer}
use Rattle.paper.specs.AllWays.{all_ways}
use Rattle.paper.specs.Times.{file_time_answer}
use Rattle.lists.specs.Listings.{offered}
use Rattle.paper.proofs.AnswerLaws.{same_verdict, same_trace, same_outcome, same_block, same_set_lem, same_write, same_find, same_salvage, same_ways, same_time}
use Rattle.theory.proofs.FoundOnce.{outcome_once}
use Rattle.bolgverk.specs.Promises.{StepPromise, BlockPromise, SetPromise, TracePromise, CheckPromise, WritePromise, FindPromise, SalvagePromise, WaysPromise, TimePromise}
use Rattle.paper.specs.declared.Refusal.{Refusal}
use Rattle.paper.specs.declared.SetNumber.{SetNumber}
use Rattle.paper.specs.declared.Salvage.{Salvage}

answer_of : (r r' : StepAnswer) → r.state ≡ r'.state → r.outcome ≡ r'.outcome → r ≡ r'
answer_of r r' s o =
    ap (λ (t : SetState). record { state = t; outcome = r.outcome }) s ∙ ap (λ (t : Result Outcome Refusal). record { state = r'.state; outcome = t }) o

module _ (policy ways : ℕ) (s : SetState) (b : Block) where
  pub step_answer_lem : (r : StepAnswer) → StepPromise policy ways s b r → r ≡ step_answer policy ways s b
  step_answer_lem r p = answer_of r _ p.state (same_outcome _ _ p.told)

  pub step_determined : (r r' : StepAnswer) → StepPromise policy ways s b r → StepPromise policy ways s b r' → r ≡ r'
  step_determined r r' p q = step_answer_lem r p ∙ sym (step_answer_lem r' q)

module _ (a : Address) (n : ℕ) where
  pub block_answer_lem : (r : Result Block Refusal) → BlockPromise a n r → r ≡ block_answer a n
  block_answer_lem r p = same_block _ _ p.told

  pub block_determined : (r r' : Result Block Refusal) → BlockPromise a n r → BlockPromise a n r' → r ≡ r'
  block_determined r r' p q = block_answer_lem r p ∙ sym (block_answer_lem r' q)

module _ (b : Block) (sets : ℕ) where
  pub set_answer_lem : (r : Result SetNumber Refusal) → SetPromise b sets r → r ≡ set_answer b sets
  set_answer_lem r p = same_set_lem _ _ p.told

  pub set_determined : (r r' : Result SetNumber Refusal) → SetPromise b sets r → SetPromise b sets r' → r ≡ r'
  set_determined r r' p q = set_answer_lem r p ∙ sym (set_answer_lem r' q)

module _ (policy ways sets : ℕ) (blocks lent : List ℕ) where
  pub trace_answer : (r : Result ℕ Refusal) (after : List ℕ) → TracePromise policy ways sets blocks lent r after → r ≡ (trace_run policy ways sets blocks lent).answer
  trace_answer r after p = same_trace _ _ p.told

  pub trace_determined : (r r' : Result ℕ Refusal) (after after' : List ℕ) →
      TracePromise policy ways sets blocks lent r after → TracePromise policy ways sets blocks lent r' after' → (r ≡ r') × (after ≡ after')
  trace_determined r r' after after' p q = (trace_answer r after p ∙ sym (trace_answer r' after' q), p.marks ∙ sym q.marks)

module _ (file : List ℕ) (interruptions : ℕ) (lent : List ℕ) where
  pub check_answer : (r : Verdict) (after : List ℕ) → CheckPromise file interruptions lent r after → r ≡ verdict file (length lent)
  check_answer r after p = same_verdict _ _ p.told

  pub check_determined : (r r' : Verdict) (after after' : List ℕ) →
      CheckPromise file interruptions lent r after → CheckPromise file interruptions lent r' after' → (r ≡ r') × (after ≡ after')
  check_determined r r' after after' p q =
      let e : r ≡ r' = check_answer r after p ∙ sym (check_answer r' after' q) in
      (e, p.numbers ∙ ap (lent_after file interruptions lent) e ∙ sym q.numbers)

module _ (version policy ways sets : ℕ) (nodes edges loops heads rows lent : List ℕ) where
  pub write_answer_lem : (r : Result ℕ Refusal) (after : List ℕ) → WritePromise version policy ways sets nodes edges loops heads rows lent r after →
      let c = offered version policy ways sets nodes edges loops heads rows in
      r ≡ write_answer c (write_verdict c (length lent))
  write_answer_lem r after p = same_write _ _ p.told

  pub write_determined : (r r' : Result ℕ Refusal) (after after' : List ℕ) →
      WritePromise version policy ways sets nodes edges loops heads rows lent r after → WritePromise version policy ways sets nodes edges loops heads rows lent r' after' →
      (r ≡ r') × (after ≡ after')
  write_determined r r' after after' p q = (write_answer_lem r after p ∙ sym (write_answer_lem r' after' q), p.bytes ∙ sym q.bytes)

module _ (file : List ℕ) (scope block : ℕ) (lent : List ℕ) where
  pub find_determined : (r r' : Result (Option ℕ) Refusal) (after after' : List ℕ) →
      FindPromise file scope block lent r after → FindPromise file scope block lent r' after' → (r ≡ r') × (after ≡ after')
  find_determined r r' after after' p q =
      let o = outcome_once file scope block lent _ _ after after' p.outcome q.outcome in
      (same_find r r' o.0, o.1)

module _ (file out list : List ℕ) where
  pub salvage_answer_lem : (r : Result Salvage Refusal) (after listAfter : List ℕ) → SalvagePromise file out list r after listAfter →
      r ≡ salvage_answer file (salvage_verdict file (length out) (length list))
  salvage_answer_lem r after listAfter p = same_salvage _ _ p.told

  pub salvage_determined : (r r' : Result Salvage Refusal) (after after' listAfter listAfter' : List ℕ) →
      SalvagePromise file out list r after listAfter → SalvagePromise file out list r' after' listAfter' →
      (r ≡ r') × (after ≡ after') × (listAfter ≡ listAfter')
  salvage_determined r r' after after' listAfter listAfter' p q =
      (salvage_answer_lem r after listAfter p ∙ sym (salvage_answer_lem r' after' listAfter' q), p.bytes ∙ sym q.bytes, p.dropped ∙ sym q.dropped)

module _ (sets : ℕ) (blocks : List ℕ) where
  pub ways_answer : (r : Result (List ℕ) Refusal) → WaysPromise sets blocks r → r ≡ all_ways sets blocks
  ways_answer r p = same_ways _ _ p.told

  pub ways_determined : (r r' : Result (List ℕ) Refusal) → WaysPromise sets blocks r → WaysPromise sets blocks r' → r ≡ r'
  ways_determined r r' p q = ways_answer r p ∙ sym (ways_answer r' q)

module _ (file costs : List ℕ) (penalty interruptions : ℕ) where
  pub time_answer_lem : (r : Result ℕ Refusal) → TimePromise file costs penalty interruptions r → r ≡ file_time_answer file costs penalty interruptions
  time_answer_lem r p = same_time _ _ p.told

  pub time_determined : (r r' : Result ℕ Refusal) → TimePromise file costs penalty interruptions r → TimePromise file costs penalty interruptions r' → r ≡ r'
  time_determined r r' p q = time_answer_lem r p ∙ sym (time_answer_lem r' q)
