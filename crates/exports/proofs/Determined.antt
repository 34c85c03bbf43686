-- Two outcomes that a C function's promise allows coincide: what it returns, and every number that it was handed to write.
use Rattle.std.specs.Prelude.{Result, Option}
use Prim.Native.Nat.{ℕ}
use mathlib.Core.Path.{◌≡◌, sym, ◌∙◌, ap}
use mathlib.Core.List.{List}
use Rattle.paper.specs.declared.StepAnswer.{StepAnswer}
use Rattle.paper.specs.Answers.{Verdict, told_verdict, told_trace, told_outcome, told_block, told_set, told_write, told_find, told_salvage, told_ways, told_time, value_or, limit_or, second_or, counts_or}
use Rattle.bolgverk.proofs.Determined.{step_determined, block_determined, set_determined, trace_determined, check_determined, write_determined, find_determined, salvage_determined, ways_determined, time_determined}
use Rattle.exports.specs.Calls.{CheckCall, WriteCall, FindCall, SalvageCall, TraceCall, StepCall, BlockCall, SetCall, WaysCall, TimeCall}
use Rattle.paper.specs.declared.Refusal.{Refusal}
use Rattle.paper.specs.declared.Block.{Block}
use Rattle.paper.specs.declared.SetNumber.{SetNumber}
use Rattle.paper.specs.declared.Salvage.{Salvage}

-- two results that are the same function of answers that are the same
same : {A B : Type 0} (f : A → B) {v v' : A} {x x' : B} → v ≡ v' → x ≡ f v → x' ≡ f v' → x ≡ x'
same f e p q = p ∙ ap f e ∙ sym q

module _ (file : List ℕ) (interruptions : ℕ) (lent : List ℕ) (r r' at at' within within' : ℕ) (after after' : List ℕ) where
  pub check_call_determined : CheckCall file interruptions lent r at within after → CheckCall file interruptions lent r' at' within' after' → (r ≡ r') × (at ≡ at') × (within ≡ within') × (after ≡ after')
  check_call_determined p q =
      let e = check_determined file interruptions lent _ _ _ _ p.promise q.promise in (
        same (λ (v : Verdict). (told_verdict v).number) e.0 p.number q.number,
        same (λ (v : Verdict). (told_verdict v).place) e.0 p.place q.place,
        same (λ (v : Verdict). (told_verdict v).second) e.0 p.second q.second,
        e.1,
      )

module _ (version policy ways sets : ℕ) (nodes edges loops heads rows lent : List ℕ) (before r r' size size' at at' within within' : ℕ) (after after' : List ℕ) where
  pub write_call_determined : WriteCall version policy ways sets nodes edges loops heads rows lent before r size at within after →
      WriteCall version policy ways sets nodes edges loops heads rows lent before r' size' at' within' after' →
      (r ≡ r') × (size ≡ size') × (at ≡ at') × (within ≡ within') × (after ≡ after')
  write_call_determined p q =
      let e = write_determined version policy ways sets nodes edges loops heads rows lent _ _ _ _ p.promise q.promise in (
        same (λ (v : Result ℕ Refusal). (told_write v).number) e.0 p.number q.number,
        same (λ (v : Result ℕ Refusal). value_or before (told_write v)) e.0 p.length q.length,
        same (λ (v : Result ℕ Refusal). (told_write v).place) e.0 p.place q.place,
        same (λ (v : Result ℕ Refusal). (told_write v).second) e.0 p.second q.second,
        e.1,
      )

module _ (file : List ℕ) (scope block : ℕ) (lent : List ℕ) (before r r' least least' at at' : ℕ) (after after' : List ℕ) where
  pub find_call_determined : FindCall file scope block lent before r least at after → FindCall file scope block lent before r' least' at' after' →
      (r ≡ r') × (least ≡ least') × (at ≡ at') × (after ≡ after')
  find_call_determined p q =
      let e = find_determined file scope block lent _ _ _ _ p.promise q.promise in (
        same (λ (v : Result (Option ℕ) Refusal). (told_find v).number) e.0 p.number q.number,
        same (λ (v : Result (Option ℕ) Refusal). limit_or before (told_find v)) e.0 p.limit q.limit,
        same (λ (v : Result (Option ℕ) Refusal). (told_find v).place) e.0 p.place q.place,
        e.1,
      )

module _ (file out list : List ℕ) (before beforeToo r r' size size' many many' at at' : ℕ) (after after' listAfter listAfter' : List ℕ) where
  pub salvage_call_determined : SalvageCall file out list before beforeToo r size many at after listAfter →
      SalvageCall file out list before beforeToo r' size' many' at' after' listAfter' →
      (r ≡ r') × (size ≡ size') × (many ≡ many') × (at ≡ at') × (after ≡ after') × (listAfter ≡ listAfter')
  salvage_call_determined p q =
      let e = salvage_determined file out list _ _ _ _ _ _ p.promise q.promise in (
        same (λ (v : Result Salvage Refusal). (told_salvage v).number) e.0 p.number q.number,
        same (λ (v : Result Salvage Refusal). value_or before (told_salvage v)) e.0 p.length q.length,
        same (λ (v : Result Salvage Refusal). second_or beforeToo (told_salvage v)) e.0 p.count q.count,
        same (λ (v : Result Salvage Refusal). (told_salvage v).place) e.0 p.place q.place,
        e.1,
        e.2,
      )

module _ (policy ways sets : ℕ) (blocks lent : List ℕ) (before r r' counted counted' at at' : ℕ) (after after' : List ℕ) where
  pub trace_call_determined : TraceCall policy ways sets blocks lent before r counted at after → TraceCall policy ways sets blocks lent before r' counted' at' after' →
      (r ≡ r') × (counted ≡ counted') × (at ≡ at') × (after ≡ after')
  trace_call_determined p q =
      let e = trace_determined policy ways sets blocks lent _ _ _ _ p.promise q.promise in (
        same (λ (v : Result ℕ Refusal). (told_trace v).number) e.0 p.number q.number,
        same (λ (v : Result ℕ Refusal). value_or before (told_trace v)) e.0 p.misses q.misses,
        same (λ (v : Result ℕ Refusal). (told_trace v).place) e.0 p.place q.place,
        e.1,
      )

module _ (policy ways : ℕ) (lent : List ℕ) (before block r r' : ℕ) (after after' : List ℕ) (now now' : ℕ) where
  pub step_call_determined : StepCall policy ways lent before block r after now → StepCall policy ways lent before block r' after' now' →
      (r ≡ r') × (after ≡ after') × (now ≡ now')
  step_call_determined p q =
      let e = step_determined policy ways _ _ _ _ p.promise q.promise in (
        same (λ (v : StepAnswer). value_or (told_outcome v.outcome).number (told_outcome v.outcome)) e p.code q.code,
        same (λ (v : StepAnswer). v.state.lines) e p.lines q.lines,
        same (λ (v : StepAnswer). v.state.bits) e p.bits q.bits,
      )

module _ (address line_size before r r' after after' : ℕ) where
  pub block_call_determined : BlockCall address line_size before r after → BlockCall address line_size before r' after' → (r ≡ r') × (after ≡ after')
  block_call_determined p q =
      let e = block_determined _ line_size _ _ p.promise q.promise in
      (same (λ (v : Result Block Refusal). (told_block v).number) e p.number q.number, same (λ (v : Result Block Refusal). value_or before (told_block v)) e p.block q.block)

module _ (block sets before r r' after after' : ℕ) where
  pub set_call_determined : SetCall block sets before r after → SetCall block sets before r' after' → (r ≡ r') × (after ≡ after')
  set_call_determined p q =
      let e = set_determined _ sets _ _ p.promise q.promise in
      (same (λ (v : Result SetNumber Refusal). (told_set v).number) e p.number q.number, same (λ (v : Result SetNumber Refusal). value_or before (told_set v)) e p.set q.set)

module _ (sets : ℕ) (blocks before : List ℕ) (r r' at at' : ℕ) (after after' : List ℕ) where
  pub ways_call_determined : WaysCall sets blocks before r at after → WaysCall sets blocks before r' at' after' → (r ≡ r') × (at ≡ at') × (after ≡ after')
  ways_call_determined p q =
      let e = ways_determined sets blocks _ _ p.promise q.promise in (
        same (λ (v : Result (List ℕ) Refusal). (told_ways v).number) e p.number q.number,
        same (λ (v : Result (List ℕ) Refusal). (told_ways v).place) e p.place q.place,
        same (λ (v : Result (List ℕ) Refusal). counts_or before (told_ways v)) e p.counts q.counts,
      )

module _ (file costs : List ℕ) (penalty interruptions before r r' most most' at at' within within' : ℕ) where
  pub time_call_determined : TimeCall file costs penalty interruptions before r most at within → TimeCall file costs penalty interruptions before r' most' at' within' →
      (r ≡ r') × (most ≡ most') × (at ≡ at') × (within ≡ within')
  time_call_determined p q =
      let e = time_determined file costs penalty interruptions _ _ p.promise q.promise in (
        same (λ (v : Result ℕ Refusal). (told_time v).number) e p.number q.number,
        same (λ (v : Result ℕ Refusal). value_or before (told_time v)) e p.cycles q.cycles,
        same (λ (v : Result ℕ Refusal). (told_time v).place) e p.place q.place,
        same (λ (v : Result ℕ Refusal). (told_time v).second) e p.second q.second,
      )
