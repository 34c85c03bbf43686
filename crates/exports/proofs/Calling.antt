-- A C function that hands on what an answer tells keeps its promise: no refusal's number stands for anything else, and 0 is returned only for an accepted file.
use Rattle.std.specs.Prelude.{Result, Option, Ok, Err, None}
use Prim.Native.Nat.{ℕ, ◌≤◌}
use native.Mathlib.Omega.{arith}
use mathlib.Core.Path.{◌≡◌, refl, sym, subst}
use mathlib.Core.List.{List}
use mathlib.Core.Bool.{Bool, true, false, not}
use lib.ListN.{length, get_or}
use lib.Dec.{eqb, ltb}
use Rattle.paper.specs.declared.StepAnswer.{StepAnswer}
use Rattle.paper.specs.Answers.{Verdict, Told, told_verdict, told_trace, told_outcome, told_block, told_set, told_write, told_find, told_salvage, told_ways, told_time, value_or, limit_or, second_or, counts_or}
use Rattle.paper.specs.Writing.{FileContent}
use Rattle.paper.specs.Files.{read_case}
use Rattle.paper.specs.Rules.{rule, follow}
use Rattle.paper.specs.Verdicts.{file_verdict, verdict}
use Rattle.paper.specs.Times.{most_time, file_time, time_rules, time_answer, time_verdict, file_time_answer, TimeHolds}
use Rattle.paper.specs.Finding.{FindOutcome, refused, nothing, found}
use Rattle.paper.proofs.RefusalLaws.{verdict_numbered, trace_numbered, step_numbered, block_numbered, set_numbered, write_numbered, find_numbered, salvage_numbered, ways_numbered}
use Rattle.bolgverk.specs.Promises.{StepPromise, BlockPromise, SetPromise, TracePromise, CheckPromise, WritePromise, FindPromise, SalvagePromise, WaysPromise, TimePromise}
use Rattle.exports.specs.Calls.{CheckCall, WriteCall, FindCall, SalvageCall, TraceCall, StepCall, BlockCall, SetCall, WaysCall, TimeCall}
use Rattle.paper.specs.declared.Refusal.{Refusal}
use Rattle.paper.specs.declared.Block.{Block}
use Rattle.paper.specs.declared.SetNumber.{SetNumber}
use Rattle.paper.specs.declared.Salvage.{Salvage}

-- an answer that tells what the paper's does
refused_as : (low : ℕ) (t t' : Told) → t ≡ t' → (t'.values ≡ None → low ≤ t'.number) → t.values ≡ None → low ≤ t.number
refused_as low t t' e n = subst (λ (u : Told). u.values ≡ None → low ≤ u.number) (sym e) n

number_as : (low r : ℕ) (n : ℕ) → r ≡ n → low ≤ n → low ≤ r
number_as low r n e h = omega arith

module _ (file : List ℕ) (interruptions : ℕ) (lent : List ℕ) (r at within : ℕ) (after : List ℕ) where
  accepted : (v : Verdict) → ((told_verdict v).values ≡ None → 1 ≤ (told_verdict v).number) → (told_verdict v).number ≡ 0 → v ≡ Ok tt
  accepted (Ok tt) n e = refl
  accepted (Err why) n e =
      let l = n refl in
      absurd (omega arith)

  pub check_call : (v : Verdict) → CheckPromise file interruptions lent v after → r ≡ (told_verdict v).number → at ≡ (told_verdict v).place → within ≡ (told_verdict v).second →
      CheckCall file interruptions lent r at within after
  check_call v p n a s =
      let k = refused_as 1 _ _ p.told (verdict_numbered file (length lent)).refused in
      record {
        answer = v;
        promise = p;
        number = n;
        place = a;
        second = s;
        refused = λ h. number_as 1 r _ n (k h);
        holds = λ z. p.holds (accepted v k (omega arith));
      }

module _ (version policy ways sets : ℕ) (nodes edges loops heads rows lent : List ℕ) (before r size at within : ℕ) (after : List ℕ) where
  pub write_call : (v : Result ℕ Refusal) → WritePromise version policy ways sets nodes edges loops heads rows lent v after → r ≡ (told_write v).number → size ≡ value_or before (told_write v) →
      at ≡ (told_write v).place → within ≡ (told_write v).second → WriteCall version policy ways sets nodes edges loops heads rows lent before r size at within after
  write_call v p n l a s =
      let c : FileContent = record { version = version; policy = policy; ways = ways; sets = sets; nodes = nodes; edges = edges; loops = loops; heads = heads; rows = rows } in
      let k = refused_as 1 _ _ p.told (write_numbered c (length lent)).refused in
      record { answer = v; promise = p; number = n; length = l; place = a; second = s; refused = λ h. number_as 1 r _ n (k h) }

-- of the finder's outcomes only a refusal has no value, and its number is not 0
module _ (file : List ℕ) (scope block : ℕ) (lent : List ℕ) where
  outcome_numbered : (t : Told) (left : List ℕ) → FindOutcome file scope block lent t left → t.values ≡ None → 1 ≤ t.number
  outcome_numbered t left (refused why j) h = subst (λ (v : Verdict). (told_verdict v).values ≡ None → 1 ≤ (told_verdict v).number) j (find_numbered file scope block (length lent)).refused refl
  outcome_numbered t left (nothing j n) h =
      let z : ◌≡◌ {A = ℕ} 0 1 = cc in
      absurd (omega arith)
  outcome_numbered t left (found j l rows f) h =
      let z : ◌≡◌ {A = ℕ} 0 1 = cc in
      absurd (omega arith)

module _ (file : List ℕ) (scope block : ℕ) (lent : List ℕ) (before r least at : ℕ) (after : List ℕ) where
  pub find_call : (v : Result (Option ℕ) Refusal) → FindPromise file scope block lent v after → r ≡ (told_find v).number → least ≡ limit_or before (told_find v) → at ≡ (told_find v).place →
      FindCall file scope block lent before r least at after
  find_call v p n l a =
      record { answer = v; promise = p; number = n; limit = l; place = a; refused = λ h. number_as 1 r _ n (outcome_numbered file scope block lent (told_find v) after p.outcome h) }

module _ (file out list : List ℕ) (before beforeToo r size many at : ℕ) (after listAfter : List ℕ) where
  pub salvage_call : (v : Result Salvage Refusal) → SalvagePromise file out list v after listAfter → r ≡ (told_salvage v).number → size ≡ value_or before (told_salvage v) →
      many ≡ second_or beforeToo (told_salvage v) → at ≡ (told_salvage v).place → SalvageCall file out list before beforeToo r size many at after listAfter
  salvage_call v p n l c a =
      let k = refused_as 1 _ _ p.told (salvage_numbered file (length out) (length list)).refused in
      record { answer = v; promise = p; number = n; length = l; count = c; place = a; refused = λ h. number_as 1 r _ n (k h) }

module _ (policy ways sets : ℕ) (blocks lent : List ℕ) (before r counted at : ℕ) (after : List ℕ) where
  pub trace_call : (v : Result ℕ Refusal) → TracePromise policy ways sets blocks lent v after → r ≡ (told_trace v).number → at ≡ (told_trace v).place →
      counted ≡ value_or before (told_trace v) → TraceCall policy ways sets blocks lent before r counted at after
  trace_call v p n a m =
      let k = refused_as 1 _ _ p.told (trace_numbered policy ways sets blocks lent).refused in
      record { answer = v; promise = p; number = n; place = a; misses = m; refused = λ h. number_as 1 r _ n (k h) }

module _ (policy ways : ℕ) (lent : List ℕ) (before block r : ℕ) (after : List ℕ) (now : ℕ) where
  code_refused : (t : Told) → (t.values ≡ None → 2 ≤ t.number) → t.values ≡ None → 2 ≤ value_or t.number t
  code_refused t n h = rw h (n h)

  pub step_call : (v : StepAnswer) → StepPromise policy ways (record { lines = lent; bits = before }) (record { 0 = block }) v →
      r ≡ value_or (told_outcome v.outcome).number (told_outcome v.outcome) → after ≡ v.state.lines → now ≡ v.state.bits → StepCall policy ways lent before block r after now
  step_call v p n l b =
      let k = refused_as 2 _ _ p.told (step_numbered policy ways (record { lines = lent; bits = before }) (record { 0 = block })).refused in
      record { answer = v; promise = p; code = n; lines = l; bits = b; refused = λ h. number_as 2 r _ n (code_refused (told_outcome v.outcome) k h) }

module _ (address line_size before r after : ℕ) where
  pub block_call : (v : Result Block Refusal) → BlockPromise (record { 0 = address }) line_size v → r ≡ (told_block v).number → after ≡ value_or before (told_block v) →
      BlockCall address line_size before r after
  block_call v p n b =
      let k = refused_as 1 _ _ p.told (block_numbered (record { 0 = address }) line_size).refused in
      record { answer = v; promise = p; number = n; block = b; refused = λ h. number_as 1 r _ n (k h) }

module _ (block sets before r after : ℕ) where
  pub set_call : (v : Result SetNumber Refusal) → SetPromise (record { 0 = block }) sets v → r ≡ (told_set v).number → after ≡ value_or before (told_set v) →
      SetCall block sets before r after
  set_call v p n s =
      let k = refused_as 1 _ _ p.told (set_numbered (record { 0 = block }) sets).refused in
      record { answer = v; promise = p; number = n; set = s; refused = λ h. number_as 1 r _ n (k h) }

module _ (sets : ℕ) (blocks before : List ℕ) (r at : ℕ) (after : List ℕ) where
  pub ways_call : (v : Result (List ℕ) Refusal) → WaysPromise sets blocks v → r ≡ (told_ways v).number → after ≡ counts_or before (told_ways v) → at ≡ (told_ways v).place → WaysCall sets blocks before r at after
  ways_call v p n c a =
      let k = refused_as 1 _ _ p.told (ways_numbered sets blocks).refused in
      record { answer = v; promise = p; number = n; counts = c; place = a; refused = λ h. number_as 1 r _ n (k h) }

-- Of the time's refusals none has the number 0: those of the check have not, and 20 and 27 are their own.
abbrev Refuses : Verdict → Type 0
Refuses v = (told_verdict v).values ≡ None → 1 ≤ (told_verdict v).number

file_numbered : (file : List ℕ) → Refuses (file_verdict file)
unfolding verdict
file_numbered file = (verdict_numbered file 321).refused

rules_numbered : (nodes costs time : ℕ) → Refuses (time_rules nodes costs time (Ok tt))
unfolding time_rules
rules_numbered nodes costs time = go (not (eqb costs nodes)) (ltb most_time time)
  where
    go : (a b : Bool) → (told_verdict (rule 20 0 a (rule 27 0 b (Ok tt)))).values ≡ None → 1 ≤ (told_verdict (rule 20 0 a (rule 27 0 b (Ok tt)))).number
    go true b h = omega arith
    go false true h = omega arith
    go false false h =
        let z : ◌≡◌ {A = ℕ} 0 1 = cc in
        absurd (omega arith)

follow_numbered : (v w : Verdict) → Refuses v → Refuses w → Refuses (follow v w)
follow_numbered (Ok tt) w a b = b
follow_numbered (Err r) w a b = a

answer_numbered : (v : Verdict) (time : ℕ) → Refuses v → (told_time (time_answer v time)).values ≡ None → 1 ≤ (told_time (time_answer v time)).number
answer_numbered (Ok tt) time n h =
    let z : ◌≡◌ {A = ℕ} 0 1 = cc in
    absurd (omega arith)
answer_numbered (Err r) time n h = n h

module _ (file costs : List ℕ) (penalty interruptions before r most at within : ℕ) where
  time_numbered : (told_time (file_time_answer file costs penalty interruptions)).values ≡ None → 1 ≤ (told_time (file_time_answer file costs penalty interruptions)).number
  unfolding file_time_answer time_verdict
  time_numbered =
      let x = file_time file costs penalty interruptions in
      let w = time_rules (read_case file).nodes (length costs) x (Ok tt) in
      answer_numbered (follow (file_verdict file) w) x (follow_numbered (file_verdict file) w (file_numbered file) (rules_numbered (read_case file).nodes (length costs) x))

  -- where 0 is returned, the time is what was written
  time_given : (v : Result ℕ Refusal) → ((told_time v).values ≡ None → 1 ≤ (told_time v).number) → (told_time v).number ≡ 0 → v ≡ Ok (value_or before (told_time v))
  time_given (Ok n) k e = refl
  time_given (Err why) k e =
      let l = k refl in
      absurd (omega arith)

  pub time_call : (v : Result ℕ Refusal) → TimePromise file costs penalty interruptions v → r ≡ (told_time v).number → most ≡ value_or before (told_time v) → at ≡ (told_time v).place →
      within ≡ (told_time v).second → TimeCall file costs penalty interruptions before r most at within
  time_call v p n m a s =
      let k = refused_as 1 _ _ p.told time_numbered in
      record {
        answer = v;
        promise = p;
        number = n;
        cycles = m;
        place = a;
        second = s;
        refused = λ h. number_as 1 r _ n (k h);
        holds = λ z.
            subst (TimeHolds (read_case file) interruptions (λ i. get_or costs i 0) penalty) (sym m)
            (p.holds (value_or before (told_time v)) (time_given v k (omega arith)));
      }
