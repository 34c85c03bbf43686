-- What each C function promises, by the promise of the operation that it stands for: there is an answer that the operation may give, and what the C caller gets is what that answer tells.
-- `r` is what the function returns. A number that it writes only where nothing is refused keeps what it had (`before`) on a refusal.
-- `refused`: what is returned for a refusal stands for nothing else.
use Rattle.std.specs.Prelude.{ℕ, ◌≤◌, ◌≡◌, List, get_or, Result, Option, None}
use Rattle.paper.specs.declared.StepAnswer.{StepAnswer}
use Rattle.paper.specs.Answers.{Verdict, told_verdict, told_trace, told_outcome, told_block, told_set, told_write, told_find, told_salvage, told_ways, told_time, value_or, limit_or, second_or, counts_or}
use Rattle.paper.specs.Files.{read_case}
use Rattle.paper.specs.Demands.{Holds}
use Rattle.paper.specs.Times.{TimeHolds}
use Rattle.bolgverk.specs.Promises.{StepPromise, BlockPromise, SetPromise, TracePromise, CheckPromise, WritePromise, FindPromise, SalvagePromise, WaysPromise, TimePromise}
use Rattle.paper.specs.declared.Refusal.{Refusal}
use Rattle.paper.specs.declared.Block.{Block}
use Rattle.paper.specs.declared.SetNumber.{SetNumber}
use Rattle.paper.specs.declared.Salvage.{Salvage}

-- The refusal's number, or 0; its places, or 0; the lent numbers afterwards. `holds`: demand 3's bounds, where 0 is returned; its other half is in the promise.
pub record CheckCall (file : List ℕ) (interruptions : ℕ) (lent : List ℕ) (r at within : ℕ) (after : List ℕ) : Type 0 where
  pub answer : Verdict
  pub promise : CheckPromise file interruptions lent answer after
  pub number : r ≡ (told_verdict answer).number
  pub place : at ≡ (told_verdict answer).place
  pub second : within ≡ (told_verdict answer).second
  pub refused : (told_verdict answer).values ≡ None → 1 ≤ r
  pub holds : r ≡ 0 → Holds (read_case file) interruptions after

-- The refusal's number, or 0; its places, or 0; how long the file is; the lent bytes afterwards.
pub record WriteCall (version policy ways sets : ℕ) (nodes edges loops heads rows lent : List ℕ) (before r size at within : ℕ) (after : List ℕ) : Type 0 where
  pub answer : Result ℕ Refusal
  pub promise : WritePromise version policy ways sets nodes edges loops heads rows lent answer after
  pub number : r ≡ (told_write answer).number
  pub length : size ≡ value_or before (told_write answer)
  pub place : at ≡ (told_write answer).place
  pub second : within ≡ (told_write answer).second
  pub refused : (told_write answer).values ≡ None → 1 ≤ r

-- The refusal's number, or 0; its place, or 0; the limit, 0 where none is found; the lent rows afterwards.
pub record FindCall (file : List ℕ) (scope block : ℕ) (lent : List ℕ) (before r least at : ℕ) (after : List ℕ) : Type 0 where
  pub answer : Result (Option ℕ) Refusal
  pub promise : FindPromise file scope block lent answer after
  pub number : r ≡ (told_find answer).number
  pub limit : least ≡ limit_or before (told_find answer)
  pub place : at ≡ (told_find answer).place
  pub refused : (told_find answer).values ≡ None → 1 ≤ r

-- The refusal's number, or 0; its place, or 0; how long the rest is and how many facts were dropped; the lent bytes and the lent list afterwards.
pub record SalvageCall (file out list : List ℕ) (before beforeToo r size many at : ℕ) (after listAfter : List ℕ) : Type 0 where
  pub answer : Result Salvage Refusal
  pub promise : SalvagePromise file out list answer after listAfter
  pub number : r ≡ (told_salvage answer).number
  pub length : size ≡ value_or before (told_salvage answer)
  pub count : many ≡ second_or beforeToo (told_salvage answer)
  pub place : at ≡ (told_salvage answer).place
  pub refused : (told_salvage answer).values ≡ None → 1 ≤ r

pub record TraceCall (policy ways sets : ℕ) (blocks lent : List ℕ) (before r counted at : ℕ) (after : List ℕ) : Type 0 where
  pub answer : Result ℕ Refusal
  pub promise : TracePromise policy ways sets blocks lent answer after
  pub number : r ≡ (told_trace answer).number
  pub place : at ≡ (told_trace answer).place
  pub misses : counted ≡ value_or before (told_trace answer)
  pub refused : (told_trace answer).values ≡ None → 1 ≤ r

-- 0 for a hit, 1 for a miss, else the refusal's number. The state stands in `lines` and `bits`.
pub record StepCall (policy ways : ℕ) (lent : List ℕ) (before block r : ℕ) (after : List ℕ) (now : ℕ) : Type 0 where
  pub answer : StepAnswer
  pub promise : StepPromise policy ways (record { lines = lent; bits = before }) (record { 0 = block }) answer
  pub code : r ≡ value_or (told_outcome answer.outcome).number (told_outcome answer.outcome)
  pub lines : after ≡ answer.state.lines
  pub bits : now ≡ answer.state.bits
  pub refused : (told_outcome answer.outcome).values ≡ None → 2 ≤ r

pub record BlockCall (address line_size before r after : ℕ) : Type 0 where
  pub answer : Result Block Refusal
  pub promise : BlockPromise (record { 0 = address }) line_size answer
  pub number : r ≡ (told_block answer).number
  pub block : after ≡ value_or before (told_block answer)
  pub refused : (told_block answer).values ≡ None → 1 ≤ r

pub record SetCall (block sets before r after : ℕ) : Type 0 where
  pub answer : Result SetNumber Refusal
  pub promise : SetPromise (record { 0 = block }) sets answer
  pub number : r ≡ (told_set answer).number
  pub set : after ≡ value_or before (told_set answer)
  pub refused : (told_set answer).values ≡ None → 1 ≤ r

-- The refusal's number, or 0; its place, or 0; the eight counts afterwards.
pub record WaysCall (sets : ℕ) (blocks before : List ℕ) (r at : ℕ) (after : List ℕ) : Type 0 where
  pub answer : Result (List ℕ) Refusal
  pub promise : WaysPromise sets blocks answer
  pub number : r ≡ (told_ways answer).number
  pub counts : after ≡ counts_or before (told_ways answer)
  pub place : at ≡ (told_ways answer).place
  pub refused : (told_ways answer).values ≡ None → 1 ≤ r

-- The refusal's number, or 0; its places, or 0; the time. `holds`: no walk takes longer, where 0 is returned.
pub record TimeCall (file costs : List ℕ) (penalty interruptions before r most at within : ℕ) : Type 0 where
  pub answer : Result ℕ Refusal
  pub promise : TimePromise file costs penalty interruptions answer
  pub number : r ≡ (told_time answer).number
  pub cycles : most ≡ value_or before (told_time answer)
  pub place : at ≡ (told_time answer).place
  pub second : within ≡ (told_time answer).second
  pub refused : (told_time answer).values ≡ None → 1 ≤ r
  pub holds : r ≡ 0 → TimeHolds (read_case file) interruptions (λ v. get_or costs v 0) penalty most
