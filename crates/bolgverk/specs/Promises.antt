-- What each public operation promises: a relation between what it is handed and what comes out, lent memory included.
-- An answer is promised by what it tells, the paper's number, place and values (Answers): that determines it (crates/bolgverk/proofs/Determined.antt).
use Rattle.std.specs.Prelude.{ℕ, suc, ◌<◌, ◌≤◌, ◌≡◌, List, length, get_or, Result, Option, Ok, IfOk}
use Rattle.paper.specs.declared.SetState.{SetState}
use Rattle.paper.specs.declared.Address.{Address}
use Rattle.paper.specs.declared.Block.{Block}
use Rattle.paper.specs.declared.StepAnswer.{StepAnswer}
use Rattle.paper.specs.Answers.{Verdict, told_verdict, told_trace, told_outcome, told_block, told_set, told_write, told_find, told_salvage, told_ways, told_time}
use Rattle.paper.specs.Operations.{step_answer, block_answer, set_answer}
use Rattle.paper.specs.Traces.{trace_run}
use Rattle.paper.specs.Files.{read_case}
use Rattle.paper.specs.Verdicts.{verdict, lent_after}
use Rattle.paper.specs.Demands.{Holds, EvidenceExact}
use Rattle.paper.specs.Writing.{write_verdict, write_answer, out_after, ReadsBack, WritesBack}
use Rattle.paper.specs.Finding.{FindOutcome}
use Rattle.paper.specs.Salvaging.{salvaged, dropped_list, salvage_verdict, salvage_answer, lent_by, SalvageHolds, RemovalHolds}
use Rattle.paper.specs.Policies.{lru_policy}
use Rattle.paper.specs.AllWays.{all_ways, said}
use Rattle.paper.specs.Times.{file_time_answer, TimeHolds}
use Rattle.lists.specs.Listings.{offered}
use Rattle.paper.specs.declared.Refusal.{Refusal}
use Rattle.paper.specs.declared.SetNumber.{SetNumber}
use Rattle.paper.specs.declared.Salvage.{Salvage}

-- A step's answer is a state and an outcome.
pub record StepPromise (policy ways : ℕ) (given : SetState) (block : Block) (r : StepAnswer) : Type 0 where
  pub told : told_outcome r.outcome ≡ told_outcome (step_answer policy ways given block).outcome
  pub state : r.state ≡ (step_answer policy ways given block).state

pub record BlockPromise (address : Address) (line_size : ℕ) (r : Result Block Refusal) : Type 0 where
  pub told : told_block r ≡ told_block (block_answer address line_size)

pub record SetPromise (block : Block) (sets : ℕ) (r : Result SetNumber Refusal) : Type 0 where
  pub told : told_set r ≡ told_set (set_answer block sets)

-- `lent` and `after`: the lent bytes before and after
pub record TracePromise (policy ways sets : ℕ) (blocks lent : List ℕ) (r : Result ℕ Refusal) (after : List ℕ) : Type 0 where
  pub told : told_trace r ≡ told_trace (trace_run policy ways sets blocks lent).answer
  pub marks : after ≡ (trace_run policy ways sets blocks lent).marks

-- p is "the greatest number … of such interruptions"; `lent` and `after`: the lent numbers before and after. Demands 1 and 2 are `told` and `numbers`; demand 3 is `holds` and `exact`.
pub record CheckPromise (file : List ℕ) (p : ℕ) (lent : List ℕ) (r : Verdict) (after : List ℕ) : Type 0 where
  pub told : told_verdict r ≡ told_verdict (verdict file (length lent))
  pub numbers : after ≡ lent_after file p lent r
  pub holds : r ≡ Ok tt → Holds (read_case file) p after
  pub exact : EvidenceExact file

-- `lent` and `after`: the lent bytes before and after. The answer is that of the verdict on the content; `reads` and `again` are the request's two sentences:
-- "What it writes passes them and reads back as the same lists; and any file that passes them comes out again byte for byte when its content is written".
pub record WritePromise (version policy ways sets : ℕ) (nodes edges loops heads rows lent : List ℕ) (r : Result ℕ Refusal) (after : List ℕ) : Type 0 where
  pub told :
      let c = offered version policy ways sets nodes edges loops heads rows in
      told_write r ≡ told_write (write_answer c (write_verdict c (length lent)))
  pub bytes :
      let c = offered version policy ways sets nodes edges loops heads rows in
      after ≡ out_after c lent (write_verdict c (length lent))
  pub reads : ReadsBack (offered version policy ways sets nodes edges loops heads rows) (length lent)
  pub again : (f : List ℕ) → WritesBack f

-- `lent` and `after`: the lent rows before and after. The outcome is a refusal, or none where no limit up to k has evidence that the tool accepts, or the least limit that has and the rows that say
-- what walks gather: those stand in the lent rows, and the tool accepts them.
pub record FindPromise (file : List ℕ) (scope block : ℕ) (lent : List ℕ) (r : Result (Option ℕ) Refusal) (after : List ℕ) : Type 0 where
  pub outcome : FindOutcome file scope block lent (told_find r) after

-- `out` and `after`: the lent bytes before and after; `list` and `listAfter`: the lent numbers. What is promised of the file that is written is `holds`, and `removal` is the request's last sentence on facts:
-- "Removing a fact from an accepted file never lowers a set bound or the total".
pub record SalvagePromise (file out list : List ℕ) (r : Result Salvage Refusal) (after listAfter : List ℕ) : Type 0 where
  pub told : told_salvage r ≡ told_salvage (salvage_answer file (salvage_verdict file (length out) (length list)))
  pub bytes : after ≡ lent_by (salvaged file) out (salvage_verdict file (length out) (length list))
  pub dropped : listAfter ≡ lent_by (dropped_list file) list (salvage_verdict file (length out) (length list))
  pub holds : SalvageHolds file
  pub removal : RemovalHolds file

-- "They are proved equal to eight LRU trace runs from empty sets" (`runs`, whatever bytes these are lent, if there are enough), "and no count is larger than that for one way less" (`falls`).
pub record WaysPromise (sets : ℕ) (blocks : List ℕ) (r : Result (List ℕ) Refusal) : Type 0 where
  pub told : told_ways r ≡ told_ways (all_ways sets blocks)
  pub runs : (j : ℕ) → j < 8 → (lent : List ℕ) → length blocks ≤ length lent → said r j ≡ (trace_run lru_policy (suc j) sets blocks lent).answer
  pub falls : (j : ℕ) → suc j < 8 → IfOk r (λ counts. get_or counts (suc j) 0 ≤ get_or counts j 0)

-- "With a 32-bit cost for each node and a 32-bit penalty for each miss, give a time for the whole graph", for at most p interruptions: "For every walk of demand 3, the sum of its node costs and penalties is no larger" (`holds`).
pub record TimePromise (file costs : List ℕ) (penalty p : ℕ) (r : Result ℕ Refusal) : Type 0 where
  pub told : told_time r ≡ told_time (file_time_answer file costs penalty p)
  pub holds : (time : ℕ) → r ≡ Ok time → TimeHolds (read_case file) p (λ v. get_or costs v 0) penalty time
