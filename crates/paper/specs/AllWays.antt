-- "What LRU would miss with one way, two ways and so on up to eight": the counts of eight trace runs. "Refusals: 3 for sets, 21 for blocks, in that order, no count returned."
use Rattle.std.specs.Prelude.{ℕ, suc, cond, not, List, length, get_or, Result, Ok, Err}
use Rattle.paper.specs.Answers.{Verdict, refuse}
use Rattle.paper.specs.Lists.{least, some, table}
use Rattle.paper.specs.Machines.{empty_set, set_count}
use Rattle.paper.specs.Policies.{lru_policy}
use Rattle.paper.specs.Traces.{marks, total, bad_access}
use Rattle.paper.specs.declared.Refusal.{Refusal}

module _ (sets : ℕ) (blocks : List ℕ) where
  -- "LRU trace runs from empty sets": the misses with w ways
  unfoldable pub misses_with : ℕ → ℕ
  misses_with w = total (marks lru_policy w sets (λ q. empty_set) blocks)

  unfoldable pub ways_verdict : Verdict
  ways_verdict =
      cond (not (set_count sets)) (Err (refuse 3 0))
      (cond (some (bad_access blocks) (length blocks)) (Err (refuse 21 (least (bad_access blocks) (length blocks)))) (Ok tt))

  -- "One pass gives eight counts": those of one way to eight; "no count returned" of a refusal.
  abbrev pub counted : Verdict → Result (List ℕ) Refusal
  counted (Ok tt) = Ok (table (λ j. misses_with (suc j)) 8)
  counted (Err r) = Err r

  unfoldable pub all_ways : Result (List ℕ) Refusal
  all_ways = counted ways_verdict

-- What the answer says of j + 1 ways, in the words of a trace run.
abbrev pub said : Result (List ℕ) Refusal → ℕ → Result ℕ Refusal
said (Ok counts) j = Ok (get_or counts j 0)
said (Err r) j = Err r
