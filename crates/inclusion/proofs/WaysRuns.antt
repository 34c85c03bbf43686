-- What one pass for all ways answers: what the eight trace runs of LRU answer, with counts that fall.
use Rattle.std.specs.Prelude.{Result, Ok, Err, IfOk}
use Prim.Native.Nat.{ℕ, suc, ◌<◌, ◌≤◌}
use native.Mathlib.Omega.{arith}
use mathlib.Core.Path.{◌≡◌, refl, ap, ◌∙◌, sym}
use mathlib.Core.Bool.{Bool, true, false, cond, not}
use mathlib.Core.List.{List}
use lib.ListN.{length, get_or}
use borrow.Author.Tests.{le-ltb}
use Rattle.paper.specs.Answers.{Verdict, refuse}
use Rattle.paper.specs.Lists.{least, some}
use Rattle.paper.specs.Machines.{empty_set, set_count, in_range}
use Rattle.paper.specs.Policies.{lru_policy}
use Rattle.paper.specs.Traces.{bad_access, refused_run, took_run, marks, total, trace_run}
use Rattle.paper.specs.AllWays.{misses_with, ways_verdict, counted, all_ways, said}
use Rattle.paper.proofs.TableLaws.{get_d_table}
use Rattle.inclusion.proofs.FirstLines.{lru_offered}
use Rattle.inclusion.proofs.Found.{fewer}
use Rattle.paper.specs.declared.Refusal.{Refusal}

module _ (sets : ℕ) (blocks : List ℕ) where
  -- the chain of refusals, by its two tests
  abbrev verdict_by : Bool → Bool → Verdict
  verdict_by good bad = cond (not good) (Err (refuse 3 0)) (cond bad (Err (refuse 21 (least (bad_access blocks) (length blocks)))) (Ok tt))

  abbrev run_by : Bool → Bool → ℕ → Result ℕ Refusal
  run_by good bad n = cond (not good) (Err (refuse 3 0)) (cond bad (Err (refuse 21 (least (bad_access blocks) (length blocks)))) (Ok n))

  answered : (lent made : List ℕ) (good bad : Bool) →
      (cond (not good) (refused_run 3 0 lent) (cond bad (refused_run 21 (least (bad_access blocks) (length blocks)) lent) (took_run made lent))).answer ≡ run_by good bad (total made)
  answered lent made true true = refl
  answered lent made true false = refl
  answered lent made false true = refl
  answered lent made false false = refl

  -- a trace run of LRU that is lent enough, by the same tests
  module _ (j : ℕ) (h : j < 8) (lent : List ℕ) (room : length blocks ≤ length lent) where
    range_is : in_range lru_policy (suc j) sets ≡ set_count sets
    unfolding in_range
    range_is = rw (lru_offered (suc j) (omega arith) (omega arith))

    run_is : (trace_run lru_policy (suc j) sets blocks lent).answer ≡ run_by (set_count sets) (some (bad_access blocks) (length blocks)) (misses_with sets blocks (suc j))
    unfolding trace_run misses_with
    run_is =
        rw (range_is, le-ltb (length lent) (length blocks) room)
        (answered lent (marks lru_policy (suc j) sets (λ q. empty_set) blocks) (set_count sets) (some (bad_access blocks) (length blocks)))

    said_is : (good bad : Bool) → said (counted sets blocks (verdict_by good bad)) j ≡ run_by good bad (misses_with sets blocks (suc j))
    said_is true true = refl
    said_is true false = ap Ok (get_d_table (λ i. misses_with sets blocks (suc i)) 8 j 0 h)
    said_is false true = refl
    said_is false false = refl

    -- "They are proved equal to eight LRU trace runs from empty sets", whatever bytes these are lent, if there are enough.
    pub ways_runs : said (all_ways sets blocks) j ≡ (trace_run lru_policy (suc j) sets blocks lent).answer
    unfolding all_ways ways_verdict
    ways_runs = said_is (set_count sets) (some (bad_access blocks) (length blocks)) ∙ sym run_is

  counts_fall : (j : ℕ) → suc j < 8 → (v : Verdict) → IfOk (counted sets blocks v) (λ counts. get_or counts (suc j) 0 ≤ get_or counts j 0)
  counts_fall j h (Ok tt) =
      omega (
        arith,
        get_d_table (λ i. misses_with sets blocks (suc i)) 8 (suc j) 0 h,
        get_d_table (λ i. misses_with sets blocks (suc i)) 8 j 0 (omega arith),
        fewer sets (suc j) (omega arith) (omega arith) blocks,
      )
  counts_fall j h (Err r) = tt

  -- "no count is larger than that for one way less"
  pub ways_fall : (j : ℕ) → suc j < 8 → IfOk (all_ways sets blocks) (λ counts. get_or counts (suc j) 0 ≤ get_or counts j 0)
  unfolding all_ways
  ways_fall j h = counts_fall j h (ways_verdict sets blocks)
