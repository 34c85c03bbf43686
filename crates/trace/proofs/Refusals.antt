-- "Trace run: 3, 20, 21." The four answers, and what a run that is not refused may rely on.
use Rattle.std.specs.Prelude.{Result, Ok, Err}
use Prim.Native.Nat.{ℕ, ◌<◌, ◌≤◌}
use native.Mathlib.Omega.{arith}
use mathlib.Core.Path.{◌≡◌, sym, ap}
use mathlib.Core.Bool.{true, false}
use mathlib.Core.List.{List}
use lib.ListN.{length}
use borrow.Author.Tests.{lt-ltb, le-ltb}
use Rattle.paper.specs.declared.Refusal.{Refusal}
use Rattle.paper.specs.Answers.{refuse}
use Rattle.paper.specs.Lists.{least, some}
use Rattle.paper.specs.Machines.{empty_set, offered, set_count, in_range}
use Rattle.paper.specs.Traces.{Run, refused_run, bad_access, trace_run}
use Rattle.paper.proofs.Least.{none_some}
use Rattle.paper.proofs.Says.{says_true, both}
use Rattle.paper.proofs.States.{says_sets}
use Rattle.runs.specs.TraceRuns.{made, Runs, Ran}
use Rattle.runs.proofs.Going.{length_marks}

module _ (p w s : ℕ) where
  pub not_offered : offered p w ≡ false → in_range p w s ≡ false
  unfolding in_range
  not_offered e = rw e

  module _ (e : offered p w ≡ true) where
    pub no_count : set_count s ≡ false → in_range p w s ≡ false
    unfolding in_range
    no_count f = rw (e, f)

    pub ranged : set_count s ≡ true → in_range p w s ≡ true
    unfolding in_range
    ranged f = rw (e, f)

module _ (p w s : ℕ) (bs ms : List ℕ) where
  -- a run whose whole outcome is known, in the two parts of the contract
  pub outcome : (a : Result ℕ Refusal) (out : List ℕ) → trace_run p w s bs ms ≡ (record { answer = a; marks = out }) → (a ≡ (trace_run p w s bs ms).answer) × (out ≡ (trace_run p w s bs ms).marks)
  outcome a out e = (ap (λ (r : Run). r.answer) (sym e), ap (λ (r : Run). r.marks) (sym e))

  pub refused :
      (number place : ℕ) (r : Refusal) → r ≡ refuse number place → trace_run p w s bs ms ≡ refused_run number place ms
      → (Err r ≡ (trace_run p w s bs ms).answer) × (ms ≡ (trace_run p w s bs ms).marks)
  refused number place r f e = rw f (outcome _ _ e)

  pub run_3 : in_range p w s ≡ false → trace_run p w s bs ms ≡ refused_run 3 0 ms
  unfolding trace_run
  run_3 e = rw e

  module _ (e : in_range p w s ≡ true) where
    pub run_20 : length ms < length bs → trace_run p w s bs ms ≡ refused_run 20 0 ms
    unfolding trace_run
    run_20 h = rw (e, lt-ltb (length ms) (length bs) h)

    module _ (h : length bs ≤ length ms) (j : ℕ) (f : j ≡ least (bad_access bs) (length bs)) where
      pub run_21 : j < length bs → trace_run p w s bs ms ≡ refused_run 21 j ms
      unfolding trace_run some
      run_21 g = rw (e, le-ltb (length ms) (length bs) h, f, lt-ltb (least (bad_access bs) (length bs)) (length bs) (omega arith))

      no_bad : length bs ≤ j → some (bad_access bs) (length bs) ≡ false
      unfolding some
      no_bad g = le-ltb (least (bad_access bs) (length bs)) (length bs) (omega arith)

      pub run_took : length bs ≤ j → (misses : ℕ) (out : List ℕ) → Ran p w s bs ms misses out → trace_run p w s bs ms ≡ (record { answer = Ok misses; marks = out })
      unfolding trace_run made
      run_took g misses out r =
          rw (e, le-ltb (length ms) (length bs) h, no_bad g, r.counted, r.written, ← length_marks p w s (λ q. empty_set) bs)

      pub runs : length bs ≤ j → Runs p w s bs ms
      runs g =
          let r = both (offered p w) (set_count s) (unfold in_range in e) in
          let q = says_true (says_sets s) r.1 in
          record { offers = r.0; low = q.0; high = q.1; room = h; good = none_some (bad_access bs) (length bs) (no_bad g) }
