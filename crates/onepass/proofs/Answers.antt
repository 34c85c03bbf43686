-- "Refusals: 3 for sets, 21 for blocks, in that order": the three answers.
use Rattle.std.specs.Prelude.{Ok, Err}
use Prim.Native.Nat.{ℕ, ◌<◌, ◌≤◌}
use native.Mathlib.Omega.{arith}
use mathlib.Core.Path.{◌≡◌, refl}
use mathlib.Core.Bool.{true, false}
use mathlib.Core.List.{List}
use lib.ListN.{length}
use borrow.Author.Tests.{lt-ltb, le-ltb}
use Rattle.paper.specs.declared.Refusal.{Refusal}
use Rattle.paper.specs.Answers.{refuse}
use Rattle.paper.specs.Lists.{least, some}
use Rattle.paper.specs.Machines.{set_count, in_range}
use Rattle.paper.specs.Policies.{lru_policy}
use Rattle.paper.specs.Traces.{bad_access}
use Rattle.paper.specs.AllWays.{ways_verdict, all_ways}
use Rattle.runs.specs.TraceRuns.{Runs}
use Rattle.trace.proofs.Refusals.{runs}
use Rattle.inclusion.proofs.FirstLines.{lru_offered}
use Rattle.onepass.specs.Passes.{eight_counts}

module _ (sets : ℕ) (blocks : List ℕ) where
  pub ways_3 : (r : Refusal) → r ≡ refuse 3 0 → set_count sets ≡ false → Err r ≡ all_ways sets blocks
  unfolding all_ways ways_verdict
  ways_3 r q e = rw (q, e) refl

  module _ (e : set_count sets ≡ true) (at : ℕ) (f : at ≡ least (bad_access blocks) (length blocks)) where
    pub ways_21 : (r : Refusal) → r ≡ refuse 21 at → at < length blocks → Err r ≡ all_ways sets blocks
    unfolding all_ways ways_verdict some
    ways_21 r q h = rw (q, e, f, lt-ltb (least (bad_access blocks) (length blocks)) (length blocks) (omega arith)) refl

    module _ (h : length blocks ≤ at) where
      pub ways_counted : Ok (eight_counts sets blocks) ≡ all_ways sets blocks
      unfolding all_ways ways_verdict some
      ways_counted = rw (e, le-ltb (least (bad_access blocks) (length blocks)) (length blocks) (omega arith)) refl

      -- what the pass may rely on
      pub pass_ready : Runs lru_policy 8 sets blocks blocks
      unfolding in_range
      pass_ready = runs lru_policy 8 sets blocks blocks (rw (lru_offered 8 (omega arith) (omega arith)) e) (omega arith) at f h
