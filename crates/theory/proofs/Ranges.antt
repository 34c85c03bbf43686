-- What a sound case says of its cache: the policy is offered at that many ways, and there are 1 to 64 sets.
use Prim.Native.Nat.{◌≤◌, ◌<◌}
use mathlib.Core.Path.{◌≡◌}
use mathlib.Core.Bool.{true}
use Rattle.paper.specs.Machines.{offered}
use Rattle.paper.specs.Cases.{Case}
use Rattle.paper.proofs.Says.{says_true, says_is}
use Rattle.paper.proofs.States.{Offered, says_offered, says_range}
use Rattle.paper.proofs.Meaning.{Sound}

module _ (e : Case) (s : Sound e) where
  in_range_lem : Offered e.policy e.ways × ((0 < e.sets) × (e.sets ≤ 64))
  in_range_lem = says_true (says_range e.policy e.ways e.sets) s.cache

  pub is_offered : offered e.policy e.ways ≡ true
  is_offered = says_is (says_offered e.policy e.ways) in_range_lem.0

  pub some_set : 0 < e.sets
  some_set = in_range_lem.1.0

  pub few_sets : e.sets ≤ 64
  few_sets = in_range_lem.1.1
