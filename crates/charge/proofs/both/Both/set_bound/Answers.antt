-- A is in the tables, and small; where the policy has floors, the least of them too.
use native.Mathlib.Omega.{arith}
use mathlib.Core.Path.{sym, ◌∙◌}
use Rattle.charge.proofs.FloorSums.{A_small, floor_set, other_set}
use Rattle.charge.proofs.both.Both.set_bound.Goals as goal

pub overflow_add-a-2 : goal.overflow_add-a-2
overflow_add-a-2 c = omega (arith, A_small _ _ _ _ _ _ _ c.args.self.now.summed _ c.requires)

pub returns-then-has_floors : goal.returns-then-has_floors
returns-then-has_floors c =
    let s = c.args.self.now.summed in
    let least = c.least_floor.ensures in
    record {
      value = floor_set _ _ _ _ _ _ _ s _ c.requires _ (sym c.has_floors.ensures ∙ c.if-has_floors.true) least.value;
      upper_bound = omega (arith, least.upper_bound, A_small _ _ _ _ _ _ _ s _ c.requires);
    }

pub returns : goal.returns
returns c =
    let s = c.args.self.now.summed in
    record {
      value = other_set _ _ _ _ _ _ _ s _ c.requires (sym c.has_floors.ensures ∙ c.if-has_floors.false);
      upper_bound = A_small _ _ _ _ _ _ _ s _ c.requires;
    }
