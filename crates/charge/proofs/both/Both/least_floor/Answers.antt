-- M(l) is M(l-1), with the E of the facts of limit l for the counts that they cover; nothing is taken that is not there.
use native.Mathlib.Omega.{arith}
use mathlib.Core.Path.{refl}
use Rattle.charge.proofs.FloorSums.{flooring_start, out_fits, in_small, next_small, flooring_more}
use Rattle.charge.proofs.both.Both.least_floor.Goals as goal

pub loop-j-init : goal.loop-j-init
loop-j-init c = flooring_start _ _ _ _ _ _ _ c.args.self.now.summed _ c.requires _

pub overflow_add-m : goal.overflow_add-m
overflow_add-m c =
    omega (arith, in_small _ _ _ _ _ _ _ c.args.self.now.summed _ c.requires _ _ _ _ c.loop-j.invariant c.loop-j-test.true, c.loop-j-test.true, c.args.self.now.summed.laid.ways_high)

pub overflow_sub-m : goal.overflow_sub-m
overflow_sub-m c =
    out_fits _ _ _ _ _ _ _ c.args.self.now.summed _ c.requires _ _ _ _ c.loop-j.invariant c.loop-j-test.true

pub floor_of-requires : goal.floor_of-requires
floor_of-requires c =
    let h = c.loop-j-test.true in
    record { l_le_ways = omega (arith, h); ways_bound = c.args.self.now.summed.laid.ways_high; m_bound = next_small _ _ _ _ _ _ _ c.args.self.now.summed _ c.requires _ _ _ _ c.loop-j.invariant h }

pub loop-j-preserved : goal.loop-j-preserved
loop-j-preserved c =
    flooring_more _ _ _ _ _ _ _ c.args.self.now.summed _ c.requires _ _ _ _ c.loop-j.invariant c.loop-j-test.true _ _ _ refl c.floor_of.ensures c.min-x.ensures
