-- `lists::listing_of`: 2, then 3, then 4, and then how many of each there are.
use Prim.Native.Nat.{◌/◌, ◌≤◌}
use native.Mathlib.Omega.{arith}
use mathlib.Core.Bool.{not}
use mathlib.Core.Path.{ap}
use lib.ListN.{length}
use Rattle.paper.specs.Writing.{per_loop, trailer_in}
use Rattle.lists.proofs.Wholes.{listing_2, listing_3, listing_4, listing_5, small}
use Rattle.lists.proofs.listing_of.Goals as goal

pub returns-then-is_bad_version : goal.returns-then-is_bad_version
returns-then-is_bad_version c = listing_2 _ _ _ _ _ _ _ _ _ _ c.is_bad_version.ensures c.if-is_bad_version.true _ c.refuse.ensures

pub returns-then-not-is_in_range : goal.returns-then-not-is_in_range
returns-then-not-is_in_range c =
    listing_3 _ _ _ _ _ _ _ _ _ _ c.is_bad_version.ensures c.if-is_bad_version.false _ c.is_in_range.ensures (ap not c.if-not-is_in_range.true) _ c.refuse-then-not-is_in_range.ensures

pub returns-then-bad_lists : goal.returns-then-bad_lists
returns-then-bad_lists c =
    listing_4 _ _ _ _ _ _ _ _ _ _ c.is_bad_version.ensures c.if-is_bad_version.false _ c.is_in_range.ensures (ap not c.if-not-is_in_range.false) _ c.bad_lists.ensures
    c.if-bad_lists.true _ c.refuse-then-bad_lists.ensures

-- the numbers are small
few : (c : goal.After-per_loop-per) →
    let s = c.args in
    (length s.nodes.now ≤ 1024) × (length s.edges.now / 2 ≤ 4096) × (length s.loops.now / per_loop s.version ≤ 64) × (length s.heads.now / 4 ≤ 256)
few c =
    small _ _ _ _ _ _ _ _ _ _ c.is_bad_version.ensures c.if-is_bad_version.false _ c.is_in_range.ensures (ap not c.if-not-is_in_range.false) _ c.bad_lists.ensures
    c.if-bad_lists.false

pub overflow_cast-result-3 : goal.overflow_cast-result-3
overflow_cast-result-3 c = rw c.per_loop-per.ensures.value (omega (arith, (few c).2))

pub returns : goal.returns
unfolding trailer_in
returns c =
    rw c.per_loop-per.ensures.value
    (listing_5 _ _ _ _ _ _ _ _ _ _ c.is_bad_version.ensures c.if-is_bad_version.false _ c.is_in_range.ensures (ap not c.if-not-is_in_range.false) _ c.bad_lists.ensures
    c.if-bad_lists.false)

pub overflow_cast-result : goal.overflow_cast-result
overflow_cast-result c = omega (arith, (few c).0)

pub overflow_cast-result-2 : goal.overflow_cast-result-2
overflow_cast-result-2 c = omega (arith, (few c).1)

pub overflow_cast-result-4 : goal.overflow_cast-result-4
overflow_cast-result-4 c = omega (arith, (few c).3)
