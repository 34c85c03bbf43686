-- `lists::numbers::loop_number`: the lists are whole, so loop j's numbers are in the list (`front_in`).
use Prim.Native.Nat.{ℕ, ◌*◌, ◌≤◌}
use native.Mathlib.Omega.{arith}
use native.Mathlib.Nat.{mul-le-mul}
use Rattle.lists.proofs.LoopNumbers.{front_in, number_is}
use Rattle.lists.proofs.numbers.loop_number.Goals as goal

product : (p j : ℕ) → p ≤ 4 → j ≤ 65535 → p * j ≤ 262140
product p j h k = mul-le-mul h k

small : (c : goal.After-per_loop) → c.per_loop.result * c.args.j ≤ 262140
small c = product _ c.args.j c.per_loop.ensures.upper_bound (omega arith)

pub overflow_mul-result : goal.overflow_mul-result
overflow_mul-result c = omega (arith, small c)

pub overflow_add-result : goal.overflow_add-result
overflow_add-result c = omega (arith, small c, c.requires.k_bound)

pub offset_bounds-loops-per_loop : goal.offset_bounds-loops-per_loop
offset_bounds-loops-per_loop c = omega (arith, small c, c.requires.k_bound)

pub bounds-loops-per_loop : goal.bounds-loops-per_loop
bounds-loops-per_loop c =
    let a = c.args in
    front_in a.trailer.version _ a.loops.now a.j a.trailer.loops a.k c.per_loop.ensures.value c.requires.loops_len c.requires.j_lt_loops c.requires.k_bound

pub returns : goal.returns
returns c =
    let a = c.args in
    number_is a.trailer.version _ a.loops.now a.j a.k c.per_loop.ensures.value
