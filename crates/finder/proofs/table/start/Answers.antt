-- `finder::table::start`: one row more in each turn (`Nines`).
use native.Mathlib.Omega.{arith}
use Rattle.finder.proofs.Rows.{nines_start, nines_more}
use Rattle.finder.proofs.table.start.Goals as goal

-- there is room for the row
pub put_row-requires : goal.put_row-requires
put_row-requires c =
    omega (arith, c.loop-j.invariant.kept, c.loop-j-test.true, c.requires)

pub loop-j-preserved : goal.loop-j-preserved
loop-j-preserved c =
    nines_more _ _ _ _ _ _ c.loop-j.invariant c.loop-j-test.true c.requires c.plain.ensures c.put_row.ensures

pub returns : goal.returns
returns c =
    let w = c.loop-j.invariant in
    record { by_index = λ j h. w.nines j (omega (arith, c.loop-j-test.false)); table_len_unchanged = w.kept }

pub loop-j-init : goal.loop-j-init
loop-j-init c = nines_start _ _

pub shape_of-table : goal.shape_of-table
shape_of-table c = c.loop-j.invariant.kept
