-- `finder::table::put_row`: eight stores.
use mathlib.Core.Path.{refl}
use lib.ListN.{length-set}
use borrow.Author.Rules.{rules}
use Rattle.finder.proofs.Rows.{stored_row}
use Rattle.finder.proofs.table.put_row.Goals as goal

pub returns : goal.returns
returns c = stored_row _ _ _

pub bounds-rows-at-2 : goal.bounds-rows-at-2
bounds-rows-at-2 c = simp length-set (search rules)

pub bounds-rows-at-3 : goal.bounds-rows-at-3
bounds-rows-at-3 c = simp length-set (search rules)

pub bounds-rows-at-4 : goal.bounds-rows-at-4
bounds-rows-at-4 c = simp length-set (search rules)

pub bounds-rows-at-5 : goal.bounds-rows-at-5
bounds-rows-at-5 c = simp length-set (search rules)

pub bounds-rows-at-6 : goal.bounds-rows-at-6
bounds-rows-at-6 c = simp length-set (search rules)

pub bounds-rows-at-7 : goal.bounds-rows-at-7
bounds-rows-at-7 c = simp length-set (search rules)

pub bounds-rows-at-8 : goal.bounds-rows-at-8
bounds-rows-at-8 c = simp length-set (search rules)

pub shape_of-rows : goal.shape_of-rows
shape_of-rows c = simp length-set refl
