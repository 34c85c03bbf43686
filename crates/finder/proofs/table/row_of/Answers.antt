-- `finder::table::row_of`: the eight numbers of the row.
use Rattle.finder.proofs.Rows.{read_row}
use Rattle.finder.proofs.table.row_of.Goals as goal

pub returns : goal.returns
returns c = read_row _ _
