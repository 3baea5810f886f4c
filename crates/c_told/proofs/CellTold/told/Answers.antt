-- `c_told::CellTold::told` meets its contract: the cell's nine bytes.
use Rattle.c_told.specs.Replies.{cell-told}
use Rattle.c_told.proofs.CellTold.told.Goals as goal

pub returns : goal.returns
returns c = cell-told _ _ c.write_cell.ensures
