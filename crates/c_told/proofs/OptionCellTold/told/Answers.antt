-- `c_told::OptionCellTold::told` meets its contract: a 1 and the cell, or ten zeros.
use Rattle.std.specs.Prelude.{Ok}
use Rattle.c_told.specs.Given.{seen_bytes}
use Rattle.c_told.specs.Replies.{held-told, arm}
use Rattle.c_told.proofs.OptionCellTold.told.Goals as goal

pub returns-in-Some : goal.returns-in-Some
returns-in-Some c = arm seen_bytes Ok _ _ _ c.in-Some.is (held-told _ _ c.write_cell.ensures)
