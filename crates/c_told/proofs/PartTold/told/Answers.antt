-- `c_told::PartTold::told` meets its contract: the first three numbers are the side and the two bytes.
use Rattle.std.specs.Prelude.{Ok}
use Rattle.c_told.specs.Given.{part_bytes}
use Rattle.c_told.specs.Replies.{three-told, arm}
use Rattle.c_told.proofs.PartTold.told.Goals as goal

pub returns-in-Left : goal.returns-in-Left
returns-in-Left c = arm part_bytes Ok _ _ _ c.in-Left.is (three-told _ _ _ _ _ _ c.of_numbers.ensures)

pub returns-in-Right : goal.returns-in-Right
returns-in-Right c = arm part_bytes Ok _ _ _ c.in-Right.is (three-told _ _ _ _ _ _ c.of_numbers-in-Right.ensures)
