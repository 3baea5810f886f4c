-- `c_told::U32Told::told` meets its contract: the first number is it.
use Rattle.c_told.specs.Replies.{one_told}
use Rattle.c_told.proofs.U32Told.told.Goals as goal

pub returns : goal.returns
returns c = one_told _ _ _ _ _ _ c.of_numbers.ensures
