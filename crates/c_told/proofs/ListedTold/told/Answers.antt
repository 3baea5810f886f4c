-- `c_told::ListedTold::told` meets its contract: the first two numbers are the rows and where to go on.
use Rattle.c_told.specs.Replies.{two-told}
use Rattle.c_told.proofs.ListedTold.told.Goals as goal

pub returns : goal.returns
returns c = two-told _ _ _ _ _ _ c.of_numbers.ensures
