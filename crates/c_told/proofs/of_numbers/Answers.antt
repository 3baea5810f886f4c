-- `c_told::of_numbers` meets its contract: four numbers are put one after the other.
use Rattle.c_told.specs.Replies.{four-put}
use Rattle.c_told.proofs.of_numbers.Goals as goal

pub returns : goal.returns
returns c =
    four-put _ _ _ _ _ _ _ _ _ _ c.put4.ensures c.put4-2.ensures c.put4-3.ensures c.put4-4.ensures
