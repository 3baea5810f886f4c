-- `c_told::refused` meets its contract: the first two numbers are the refusal’s place and ordinality.
use Rattle.c_told.specs.Replies.{two-told}
use Rattle.c_told.proofs.refused.Goals as goal

pub returns : goal.returns
returns c = two-told _ _ _ _ _ _ c.of_numbers.ensures
