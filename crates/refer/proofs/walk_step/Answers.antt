-- `refer::walk_step` meets its contract: the place after what was seen.
use Rattle.paper.specs.Reference.{walked_on}
use Rattle.refer.specs.Places.{stepped}
use Rattle.refer.proofs.walk_step.Goals as goal

pub returns-in-Ok-Some : goal.returns-in-Ok-Some
unfolding walked_on
returns-in-Ok-Some c =
    let f = rw c.in-Ok-Some.is at c.in-Ok-Some.field-0-is in stepped _ _ _ c.seen-answer.ensures.0 (rw (c.in-Ok-Some.is, f))

pub returns-in-Ok-None : goal.returns-in-Ok-None
unfolding walked_on
returns-in-Ok-None c =
    let f = rw c.in-Ok-None.is at c.in-Ok-None.field-0-is in stepped _ _ _ c.seen-answer.ensures.0 (rw (c.in-Ok-None.is, f))

pub returns-in-Err : goal.returns-in-Err
unfolding walked_on
returns-in-Err c = stepped _ _ _ c.seen-answer.ensures.0 (rw c.in-Err.is)
