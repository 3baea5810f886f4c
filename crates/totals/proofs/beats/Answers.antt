-- `totals::beats` meets its contract.
use Rattle.totals.proofs.beats.Goals as goal

pub returns-then-largest : goal.returns-then-largest
returns-then-largest c = rw c.if-largest.true c.is_below.ensures

pub returns : goal.returns
returns c = rw c.if-largest.false c.is_below-2.ensures
