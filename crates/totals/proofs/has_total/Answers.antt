-- `totals::has_total` meets its contract.
use Rattle.paper.specs.Totals.{totals?}
use Rattle.totals.proofs.has_total.Goals as goal

pub returns-in-Filled : goal.returns-in-Filled
unfolding totals?
returns-in-Filled c = rw c.in-Filled.is

pub returns-in-Trues : goal.returns-in-Trues
unfolding totals?
returns-in-Trues c = rw c.in-Trues.is

pub returns-in-Smallest : goal.returns-in-Smallest
unfolding totals?
returns-in-Smallest c = rw c.in-Smallest.is

pub returns-in-Largest : goal.returns-in-Largest
unfolding totals?
returns-in-Largest c = rw c.in-Largest.is

pub returns-in-Sum : goal.returns-in-Sum
unfolding totals?
returns-in-Sum c = rw c.in-Sum.is

pub returns-in-Average : goal.returns-in-Average
unfolding totals?
returns-in-Average c = rw c.in-Average.is
