-- `totals::is_below` meets its contract.
use Rattle.std.proofs.Common.{rules}
use Rattle.paper.specs.Totals.{holds}
use Rattle.totals.proofs.is_below.Goals as goal

pub lt-answer-requires : goal.lt-answer-requires
unfolding holds
lt-answer-requires c = search rules

pub is_truth-requires : goal.is_truth-requires
unfolding holds
is_truth-requires c = search rules

pub returns-in-Ok : goal.returns-in-Ok
unfolding holds
returns-in-Ok c = rw (← c.lt-answer.ensures, c.in-Ok.is) c.is_truth.ensures

pub returns-in-Err : goal.returns-in-Err
unfolding holds
returns-in-Err c = rw (← c.lt-answer.ensures, c.in-Err.is)
