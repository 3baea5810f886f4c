-- `totals::int_total` meets its contract.
use Rattle.std.proofs.Common.{rules}
use Rattle.paper.specs.Operators.{answered}
use Rattle.totals.proofs.int_total.Goals as goal

pub int_sum-answer-requires : goal.int_sum-answer-requires
unfolding answered
int_sum-answer-requires c = search rules

pub refuse_fault-requires : goal.refuse_fault-requires
unfolding answered
refuse_fault-requires c = search rules

pub returns-in-Ok : goal.returns-in-Ok
unfolding answered
returns-in-Ok c = rw (← c.int_sum-answer.ensures c.args.k, c.in-Ok.is)

pub returns-in-Err : goal.returns-in-Err
unfolding answered
returns-in-Err c = rw (c.refuse_fault.ensures, ← c.int_sum-answer.ensures c.args.k, c.in-Err.is)
