-- `operators::numbers::single_op` meets its contract: an arm for each operator, and the numbers that none has. Assumes nothing.
use Rattle.std.proofs.Common.{sym, ap}
use Rattle.operators.proofs.Beyond.{no-single}
use Rattle.paper.specs.Operators.{single_op}
use Rattle.operators.proofs.numbers.single_op.Goals as goal

pub returns-in_default : goal.returns-in_default
returns-in_default c = no-single c.args.n c.in_default.in_default-own.rest

pub returns-in-1 : goal.returns-in-1
returns-in-1 c = sym (ap single_op c.in-1.is)

pub returns-in-2 : goal.returns-in-2
returns-in-2 c = sym (ap single_op c.in-2.is)

pub returns-in-3 : goal.returns-in-3
returns-in-3 c = sym (ap single_op c.in-3.is)

pub returns-in-4 : goal.returns-in-4
returns-in-4 c = sym (ap single_op c.in-4.is)

pub returns-in-5 : goal.returns-in-5
returns-in-5 c = sym (ap single_op c.in-5.is)

pub returns-in-6 : goal.returns-in-6
returns-in-6 c = sym (ap single_op c.in-6.is)

pub returns-in-7 : goal.returns-in-7
returns-in-7 c = sym (ap single_op c.in-7.is)
