-- `operators::numbers::pair_op` meets its contract: an arm for each operator, and the numbers that none has. Assumes nothing.
use Rattle.std.proofs.Common.{sym, ap}
use Rattle.operators.proofs.Beyond.{no-pair}
use Rattle.paper.specs.Operators.{pair_op}
use Rattle.operators.proofs.numbers.pair_op.Goals as goal

pub returns-in_default : goal.returns-in_default
returns-in_default c = no-pair c.args.n c.in_default.in_default-own.rest

pub returns-in-1 : goal.returns-in-1
returns-in-1 c = sym (ap pair_op c.in-1.is)

pub returns-in-2 : goal.returns-in-2
returns-in-2 c = sym (ap pair_op c.in-2.is)

pub returns-in-3 : goal.returns-in-3
returns-in-3 c = sym (ap pair_op c.in-3.is)

pub returns-in-4 : goal.returns-in-4
returns-in-4 c = sym (ap pair_op c.in-4.is)

pub returns-in-5 : goal.returns-in-5
returns-in-5 c = sym (ap pair_op c.in-5.is)

pub returns-in-6 : goal.returns-in-6
returns-in-6 c = sym (ap pair_op c.in-6.is)

pub returns-in-7 : goal.returns-in-7
returns-in-7 c = sym (ap pair_op c.in-7.is)

pub returns-in-8 : goal.returns-in-8
returns-in-8 c = sym (ap pair_op c.in-8.is)

pub returns-in-9 : goal.returns-in-9
returns-in-9 c = sym (ap pair_op c.in-9.is)

pub returns-in-10 : goal.returns-in-10
returns-in-10 c = sym (ap pair_op c.in-10.is)

pub returns-in-11 : goal.returns-in-11
returns-in-11 c = sym (ap pair_op c.in-11.is)

pub returns-in-12 : goal.returns-in-12
returns-in-12 c = sym (ap pair_op c.in-12.is)

pub returns-in-13 : goal.returns-in-13
returns-in-13 c = sym (ap pair_op c.in-13.is)
