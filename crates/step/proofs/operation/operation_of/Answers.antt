-- `step::operation::operation_of` meets its contract: no operation has another number.
use Rattle.step.specs.Told.{no-operation}
use Rattle.step.proofs.operation.operation_of.Goals as goal

pub returns-in_default : goal.returns-in_default
returns-in_default c = no-operation c.args.n c.args.o c.in_default.in_default-own.rest
