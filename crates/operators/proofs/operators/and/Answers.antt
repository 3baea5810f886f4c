-- `operators::operators::and` meets its contract. Assumes nothing.
use Rattle.std.specs.Prelude.{Ok}
use Rattle.std.proofs.Common.{ap}
use Rattle.operators.specs.Logic.{decided_by}
use Rattle.paper.specs.Operators.{applied, and_cell}
use Rattle.operators.proofs.operators.and.Goals as goal

pub returns : goal.returns
unfolding applied and_cell decided_by
returns c = ap Ok c.decided_by.ensures
