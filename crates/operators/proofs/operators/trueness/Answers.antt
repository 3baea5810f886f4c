-- `operators::operators::trueness` meets its contract. Assumes nothing.
use Rattle.std.proofs.Common.{rules}
use Rattle.paper.specs.Operators.{single_cell}
use Rattle.operators.proofs.operators.trueness.Goals as goal

pub returns : goal.returns
unfolding single_cell
returns c = search rules
