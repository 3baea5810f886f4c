-- `rows::sides::one_line` meets its contract.
use Rattle.std.proofs.Common.{arith}
use Rattle.rows.proofs.sides.one_line.Goals as goal

pub returns : goal.returns
returns c = rw c.cells_after.ensures.0

pub overflow_sub-result : goal.overflow_sub-result
overflow_sub-result c = omega (arith, c.cells_after.ensures.0)
