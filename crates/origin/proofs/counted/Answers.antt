-- `origin::counted` meets its contract: the product of few blocks and few cells is small.
use Rattle.std.proofs.Common.{arith}
use Rattle.origin.specs.Counts.{counted-le}
use Rattle.origin.proofs.counted.Goals as goal

pub overflow_mul-result : goal.overflow_mul-result
overflow_mul-result c = omega (arith, counted-le c.args.blocks c.args.size c.args.rest c.requires)

pub overflow_add-result : goal.overflow_add-result
overflow_add-result c = omega (arith, counted-le c.args.blocks c.args.size c.args.rest c.requires, c.requires.more)
