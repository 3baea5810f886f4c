-- `c_told::place_told` meets its contract: a place that fits as it is, another as the largest number.
use Rattle.std.proofs.Common.{arith}
use Rattle.c_told.specs.Capped.{capped_fits, capped-over}
use Rattle.c_told.proofs.place_told.Goals as goal

pub returns-then-place-le-LARGEST : goal.returns-then-place-le-LARGEST
returns-then-place-le-LARGEST c = capped_fits c.args.place (omega (arith, c.if-place-le-LARGEST.true))

pub returns : goal.returns
returns c = capped-over c.args.place (omega (arith, c.if-place-le-LARGEST.false))
