-- `positions::bits_of` meets its contract.
-- Below 0 the bits are two's complement; from 0 on they are the number.
use Rattle.positions.specs.Moves.{bits_below, bits-from}
use Rattle.positions.proofs.bits_of.Goals as goal

pub returns-then-d-lt-REACH : goal.returns-then-d-lt-REACH
returns-then-d-lt-REACH c = bits_below c.args.d c.if-d-lt-REACH.true

pub returns : goal.returns
returns c = bits-from c.args.d c.if-d-lt-REACH.false
