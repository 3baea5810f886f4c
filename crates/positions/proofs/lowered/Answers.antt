-- `positions::lowered` meets its contract.
-- The test of the definition.
use Rattle.std.proofs.Common.{le-ltb, lt-ltb}
use Rattle.positions.proofs.lowered.Goals as goal

pub returns-then-d-m : goal.returns-then-d-m
returns-then-d-m c = rw (lt-ltb _ _ c.if-d-m.true)

pub returns : goal.returns
returns c = rw (le-ltb _ _ c.if-d-m.false)
