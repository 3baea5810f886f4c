-- `step::agreeing::index_in` meets its contract: an axis that was left out counts, once it is passed.
use Rattle.std.proofs.Common.{arith, lt-ltb, le-ltb}
use Rattle.step.proofs.agreeing.index_in.Goals as goal

pub returns-in-Names : goal.returns-in-Names
returns-in-Names c = (rw c.in-Names.is, omega (arith, c.requires))

pub returns-then-j-k : goal.returns-then-j-k
returns-then-j-k c =
    (rw (c.in-OtherNames.is, lt-ltb _ _ c.if-j-k.true), omega (arith, c.requires))

pub returns-else-j-k : goal.returns-else-j-k
returns-else-j-k c =
    (rw (c.in-OtherNames.is, le-ltb _ _ c.if-j-k.false), omega (arith, c.requires))

pub returns-in-Limits : goal.returns-in-Limits
returns-in-Limits c = (rw c.in-Limits.is, omega (arith, c.requires))

pub returns-in-OtherLimits : goal.returns-in-OtherLimits
returns-in-OtherLimits c = (rw c.in-OtherLimits.is, omega (arith, c.requires))
