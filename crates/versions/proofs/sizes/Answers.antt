-- `versions::sizes` meets its contract: each version by its own line.
use Rattle.paper.specs.Limits.{sizes_of}
use Rattle.versions.proofs.sizes.Goals as goal

pub returns-in-One : goal.returns-in-One
unfolding sizes_of
returns-in-One c = rw c.in-One.is

pub returns-in-Two : goal.returns-in-Two
unfolding sizes_of
returns-in-Two c = rw c.in-Two.is
