-- `versions::version_told` meets its contract: 1, 2, or another.
use Rattle.std.proofs.Common.{arith, ne_eqb}
use Rattle.paper.specs.Limits.{sizes_of}
use Rattle.paper.specs.Bundle.{version_told}
use Rattle.versions.proofs.version_told.Goals as goal

pub returns-in-1 : goal.returns-in-1
unfolding version_told sizes_of
returns-in-1 c = rw c.in-1.is

pub returns-in-2 : goal.returns-in-2
unfolding version_told sizes_of
returns-in-2 c = rw c.in-2.is

pub returns-in_default : goal.returns-in_default
unfolding version_told
returns-in_default c = rw (c.refuse.ensures, ne_eqb c.args.n 1 (λ e. omega arith), ne_eqb c.args.n 2 (λ e. omega arith))
