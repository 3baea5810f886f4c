-- `step::tests::takes_type` meets its contract: each by its own line of the table.
use Rattle.std.proofs.Common.{◌+◌}
use Rattle.paper.specs.Recipe.{takes_type}
use Rattle.paper.specs.Limits.{scalar_at, word_bytes}
use Rattle.laws.specs.Sizes.{fits}
use Rattle.step.specs.Steps.{detail_of, fewer, scalar-there}
use Rattle.step.proofs.tests.takes_type.Goals as goal

pub scalar_fits-requires : goal.scalar_fits-requires
scalar_fits-requires c =
    fewer c.args.step.at (scalar_at + word_bytes) (detail_of c.args.step) c.args.s.now
    (fits c.args.step.version).scalar c.requires

pub returns-in-Scalar : goal.returns-in-Scalar
unfolding takes_type
returns-in-Scalar c =
    rw (c.in-Scalar.is, ← scalar-there c.args.s.now c.args.step) c.scalar_fits.ensures

pub returns-in-Pair : goal.returns-in-Pair
unfolding takes_type
returns-in-Pair c = rw c.in-Pair.is c.takes_pair.ensures

pub returns-in-Single : goal.returns-in-Single
unfolding takes_type
returns-in-Single c = rw c.in-Single.is c.takes_single.ensures
