-- `extent::axis_count` meets its contract.
use Rattle.std.proofs.Common.{arith, le-leb}
use borrow.Author.Tests.{lt-leb}
use Rattle.paper.specs.Limits.{most_axes}
use Rattle.extent.proofs.axis_count.Goals as goal

pub returns-then-n-gt-AXES : goal.returns-then-n-gt-AXES
returns-then-n-gt-AXES c = (rw (lt-leb c.args.n most_axes c.if-n-gt-AXES.true), omega arith)

pub returns : goal.returns
returns c = (rw (le-leb c.args.n most_axes c.if-n-gt-AXES.false), c.if-n-gt-AXES.false)
