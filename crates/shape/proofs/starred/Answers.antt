-- `shape::starred` meets its contract.
-- There are as many of the range as there is room for, and the first are the maximum's.
use Rattle.std.proofs.Common.{◌≡◌, rules, length}
use Rattle.laws.specs.Loops.{length-mapped}
use Rattle.paper.specs.Limits.{most_axes}
use Rattle.shape.specs.Starred.{starred-axes}
use Rattle.shape.proofs.starred.Goals as goal
use Rattle.shape.proofs.starred.Goals.{Start}

full : (c : Start) → length c.args.e.axes ≡ most_axes
full c = search (rules, length-mapped)

pub returns : goal.returns
returns c = starred-axes c.args.e (full c)
