-- `extent::rank_of` meets its contract.
use Rattle.std.proofs.Common.{◌≡◌, rules, length}
use Rattle.paper.specs.Limits.{most_axes}
use Rattle.laws.specs.Loops.{length-mapped}
use Rattle.extent.specs.Rank.{rank-told}
use Rattle.extent.proofs.rank_of.Goals as goal
use Rattle.extent.proofs.rank_of.Goals.{Start}

full : (c : Start) → length c.args.e.axes ≡ most_axes
full c = search (rules, length-mapped)

pub returns : goal.returns
returns c = let v = c.axis_count.ensures in rank-told c.args.e _ (full c.before) v.0 v.1
