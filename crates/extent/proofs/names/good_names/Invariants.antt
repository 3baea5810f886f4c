-- `extent::names::good_names`: what its loop keeps.
use Rattle.std.proofs.Common.{◌≡◌, take, drop}
use Rattle.paper.specs.Axes.{good_names}
use Rattle.extent.proofs.names.good_names.Given as goal

abbrev pub invariant-loop-i : goal.invariant-loop-i
invariant-loop-i l = good_names (drop l.i (take l.rank l.names)) ≡ good_names (take l.rank l.names)
