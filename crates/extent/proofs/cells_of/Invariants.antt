-- `extent::cells_of`: what its loops keep.
use Rattle.std.proofs.Common.{◌≤◌, ◌≡◌, drop, take}
use Rattle.paper.specs.Axes.{cells}
use Rattle.paper.specs.Limits.{most_cells}
use Rattle.extent.proofs.cells_of.Given as goal

abbrev pub invariant-loop-i : goal.invariant-loop-i
invariant-loop-i l = (l.n ≡ cells (drop l.i (take l.rank l.e.axes))) × (l.n ≤ most_cells)
