-- `origin::cells_after`: what its loop keeps.
use Rattle.std.proofs.Common.{◌≤◌, ◌≡◌, drop}
use Rattle.paper.specs.Answers.{axes_of}
use Rattle.paper.specs.Axes.{cells}
use Rattle.origin.proofs.cells_after.Given as goal

abbrev pub invariant-loop-i : goal.invariant-loop-i
invariant-loop-i l = (l.before ≤ l.i) × (l.n ≡ cells (drop l.i (axes_of l.e)))
