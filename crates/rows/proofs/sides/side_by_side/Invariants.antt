-- `rows::sides::side_by_side`: what its loop keeps.
use Rattle.std.proofs.Common.{◌≡◌, drop}
use Rattle.paper.specs.Axes.{cells}
use Rattle.paper.specs.Answers.{axes_of}
use Rattle.laws.specs.Alike.{SameLimits}
use Rattle.rows.proofs.sides.side_by_side.Given as goal

abbrev pub invariant-loop-i : goal.invariant-loop-i
invariant-loop-i l =
    (l.block ≡ cells (drop l.i (axes_of l.t))) × SameLimits (drop l.i (axes_of l.t)) (drop l.i (axes_of l.e))
