-- `shape::removed`: what its loop keeps.
use Rattle.std.proofs.Common.{◌≡◌, take}
use Rattle.paper.specs.Answers.{axes_of, extent_of}
use Rattle.paper.specs.Axes.{without}
use Rattle.shape.proofs.removed.Given as goal

abbrev pub invariant-loop-i : goal.invariant-loop-i
invariant-loop-i l = (l.new ≡ extent_of (without l.out (take l.i (axes_of l.e))))
