-- `shape::anew`: what its loop keeps.
use Rattle.std.proofs.Common.{◌≡◌, take}
use Rattle.paper.specs.Answers.{axes_of, extent_of}
use Rattle.shape.specs.Renewed.{renewed}
use Rattle.shape.proofs.anew.Given as goal

abbrev pub invariant-loop-i : goal.invariant-loop-i
invariant-loop-i l = (l.new ≡ extent_of (take l.i (renewed l.how (axes_of l.e) l.s l.at)))
