-- `place::ordinality_of`: what its loops keep.
use Rattle.std.proofs.Common.{◌≡◌, drop, take}
use Rattle.paper.specs.Axes.{cells, offset}
use Rattle.place.proofs.ordinality_of.Given as goal

abbrev pub invariant-loop-i : goal.invariant-loop-i
invariant-loop-i l = (l.sum ≡ offset (drop l.i (take l.initial.i l.e.axes)) (drop l.i (take l.initial.i l.p.at))) × (l.later ≡ cells (drop l.i (take l.initial.i l.e.axes)))
