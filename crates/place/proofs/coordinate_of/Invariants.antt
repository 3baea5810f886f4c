-- `place::coordinate_of`: what its loops keep.
use Rattle.std.proofs.Common.{◌%◌, ◌/◌, ◌≡◌, drop, length, take}
use Rattle.paper.specs.Axes.{at_offset, cells}
use Rattle.paper.specs.Limits.{most_axes}
use Rattle.place.proofs.coordinate_of.Given as goal

abbrev pub invariant-loop-i : goal.invariant-loop-i
invariant-loop-i l =
    (length l.at ≡ most_axes) × (l.left ≡ l.initial.left / cells (drop l.i (take l.initial.i l.e.axes))) × (drop l.i (take l.initial.i l.at) ≡ at_offset (drop l.i (take l.initial.i l.e.axes)) (l.initial.left % cells (drop l.i (take l.initial.i l.e.axes))))
