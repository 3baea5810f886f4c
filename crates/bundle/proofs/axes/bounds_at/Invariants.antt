-- `bundle::axes::bounds_at`: what its loop keeps.
use Rattle.paper.specs.Axes.{no_axis, no_name}
use Rattle.paper.specs.Bundle.{name_of, axis_of, maximum_of}
use Rattle.bundle.specs.Axes.{Filled}
use Rattle.bundle.proofs.axes.bounds_at.Given as goal

abbrev pub invariant-loop-i : goal.invariant-loop-i
invariant-loop-i l =
    Filled l.z no_name (name_of l.z) l.s l.at l.n l.i l.names × Filled l.z no_axis (axis_of l.z) l.s l.at l.n l.i l.axes
    × Filled l.z no_axis (maximum_of l.z) l.s l.at l.n l.i l.maxima
