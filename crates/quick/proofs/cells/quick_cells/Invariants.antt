-- `quick::cells::quick_cells`: what its loops keep.
use Rattle.std.proofs.Common.{◌-◌}
use Rattle.quick.specs.Cells.{Upto}
use Rattle.quick.proofs.cells.quick_cells.Given as goal

abbrev pub invariant-loop-off : goal.invariant-loop-off
invariant-loop-off l = Upto l.bundle l.initial.work l.base l.q l.n l.off l.work

abbrev pub decreases-loop-off : goal.decreases-loop-off
decreases-loop-off l = l.end - l.off
