-- `totals::float_run`: what its loops keep.
use Rattle.paper.specs.Totals.{filled_from}
use Rattle.totals.specs.Cells.{cells_at, filled_left}
use Rattle.totals.specs.Sums.{Going}
use Rattle.totals.proofs.float_run.Given as goal

abbrev pub invariant-loop-i : goal.invariant-loop-i
invariant-loop-i l = Going l.mean (filled_from 1 (cells_at l.s l.at l.kind l.n)) (filled_left l.s l.at l.kind l.n l.i) l.i
