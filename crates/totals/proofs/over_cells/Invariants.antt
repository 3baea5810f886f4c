-- `totals::over_cells`: what its loop keeps: going over the cells left is going over all.
use Rattle.std.proofs.Common.{drop}
use Rattle.std.specs.List.{FoldsTo}
use Rattle.totals.specs.Cells.{cells_at}
use Rattle.totals.proofs.over_cells.Given as goal

abbrev pub invariant-loop-i : goal.invariant-loop-i
invariant-loop-i g l =
    (last : _) → FoldsTo (λ t c r. goal.F-post g l.next t c r) l.t (drop l.i (cells_at l.s l.at l.kind l.n)) last
    → FoldsTo (λ t c r. goal.F-post g l.next t c r) l.fn.first (cells_at l.s l.at l.kind l.n) last
