-- `totals::count_cells`: what its loops keep.
use Rattle.std.proofs.Common.{◌+◌, ◌≤◌, ◌≡◌, drop}
use Rattle.totals.specs.Cells.{cells_at, counted}
use Rattle.totals.proofs.count_cells.Given as goal

abbrev pub invariant-loop-i : goal.invariant-loop-i
invariant-loop-i l =
    (l.count ≤ l.i) × (l.count + counted l.trues (drop l.i (cells_at l.s l.at l.kind l.n)) ≡ counted l.trues (cells_at l.s l.at l.kind l.n))
