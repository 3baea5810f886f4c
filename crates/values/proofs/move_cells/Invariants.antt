-- `values::move_cells`: what its loops keep.
use Rattle.std.proofs.Common.{◌≡◌, ◌+◌, ◌-◌, ◌*◌, ◌≤◌, length}
use Rattle.paper.specs.Limits.{cell_bytes, most_cells}
use Rattle.values.specs.Runs.{Filled}
use Rattle.values.proofs.move_cells.Given as goal

abbrev pub invariant-loop-k : goal.invariant-loop-k
invariant-loop-k l =
    (l.k ≤ l.n) × (l.n ≤ most_cells) × (l.base + l.n * cell_bytes ≤ length l.work) × (length l.work ≡ length l.initial.work) × Filled l.bundle l.recipe l.initial.work l.fn.turn l.k l.work

abbrev pub decreases-loop-k : goal.decreases-loop-k
decreases-loop-k l = l.n - l.k
