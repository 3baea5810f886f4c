-- `json_write::cells_length`: what its loop keeps.
use Rattle.std.proofs.Common.{◌+◌, ◌-◌, ◌≡◌}
use Rattle.json_write.specs.Lengths.{cells_long}
use Rattle.json_write.specs.Whole.{cell_by}
use Rattle.json_write.proofs.cells_length.Given as goal

abbrev pub invariant-loop-i : goal.invariant-loop-i
invariant-loop-i l =
    l.long + cells_long (cell_by l.s l.from l.kind) l.i (l.n - l.i) ≡ cells_long (cell_by l.s l.from l.kind) 0 l.n
