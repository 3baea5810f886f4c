-- `json_write::put_cells`: what its loop keeps.
use Rattle.json_write.specs.Texts.{cell_on}
use Rattle.json_write.specs.Rows.{Rowing}
use Rattle.json_write.specs.Whole.{cell_by}
use Rattle.json_write.proofs.put_cells.Given as goal

abbrev pub invariant-loop-more : goal.invariant-loop-more
invariant-loop-more l =
    Rowing l.initial.out (cell_on (cell_by l.s l.from l.kind)) 1 l.initial.more l.initial.at l.initial.cell l.out l.cell l.at l.more
