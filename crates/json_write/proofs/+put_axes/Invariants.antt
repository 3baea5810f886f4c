-- `json_write::put_axes`: what its calls and its loop go by: the number of axes left, and the row that the loop draws.
use Rattle.std.proofs.Common.{◌-◌}
use Rattle.paper.specs.Answers.{axes_of}
use Rattle.json_write.specs.Texts.{size_left, text_left}
use Rattle.json_write.specs.Rows.{Rowing}
use Rattle.json_write.specs.Whole.{cell_by}
use Rattle.json_write.proofs.+put_axes.Given as goal

abbrev pub decreases-put_axes : goal.decreases-put_axes
decreases-put_axes l = l.left

abbrev pub invariant-loop-more : goal.invariant-loop-more
invariant-loop-more l =
    Rowing l.initial.out (text_left (cell_by l.s l.from l.kind) (axes_of l.extent) (l.left - 1))
    (size_left (axes_of l.extent) (l.left - 1)) l.initial.more l.initial.pen.at l.initial.pen.cell l.out l.pen.cell l.pen.at l.more
