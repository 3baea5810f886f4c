-- `json_write::json_length` meets its contract: the text's length by its parts.
use Rattle.std.proofs.Common.{◌+◌, ◌^◌, ◌<◌, ◌≡◌, ap, arith, length}
use Rattle.paper.specs.Answers.{axes_of}
use Rattle.json_write.specs.Lengths.{cells_long}
use Rattle.json_write.specs.Whole.{cell_by, json_at, whole-sound, whole_long, whole-short}
use Rattle.json_write.proofs.json_length.Goals as goal
use Rattle.json_write.proofs.json_length.Goals.{After-cells_length-cells}

pub marks_of-marks-requires : goal.marks_of-marks-requires
marks_of-marks-requires c = whole-sound c.requires.0

pub cells_length-cells-requires : goal.cells_length-cells-requires
cells_length-cells-requires c = omega (arith, c.requires.1, c.requires.0.lies, (whole-sound c.requires.0).1)

-- so long is the text, and it is short
module _ (c : After-cells_length-cells) where
  long : (9 + c.marks_of-marks.result + c.cells_length-cells.result
      ≡ length (json_at c.args.s.now c.args.from c.args.kind (axes_of c.args.extent)))
      × (9 + c.marks_of-marks.result + c.cells_length-cells.result < 2 ^ 32)
  long =
      let f = cell_by c.args.s.now c.args.from c.args.kind in
      omega (
        arith,
        c.cells_length-cells.ensures,
        ap (cells_long f 0) c.requires.1,
        c.marks_of-marks.ensures,
        whole_long c.requires.0 c.args.kind,
        whole-short c.requires.0 c.args.kind,
      )

pub overflow_add-result : goal.overflow_add-result
overflow_add-result c = omega (arith, (long (goal.at.overflow_add-result c).After-cells_length-cells).1)

pub overflow_add-result-2 : goal.overflow_add-result-2
overflow_add-result-2 c = omega (arith, (long (goal.at.overflow_add-result-2 c).After-cells_length-cells).1)

pub returns : goal.returns
returns c = long (goal.at.returns c).After-cells_length-cells
