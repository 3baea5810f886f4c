-- `rows::sides::side_around` meets its contract: found by the axes before, as `side_by_side`; else all lines that are outside by them.
use Rattle.std.proofs.Common.{sym, ◌∙◌, arith}
use Rattle.rows.specs.Fronts.{first-beside, around-few, around-side}
use Rattle.rows.proofs.sides.side_around.Goals as goal

pub found_at-found-requires : goal.found_at-found-requires
found_at-found-requires c =
    rw (c.first_axes-first.ensures, c.first_axes-other.ensures, c.cells_after-line.ensures.0)
    (first-beside c.requires c.uneven-c.result c.uneven-c.ensures)

pub side_by_side-requires-in-None : goal.side_by_side-requires-in-None
side_by_side-requires-in-None c =
    rw (c.first_axes-first.ensures, c.first_axes-other.ensures, c.cells_after-line.ensures.0)
    (first-beside c.requires c.uneven-c.result c.uneven-c.ensures)

pub overflow_mul-result : goal.overflow_mul-result
overflow_mul-result c =
    let m = c.cells_after-line.ensures.0 in
    let run = rw (c.first_axes-first.ensures, c.first_axes-other.ensures, m) at c.side_by_side-in-None.ensures in
    let n = rw (← m) at (around-few c.requires c.uneven-c.result c.uneven-c.ensures _ run) in
    omega (arith, n.0, c.requires.here.few)

pub overflow_sub-result : goal.overflow_sub-result
overflow_sub-result c =
    let m = c.cells_after-line.ensures.0 in
    let run = rw (c.first_axes-first.ensures, c.first_axes-other.ensures, m) at c.side_by_side-in-None.ensures in
    rw m (around-few c.requires c.uneven-c.result c.uneven-c.ensures _ run).1

pub returns-in-None : goal.returns-in-None
returns-in-None c =
    let m = c.cells_after-line.ensures.0 in
    let run = rw (c.first_axes-first.ensures, c.first_axes-other.ensures, m) at c.side_by_side-in-None.ensures in
    let out = rw (c.first_axes-first.ensures, c.first_axes-other.ensures, m) at c.found_at-found.ensures in
    rw m (around-side c.requires c.uneven-c.result c.uneven-c.ensures _ run (sym out ∙ c.in-None.is))
