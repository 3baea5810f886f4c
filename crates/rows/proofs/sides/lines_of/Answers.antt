-- `rows::sides::lines_of` meets its contract: one line of the cells left, or as many lines as the axes before have cells side by side.
use Rattle.std.proofs.Common.{arith}
use Rattle.rows.specs.Sides.{one-lined}
use Rattle.rows.specs.Fronts.{first-beside, first-lined}
use Rattle.rows.proofs.sides.lines_of.Goals as goal
use Rattle.rows.proofs.sides.lines_of.Goals.{After-cut-c, Start}

pub returns-then-last-rank_of : goal.returns-then-last-rank_of
returns-then-last-rank_of c = one-lined _ _ c.args.k c.one_line.ensures c.requires.lt

pub returns-then-k-line-ne0 : goal.returns-then-k-line-ne0
returns-then-k-line-ne0 c =
    one-lined _ _ c.args.k c.one_line-then-k-line-ne0.ensures c.requires.lt

pub cut-c-requires : goal.cut-c-requires
cut-c-requires c =
    record { small = c.requires.here; last_in_bounds = omega (arith, c.uneven-last.ensures, c.rank_of.ensures.number, c.if-last-rank_of.false) }

-- a line, cut
module _ (c : After-cut-c) where
  abbrev start : Start
  start = (goal.at.After-cut-c c).Start

pub side_by_side-requires : goal.side_by_side-requires
side_by_side-requires c =
    rw (c.first_axes.ensures, c.first_axes-2.ensures, c.cells_after-line.ensures.0)
    (first-beside (start (goal.at.side_by_side-requires c).After-cut-c).requires c.cut-c.result c.cut-c.ensures)

pub returns : goal.returns
returns c =
    let l = c.cells_after-line.ensures.0 in
    let run = rw (c.first_axes.ensures, c.first_axes-2.ensures, l) at c.side_by_side.ensures in
    let z = rw l at c.if-k-line-ne0.false in
    rw (l, c.cells_after.ensures.0) (first-lined (start (goal.at.returns c).After-cut-c).requires c.cut-c.result c.cut-c.ensures _ z run)
