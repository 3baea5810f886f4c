-- `json_write::put_cells` meets its contract: what is stored and what is left are the whole row (`Rowing`).
use Rattle.std.proofs.Common.{◌+◌, ◌-◌, ◌<◌, ◌≡◌, refl, ap, ◌∙◌, arith, length, length-set}
use Rattle.paper.specs.Json.{cell_text}
use Rattle.json_write.specs.Texts.{comma}
use Rattle.json_write.specs.Rows.{rowing-begins, row-cell, row_at, row-end, row-turn, shut-cell, shut_row}
use Rattle.json_write.proofs.put_cells.Goals as goal
use Rattle.json_write.proofs.put_cells.Goals.{After-held_cell, At-loop-more}

-- at the loop's head the row is open, the buffer is as long as it was, and the bracket that closes it fits
module _ (c : At-loop-more) where
  long : length c.loop-more.out ≡ length c.args.out.now
  long = c.loop-more.invariant.long ∙ simp length-set

  end : c.loop-more.at < length c.args.out.now
  end = row-end c.loop-more.invariant _ _ refl c.requires.fits

-- the cell that is written is the one at the index
module _ (c : After-held_cell) where
  fits : c.loop-more.at + length (cell_text c.held_cell.result) + length (comma (c.loop-more.more - 1)) < length c.loop-more.out
  fits =
      let f = row_at c.loop-more.invariant _ _ refl c.requires.fits c.loop-more-test.true in
      rw (long (goal.at.After-held_cell c).At-loop-more, ap cell_text c.held_cell.ensures) f

pub loop-more-init : goal.loop-more-init
loop-more-init c = rowing-begins _ _ _ _ _ _

pub held_cell-requires : goal.held_cell-requires
held_cell-requires c = omega (arith, c.requires.lies, row-cell c.loop-more.invariant c.loop-more-test.true)

pub put_cell-at-requires : goal.put_cell-at-requires
put_cell-at-requires c = omega (arith, fits (goal.at.put_cell-at-requires c).After-held_cell)

pub put_comma-at-requires : goal.put_comma-at-requires
put_comma-at-requires c =
    omega (arith, fits (goal.at.put_comma-at-requires c).After-held_cell, c.put_cell-at.auto.out, c.put_cell-at.ensures.0)

pub overflow_add-cell : goal.overflow_add-cell
overflow_add-cell c = omega (arith, c.requires.lies, row-cell c.loop-more.invariant c.loop-more-test.true)

pub loop-more-preserved : goal.loop-more-preserved
loop-more-preserved c =
    row-turn c.loop-more.invariant c.loop-more-test.true (rw (ap cell_text c.held_cell.ensures) at c.put_cell-at.ensures)
    c.put_comma-at.ensures refl

pub bounds-out-at-2 : goal.bounds-out-at-2
bounds-out-at-2 c = let s = (goal.at.bounds-out-at-2 c).At-loop-more in omega (arith, end s, long s)

pub returns : goal.returns
returns c =
    let v = c.loop-more.invariant in
    let h = c.loop-more-test.false in
    record { drawn = shut_row v h c.args.out.now _ (refl, refl) (refl, refl); goes = omega (arith, shut-cell v h) }
