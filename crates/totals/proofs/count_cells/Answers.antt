-- `totals::count_cells` meets its contract: the cells left and those counted are all.
use Rattle.std.proofs.Common.{arith}
use Rattle.totals.specs.Cells.{counted_next, counted_none, tally-one}
use Rattle.totals.proofs.count_cells.Goals as goal

pub loop-i-preserved : goal.loop-i-preserved
loop-i-preserved c =
    let a = c.args in
    let l = c.loop-i in
    let f = counted_next a.s.now a.at a.kind a.n l.i c.loop-i-test.true a.trues in
    let t = rw c.held_cell.ensures at c.tally-count.ensures in
    (omega (arith, tally-one a.trues c.held_cell.result, c.tally-count.ensures), omega (arith, f, t, l.invariant.1))

pub returns : goal.returns
returns c =
    let a = c.args in
    let l = c.loop-i in
    omega (arith, counted_none a.s.now a.at a.kind a.n l.i (omega arith) a.trues, l.invariant.1)

pub loop-i-init : goal.loop-i-init
loop-i-init c = (omega arith, omega arith)

pub held_cell-requires : goal.held_cell-requires
held_cell-requires c = omega (arith, c.requires.room, c.requires.few)

pub overflow_add-count : goal.overflow_add-count
overflow_add-count c = omega (arith, tally-one c.args.trues c.held_cell.result, c.tally-count.ensures, c.requires.few)
