-- `quick::cells::quick_cells` meets its contract: each turn of the loop works out one cell. Assumes nothing.
use Rattle.std.proofs.Common.{sym, arith, length-take-le}
use Rattle.quick.specs.Cells.{Turn, begins, counted, all-counted, place-there, first-there, second-there, no_nan, one_more}
use Rattle.quick.proofs.cells.quick_cells.Goals as goal
use Rattle.quick.proofs.cells.quick_cells.Goals.{In-loop-off, Start}

abbrev start : In-loop-off → Start
start c = c.before.before.before.before.before

turn : (c : In-loop-off)
    → Turn (start c).args.bundle.now (start c).args.work.now (start c).args.base (start c).args.q (start c).args.n c.loop-off.off c.loop-off.work
turn c = record { asked = (start c).requires.workable; upto = c.loop-off.invariant; more = c.loop-off-test.true }

pub overflow_mul-end : goal.overflow_mul-end
overflow_mul-end c = omega (arith, c.requires.workable.room, c.well_formed)

pub slice_bounds-done-end : goal.slice_bounds-done-end
slice_bounds-done-end c = omega (arith, place-there (turn c))

pub slice_bounds-done-end-in-loop-off : goal.slice_bounds-done-end-in-loop-off
slice_bounds-done-end-in-loop-off c = sym (length-take-le (start c).args.base c.loop-off.work (omega (arith, place-there (turn c))))

pub overflow_add-base : goal.overflow_add-base
overflow_add-base c =
    let s = (goal.at.overflow_add-base c).In-loop-off in
    omega (arith, place-there (turn s), (start s).well_formed, c.loop-off.invariant.ahead.long)

pub write_cell-requires : goal.write_cell-requires
write_cell-requires c = omega (arith, place-there (turn (goal.at.write_cell-requires c).In-loop-off))

pub overflow_add-off : goal.overflow_add-off
overflow_add-off c =
    let s = (goal.at.overflow_add-off c).In-loop-off in
    omega (arith, place-there (turn s), (start s).well_formed, c.loop-off.invariant.ahead.long)

pub loop-off-smaller : goal.loop-off-smaller
loop-off-smaller c = omega (arith, c.loop-off-test.true)

pub loop-off-preserved : goal.loop-off-preserved
loop-off-preserved c =
    let s = (goal.at.loop-off-preserved c).In-loop-off in
    one_more (turn s) c.raw_told-a.ensures c.raw_told-b.ensures (start s).requires.code_value
    c.worked-got.ensures c.in-Ok.is c.write_cell.ensures

pub loop-off-init : goal.loop-off-init
loop-off-init c = begins

pub raw_told-a-requires : goal.raw_told-a-requires
raw_told-a-requires c =
    let s = (goal.at.raw_told-a-requires c).In-loop-off in
    record { lies = first-there (turn s); scalar_side_value = (start s).requires.sides.first }

pub raw_told-b-requires : goal.raw_told-b-requires
raw_told-b-requires c =
    let s = (goal.at.raw_told-b-requires c).In-loop-off in
    record { lies = second-there (turn s); scalar_side_value = (start s).requires.sides.second }

pub worked-got-requires : goal.worked-got-requires
worked-got-requires c =
    let s = (goal.at.worked-got-requires c).In-loop-off in
    no_nan (turn s) c.raw_told-a.ensures c.raw_told-b.ensures (start s).requires.code_value

pub shape_of-work-in-Err : goal.shape_of-work-in-Err
shape_of-work-in-Err c = c.loop-off.invariant.ahead.long

pub returns-in-Err : goal.returns-in-Err
returns-in-Err c = counted c.loop-off.invariant

pub shape_of-work : goal.shape_of-work
shape_of-work c = c.loop-off.invariant.ahead.long

pub returns : goal.returns
returns c = all-counted c.loop-off.invariant (omega (arith, c.loop-off-test.false))
