-- `lay::bring` meets its contract: from the work area, or from the bundle, as a row or by the loop.
use Rattle.std.proofs.Common.{◌+◌, ◌*◌, ◌^◌, ◌<◌, arith, leb-true, take, length-take}
use Rattle.paper.specs.Limits.{cell_bytes}
use Rattle.quick.specs.Operands.{bytes_most}
use Rattle.lay.specs.Lay.{last_cells, ends-before, brought-on, lies-there, brought-over}
use Rattle.lay.proofs.bring.Goals as goal
use Rattle.lay.proofs.bring.Goals.{Start}

fits : (c : Start) → c.args.from.at + (c.args.i + c.args.n) * cell_bytes < 2 ^ 64
fits c =
    let w = c.args.work.now in
    let d = take c.requires.base w in
    let l = length-take c.requires.base w in
    let m = bytes_most c.args.from.which c.args.bundle.now d (2 ^ 63) (omega (arith, c.well_formed)) (omega (arith, c.well_formed, l)) in
    omega (arith, c.requires.there, m)

-- one cell
pub bring_one-requires : goal.bring_one-requires
bring_one-requires c = rw c.if-n-eq1.true at c.requires

pub returns-then-n-eq1 : goal.returns-then-n-eq1
returns-then-n-eq1 c v =
    let e = c.if-n-eq1.true in
    rw e (c.bring_one.ensures (rw e at v))

pub overflow_mul-start : goal.overflow_mul-start
overflow_mul-start c = omega (arith, fits (goal.at.overflow_mul-start c).Start)

pub overflow_add-start : goal.overflow_add-start
overflow_add-start c = omega (arith, fits (goal.at.overflow_add-start c).Start)

pub overflow_mul-long : goal.overflow_mul-long
overflow_mul-long c = omega (arith, fits (goal.at.overflow_mul-long c).Start)

-- from the work area
pub row_on-requires : goal.row_on-requires
row_on-requires c =
    (leb-true last_cells _ c.if-n-ge-LAST.true-raw, ends-before c.requires c.if-from-eq-IN_WORK.true, c.requires.room)

pub returns-then-n-ge-LAST : goal.returns-then-n-ge-LAST
returns-then-n-ge-LAST c v = brought-on v c.if-from-eq-IN_WORK.true c.row_on.ensures

pub copy_on-requires : goal.copy_on-requires
copy_on-requires c =
    (ends-before c.requires c.if-from-eq-IN_WORK.true, c.requires.room)

pub returns-then-from-eq-IN_WORK : goal.returns-then-from-eq-IN_WORK
returns-then-from-eq-IN_WORK c v = brought-on v c.if-from-eq-IN_WORK.true c.copy_on.ensures

-- from the bundle
pub copy_row-requires : goal.copy_row-requires
copy_row-requires c =
    (leb-true last_cells _ c.if-n-ge-LAST-2.true-raw, lies-there c.requires c.if-from-eq-IN_WORK.false, c.requires.room)

pub returns-then-n-ge-LAST-2 : goal.returns-then-n-ge-LAST-2
returns-then-n-ge-LAST-2 c v = brought-over v c.if-from-eq-IN_WORK.false c.copy_row.ensures

pub copy_bytes-requires : goal.copy_bytes-requires
copy_bytes-requires c =
    (lies-there c.requires c.if-from-eq-IN_WORK.false, c.requires.room)

pub returns : goal.returns
returns c v = brought-over v c.if-from-eq-IN_WORK.false c.copy_bytes.ensures
