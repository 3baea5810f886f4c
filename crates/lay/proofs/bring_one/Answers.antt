-- `lay::bring_one` meets its contract: from the work area, or from the bundle.
use Rattle.std.proofs.Common.{◌+◌, ◌*◌, ◌^◌, ◌<◌, arith, take, length-take}
use Rattle.paper.specs.Limits.{cell_bytes}
use Rattle.quick.specs.Operands.{bytes_most}
use Rattle.lay.specs.Lay.{ends-before, brought-on, lies-there, brought-over}
use Rattle.lay.proofs.bring_one.Goals as goal
use Rattle.lay.proofs.bring_one.Goals.{Start}

fits : (c : Start) → c.args.from.at + (c.args.i + 1) * cell_bytes < 2 ^ 64
fits c =
    let w = c.args.work.now in
    let d = take c.requires.base w in
    let l = length-take c.requires.base w in
    let m = bytes_most c.args.from.which c.args.bundle.now d (2 ^ 63) (omega (arith, c.well_formed)) (omega (arith, c.well_formed, l)) in
    omega (arith, c.requires.there, m)

pub overflow_mul-start : goal.overflow_mul-start
overflow_mul-start c = omega (arith, fits (goal.at.overflow_mul-start c).Start)

pub overflow_add-start : goal.overflow_add-start
overflow_add-start c = omega (arith, fits (goal.at.overflow_add-start c).Start)

pub nine_on-requires : goal.nine_on-requires
nine_on-requires c =
    (ends-before c.requires c.if-from-eq-IN_WORK.true, c.requires.room)

pub returns-then-from-eq-IN_WORK : goal.returns-then-from-eq-IN_WORK
returns-then-from-eq-IN_WORK c v = brought-on v c.if-from-eq-IN_WORK.true c.nine_on.ensures

pub copy_nine-requires : goal.copy_nine-requires
copy_nine-requires c =
    (lies-there c.requires c.if-from-eq-IN_WORK.false, c.requires.room)

pub returns : goal.returns
returns c v = brought-over v c.if-from-eq-IN_WORK.false c.copy_nine.ensures
