-- `report::put_rows` meets its contract: a line for each row; whatever writes the lines left completes them.
use Rattle.std.proofs.Common.{rules, arith, length}
use Rattle.report.specs.Rows.{size_of, row_room, lines-begin, lines_more, lines_end}
use Rattle.report.proofs.put_rows.Goals as goal

pub loop-i-init : goal.loop-i-init
loop-i-init c = let s = c.args in lines-begin s.rows.now s.rank s.n s.out.now s.at c.requires.3

pub overflow_mul-i : goal.overflow_mul-i
overflow_mul-i c =
    let s = c.args in
    let h = row_room c.loop-i.i s.n (size_of s.rank) (length s.rows.now) c.loop-i-test.true c.requires.2 in
    search rules

pub put_row-end-requires : goal.put_row-end-requires
put_row-end-requires c =
    let s = c.args in
    let p = c.requires in
    let h = row_room c.loop-i.i s.n (size_of s.rank) (length s.rows.now) c.loop-i-test.true p.2 in
    (omega arith, omega (arith, p.0, c.loop-i-test.true, c.loop-i.invariant.room))

pub loop-i-preserved : goal.loop-i-preserved
loop-i-preserved c =
    let s = c.args in
    let l = c.loop-i in
    lines_more s.rows.now s.rank s.n s.out.now s.at l.out l.end l.i l.invariant c.requires.0 c.loop-i-test.true c.put_row-end.result _ c.put_row-end.ensures

pub shape_of-out : goal.shape_of-out
shape_of-out c = c.loop-i.invariant.long

pub returns : goal.returns
returns c =
    let s = c.args in
    lines_end s.rows.now s.rank s.n s.out.now s.at c.loop-i.out c.loop-i.end c.loop-i.i c.loop-i.invariant c.loop-i-test.false
