-- `report::put_listing` meets its contract: the first line, then the rows' lines.
use Rattle.std.proofs.Common.{arith}
use Rattle.decimal.specs.Wrote.{wrote_then}
use Rattle.decimal.specs.Lines.{found_line}
use Rattle.report.specs.Rows.{lines_at, found-most}
use Rattle.report.proofs.put_listing.Goals as goal

pub put_rows-requires : goal.put_rows-requires
put_rows-requires c =
    let p = c.requires in
    let f = c.put_found-first in
    (p.0, p.1, p.2, omega (arith, p.1, p.3, f.ensures.0, f.auto.out, found-most c.args.n))

pub returns : goal.returns
returns c =
    let s = c.args in
    let p = c.requires in
    wrote_then s.out.now 0 (found_line s.n) _ _ (lines_at s.rows.now 0 s.rank s.n) _ _ (omega (arith, p.3, found-most s.n)) c.put_found-first.ensures c.put_rows.ensures
