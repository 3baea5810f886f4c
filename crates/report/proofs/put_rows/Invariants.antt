-- `report::put_rows`: what its loops keep.
use Rattle.report.specs.Rows.{LinesPut}
use Rattle.report.proofs.put_rows.Given as goal

abbrev pub invariant-loop-i : goal.invariant-loop-i
invariant-loop-i l = LinesPut l.rows l.rank l.n l.initial.out l.initial.end l.out l.end l.i
