-- `decimal::put_row`: what its loop keeps.
use Rattle.std.proofs.Common.{◌+◌}
use Rattle.paper.specs.Limits.{limit_bytes}
use Rattle.decimal.specs.Rows.{Lining}
use Rattle.decimal.proofs.put_row.Given as goal

abbrev pub invariant-loop-i : goal.invariant-loop-i
invariant-loop-i l = Lining l.rows (l.from + limit_bytes) l.rank l.initial.out l.initial.end l.out l.end l.i
