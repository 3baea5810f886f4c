-- `shape::names::without_name`: what its loop keeps.
use Rattle.std.proofs.Common.{take}
use Rattle.shape.specs.Names.{Kept}
use Rattle.shape.proofs.names.without_name.Given as goal

abbrev pub invariant-loop-i : goal.invariant-loop-i
invariant-loop-i l = Kept l.out (take l.rank l.names) l.i l.j l.new
