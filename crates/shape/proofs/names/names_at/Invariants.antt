-- `shape::names::names_at`: what its loop keeps.
use Rattle.paper.specs.Limits.{sizes_of}
use Rattle.shape.specs.Names.{Renamed}
use Rattle.shape.proofs.names.names_at.Given as goal

abbrev pub invariant-loop-i : goal.invariant-loop-i
invariant-loop-i l = Renamed (sizes_of l.v).name l.rank l.s l.at l.i l.new
