-- `bundle::read`: what its loop keeps.
use Rattle.paper.specs.Limits.{sizes_of}
use Rattle.bundle.specs.Whole.{Loop}
use Rattle.bundle.proofs.read.Given as goal

abbrev pub invariant-loop-i : goal.invariant-loop-i
invariant-loop-i l = Loop (sizes_of l.version) l.s l.count l.i l.next l.heads
