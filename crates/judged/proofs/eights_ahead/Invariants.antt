-- `judged::eights_ahead`: what its loops keep.
use Rattle.std.proofs.Common.{◌*◌}
use Rattle.judged.specs.Looks.{Ahead}
use Rattle.judged.proofs.eights_ahead.Given as goal

abbrev pub invariant-loop-t : goal.invariant-loop-t
invariant-loop-t l = Ahead l.kind l.s l.at l.n (l.t * 8)
