-- `judged::first_bad`: what its loops keep.
use Rattle.judged.specs.Looks.{Ahead}
use Rattle.judged.proofs.first_bad.Given as goal

abbrev pub invariant-loop-i : goal.invariant-loop-i
invariant-loop-i l = Ahead l.kind l.s l.at l.n l.i
