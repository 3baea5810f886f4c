-- `cell::bytes::copy_bytes`: what its loops keep.
use Rattle.laws.specs.Put.{Copying}
use Rattle.cell.proofs.bytes.copy_bytes.Given as goal

abbrev pub invariant-loop-k : goal.invariant-loop-k
invariant-loop-k l = Copying l.s l.from l.initial.d l.at l.n l.d l.k
