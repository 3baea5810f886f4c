-- `cell::bytes::copy_on`: what its loops keep.
use Rattle.std.proofs.Common.{◌≡◌, take}
use Rattle.laws.specs.Put.{Copying}
use Rattle.cell.proofs.bytes.copy_on.Given as goal

abbrev pub invariant-loop-k : goal.invariant-loop-k
invariant-loop-k l = Copying l.initial.d l.from l.initial.d l.at l.n l.d l.k × (take l.at l.d ≡ take l.at l.initial.d)
