-- `pack::put::put_axes`: what its loop keeps.
use Rattle.pack.specs.Put.{Writing}
use Rattle.pack.proofs.put.put_axes.Given as goal

abbrev pub invariant-loop-i : goal.invariant-loop-i
invariant-loop-i l = Writing l.z l.names l.e l.m l.initial.d l.at l.d l.i
