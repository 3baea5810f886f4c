-- `c_asked::refer_bytes`: what its loop keeps.
use Rattle.paper.specs.Limits.{most_axes, limit_bytes}
use Rattle.paper.specs.Numbers.{signed_at}
use Rattle.c_asked.specs.Pieces.{Filling}
use Rattle.c_asked.proofs.refer_bytes.Given as goal

abbrev pub invariant-loop-i : goal.invariant-loop-i
invariant-loop-i l = Filling (signed_at 0) limit_bytes l.at most_axes l.n l.i l.zs
