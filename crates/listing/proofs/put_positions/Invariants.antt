-- `listing::put_positions`: what its loops keep.
use Rattle.std.proofs.Common.{take}
use Rattle.listing.specs.Rows.{Putting}
use Rattle.listing.proofs.put_positions.Given as goal

abbrev pub invariant-loop-i : goal.invariant-loop-i
invariant-loop-i l = Putting (take l.n l.p.at) l.initial.d l.at l.d l.i
