-- `listing::list`: what its loops keep.
use Rattle.std.proofs.Common.{◌-◌}
use Rattle.paper.specs.Answers.{axes_of}
use Rattle.listing.specs.Lines.{InLine}
use Rattle.listing.specs.Lists.{Listing}
use Rattle.listing.proofs.list.Given as goal

abbrev pub invariant-loop-k : goal.invariant-loop-k
invariant-loop-k l =
    Listing l.work l.at l.n (axes_of l.e) l.initial.k l.room l.initial.rows l.rows l.k l.written × InLine (axes_of l.e) l.rank l.top l.p.at l.end l.k

abbrev pub decreases-loop-k : goal.decreases-loop-k
decreases-loop-k l = l.n - l.k
