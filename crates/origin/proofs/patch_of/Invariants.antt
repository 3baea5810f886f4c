-- `origin::patch_of`: what its loop keeps.
use Rattle.std.proofs.Common.{◌≡◌, take}
use Rattle.paper.specs.Answers.{axes_of, extent_of}
use Rattle.paper.specs.Axes.{put_in}
use Rattle.origin.specs.Patches.{spot}
use Rattle.origin.proofs.patch_of.Given as goal

abbrev pub invariant-loop-i : goal.invariant-loop-i
invariant-loop-i l = l.new ≡ extent_of (take l.i (put_in l.k.0 (spot l.x) (axes_of l.f)))
