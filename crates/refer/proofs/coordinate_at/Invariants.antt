-- `refer::coordinate_at`: what its loop keeps.
use Rattle.std.proofs.Common.{length, take, map, ◌≡◌}
use Rattle.paper.specs.Limits.{most_axes}
use Rattle.paper.specs.Numbers.{distance}
use Rattle.refer.proofs.coordinate_at.Given as goal

abbrev pub invariant-loop-i : goal.invariant-loop-i
invariant-loop-i l = (length l.at ≡ most_axes) × (take l.i l.at ≡ take l.i (map distance l.zs))
