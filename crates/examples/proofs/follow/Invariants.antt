-- `examples::follow` ends: the script left grows shorter.
use Rattle.std.proofs.Common.{◌-◌, length}
use Rattle.examples.proofs.follow.Given as goal

abbrev pub decreases-loop-at : goal.decreases-loop-at
decreases-loop-at g l = length l.script - l.at
