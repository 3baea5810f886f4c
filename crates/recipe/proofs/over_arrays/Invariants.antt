-- `recipe::over_arrays`: what its loops keep.
use Rattle.std.proofs.Common.{◌-◌}
use Rattle.recipe.specs.Whole.{Begun}
use Rattle.recipe.proofs.over_arrays.Given as goal

abbrev pub invariant-loop-plan : goal.invariant-loop-plan
invariant-loop-plan l = Begun l.reading l.plan

abbrev pub decreases-loop-plan : goal.decreases-loop-plan
decreases-loop-plan l = l.reading.count - l.plan.arrays
