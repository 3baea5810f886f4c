-- `recipe::plan_recipe`: what its loops keep.
use Rattle.std.proofs.Common.{◌-◌, ◌≡◌}
use Rattle.recipe.specs.Whole.{arrays_of, Loop}
use Rattle.recipe.proofs.plan_recipe.Given as goal

abbrev pub invariant-loop-plan : goal.invariant-loop-plan
invariant-loop-plan l = Loop l.v l.s l.n l.plan × (arrays_of l.plan ≡ arrays_of l.initial.plan)

abbrev pub decreases-loop-plan : goal.decreases-loop-plan
decreases-loop-plan l = l.n - l.plan.count
