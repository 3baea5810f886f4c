-- `recipe::over_arrays` meets its contract: one array after the other.
use Rattle.std.proofs.Common.{arith}
use Rattle.recipe.specs.Whole.{begun-none, begun_more}
use Rattle.recipe.proofs.over_arrays.Goals as goal

pub loop-plan-init : goal.loop-plan-init
loop-plan-init c = begun-none c.args.reading _ c.empty_plan.ensures

pub loop-plan-preserved : goal.loop-plan-preserved
loop-plan-preserved c =
    begun_more c.args.reading c.loop-plan.plan _ c.requires c.loop-plan.invariant c.loop-plan-test.true

pub returns : goal.returns
returns c = let l = c.loop-plan in (l.invariant, omega (arith, l.invariant.turns, c.loop-plan-test.false))
