-- `run::plan` meets its contract: the refusal of the bundle or the recipe, or the figures of the plan.
use Rattle.std.proofs.lemmas.Result.{err_from_is_err_and}
use Rattle.std.proofs.Common.{arith}
use Rattle.run.specs.Plans.{laid, last-few, plan-refused, plan-told}
use Rattle.run.proofs.plan.Goals as goal

pub returns-in_err-planned : goal.returns-in_err-planned
returns-in_err-planned c =
    let r = err_from_is_err_and c.from_residual.result c.from_residual.ensures.1 in
    rw (r.1, r.2) (plan-refused c.args.bundle.now c.args.recipe.now c.in_err-planned.ensures)

pub returns : goal.returns
returns c = plan-told c.in_ok-planned.ensures _ c.rank_of.ensures.number

pub overflow_add-operand : goal.overflow_add-operand
overflow_add-operand c = omega (arith, (laid c.in_ok-planned.ensures).few)

pub offset_bounds-plan-plan : goal.offset_bounds-plan-plan
offset_bounds-plan-plan c = omega (arith, (laid c.in_ok-planned.ensures).few)

pub bounds-plan-plan : goal.bounds-plan-plan
bounds-plan-plan c = let l = laid c.in_ok-planned.ensures in omega (arith, l.few, l.named.long)

pub overflow_cast-result : goal.overflow_cast-result
overflow_cast-result c = omega (arith, (laid c.in_ok-planned.ensures).most)

pub overflow_cast-result-2 : goal.overflow_cast-result-2
overflow_cast-result-2 c = omega (arith, c.rank_of.ensures.few)

pub overflow_cast-result-3 : goal.overflow_cast-result-3
overflow_cast-result-3 c = omega (arith, last-few c.in_ok-planned.ensures)
