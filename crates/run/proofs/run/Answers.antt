-- `run::run` meets its contract: an outcome, a law.
use Rattle.std.proofs.lemmas.Result.{err_from_is_err_and}
use Rattle.std.proofs.Common.{arith}
use Rattle.run.specs.Calls.{run-refused, run_small, may-run, run-stopped, run-done}
use Rattle.run.proofs.run.Goals as goal

pub returns-in_err-planned : goal.returns-in_err-planned
returns-in_err-planned c =
    let r = err_from_is_err_and c.from_residual.result c.from_residual.ensures.1 in
    rw (r.1, r.2) (run-refused c.args.bundle.now c.args.recipe.now c.in_err-planned.ensures c.args.work.now)

pub overflow_mul-plan : goal.overflow_mul-plan
overflow_mul-plan c = omega (arith, c.in_ok-planned.ensures.setting.laid.most)

pub returns-then-work-plan : goal.returns-then-work-plan
returns-then-work-plan c = rw c.refuse.ensures (run_small c.in_ok-planned.ensures c.args.work.now c.if-work-plan.true)

pub settle-requires : goal.settle-requires
settle-requires c = may-run c.in_ok-planned.ensures c.args.work.now c.if-work-plan.false

pub returns-in_err-settle : goal.returns-in_err-settle
returns-in_err-settle c =
    let r = err_from_is_err_and c.from_residual-in_err-settle.result c.from_residual-in_err-settle.ensures.1 in
    rw (r.1, r.2) (run-stopped c.in_ok-planned.ensures c.args.work.now c.if-work-plan.false c.in_err-settle.ensures)

pub overflow_cast-result : goal.overflow_cast-result
overflow_cast-result c = omega (arith, c.in_ok-planned.ensures.setting.laid.most)

pub returns : goal.returns
returns c = run-done c.in_ok-planned.ensures c.args.work.now c.if-work-plan.false c.in_ok-settle.ensures
