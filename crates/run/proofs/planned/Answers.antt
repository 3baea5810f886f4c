-- `run::planned` meets its contract: the bundle refused, or the recipe planned over its arrays.
use Rattle.std.proofs.lemmas.Result.{err_from_is_err_and}
use Rattle.std.proofs.Common.{arith}
use Rattle.recipe.specs.Given.{read-good}
use Rattle.run.specs.Tests.{read-refused, both-planned}
use Rattle.run.proofs.planned.Goals as goal

pub returns-in_err-reading : goal.returns-in_err-reading
returns-in_err-reading c =
    let r = err_from_is_err_and c.from_residual.result c.from_residual.ensures.1 in
    rw (r.1, r.2) (read-refused c.args.bundle.now c.args.recipe.now c.in_err-reading.ensures.arrays)

pub plan_recipe-requires : goal.plan_recipe-requires
plan_recipe-requires c = read-good _ _ c.in_ok-reading.ensures.kept

pub returns : goal.returns
returns c =
    both-planned c.args.bundle.now c.args.recipe.now c.in_ok-reading.ensures _ c.plan_recipe.ensures
    (λ i. omega (arith, c.shared_slice_known-1.given i)) (λ i. omega (arith, c.shared_slice_known-2-1.given i))
