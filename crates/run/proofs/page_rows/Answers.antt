-- `run::page_rows` meets its contract: an outcome, a law.
use Rattle.std.proofs.lemmas.Result.{err_from_is_err_and}
use Rattle.std.proofs.Common.{ℕ, List, arith}
use Rattle.recipe.specs.Whole.{Laid}
use Rattle.run.specs.Tests.{Accepted, last-laid}
use Rattle.run.specs.Calls.{page-refused, page-unfit, page-runs, page-stopped, listable, page-listed, row-axes}
use Rattle.run.proofs.page_rows.Goals as goal
use Rattle.run.proofs.page_rows.Goals.{In_ok-planned}

-- the bundle and the recipe are accepted
module _ (c : In_ok-planned) where
  abbrev W : List ℕ
  W = c.args.work.now

  abbrev o : ℕ
  o = c.args.start.0

  abbrev L : List ℕ
  L = c.args.rows.now

  abbrev is : Accepted c.args.bundle.now c.args.recipe.now c.planned.new.plan
  is = c.in_ok-planned.ensures

  laid : Laid c.args.recipe.now c.planned.new.plan
  laid = c.in_ok-planned.ensures.setting.laid

pub returns-in_err-planned : goal.returns-in_err-planned
returns-in_err-planned c =
    let r = err_from_is_err_and c.from_residual.result c.from_residual.ensures.1 in
    rw (r.1, r.2) (page-refused c.args.bundle.now c.args.recipe.now c.in_err-planned.ensures c.args.work.now c.args.start.0 c.args.rows.now, tt)

pub overflow_add-last : goal.overflow_add-last
overflow_add-last c = omega (arith, (laid c).few)

pub offset_bounds-plan-plan : goal.offset_bounds-plan-plan
offset_bounds-plan-plan c = omega (arith, (laid c).few)

pub bounds-plan-plan : goal.bounds-plan-plan
bounds-plan-plan c = omega (arith, (laid c).few, (laid c).named.long)

pub overflow_mul-bytes : goal.overflow_mul-bytes
overflow_mul-bytes c = omega (arith, (laid (goal.at.overflow_mul-bytes c).In_ok-planned).most)

pub page_tests-requires : goal.page_tests-requires
page_tests-requires c =
    let s = (goal.at.page_tests-requires c).In_ok-planned in
    let w = last-laid (laid s) (is s).some in
    record { steps_le_most_steps = (laid s).few; cells_le_most_cells = omega (arith, w.small.few, w.count); cells_value = w.count }

pub returns-in_err-page_tests : goal.returns-in_err-page_tests
returns-in_err-page_tests c =
    let s = (goal.at.returns-in_err-page_tests c).In_ok-planned in
    let r = err_from_is_err_and c.from_residual-in_err-page_tests.result c.from_residual-in_err-page_tests.ensures.1 in
    rw (r.1, r.2) (page-unfit (is s) (W s) (o s) (L s) c.in_err-page_tests.ensures, tt)

pub settle-requires : goal.settle-requires
settle-requires c =
    let s = (goal.at.settle-requires c).In_ok-planned in
    page-runs (is s) (W s) (o s) (L s) c.in_ok-page_tests.ensures

pub returns-in_err-settle : goal.returns-in_err-settle
returns-in_err-settle c =
    let s = (goal.at.returns-in_err-settle c).In_ok-planned in
    let r = err_from_is_err_and c.from_residual-in_err-settle.result c.from_residual-in_err-settle.ensures.1 in
    rw (r.1, r.2) (page-stopped (is s) (W s) (o s) (L s) c.in_ok-page_tests.ensures c.in_err-settle.ensures, tt)

pub list-listed-requires : goal.list-listed-requires
list-listed-requires c =
    let s = (goal.at.list-listed-requires c).In_ok-planned in
    listable (is s) (W s) (o s) (L s) c.in_ok-page_tests.ensures c.in_ok-settle.ensures

pub returns : goal.returns
returns c =
    let s = (goal.at.returns c).In_ok-planned in (
      page-listed (is s) (W s) (o s) (L s) c.in_ok-page_tests.ensures c.in_ok-settle.ensures _ _ c.list-listed.ensures,
      row-axes (is s) (W s) (o s) (L s) _ c.rank_of-axes.ensures.number,
    )
