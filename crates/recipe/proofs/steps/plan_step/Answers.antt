-- `recipe::steps::plan_step` meets its contract.
use Rattle.std.proofs.Common.{◌+◌, ◌^◌, ◌≤◌, ◌<◌, length, arith}
use Rattle.paper.specs.Limits.{head_bytes, scalar_at}
use Rattle.laws.specs.Sizes.{fits}
use Rattle.recipe.specs.Stepped.{step-unknown, step-known}
use Rattle.recipe.proofs.steps.plan_step.Goals as goal
use Rattle.recipe.proofs.steps.plan_step.Goals.{After-shared_slice_known-1}

-- the bytes before the detail, and some of it, lie in the recipe
room : (c : After-shared_slice_known-1) → (c.args.base + head_bytes + scalar_at ≤ length c.args.s.now)
    × (length c.args.s.now < 2 ^ 63)
room c = let f = fits c.args.v in (
  omega (arith, c.requires.v_in_bounds, f.step, f.scalar),
  omega (arith, c.shared_slice_known-1.given 0),
)

pub judge-requires : goal.judge-requires
judge-requires c =
    let f = fits c.args.v in
    record { fitting = c.requires.fitting; fitting_2 = c.requires.fitting_2; holds = record { room = omega (arith, c.requires.v_in_bounds, f.step) } }

pub returns-in_default : goal.returns-in_default
returns-in_default c =
    let p = c.args in
    rw c.refuse.ensures (step-unknown p.s.now p.base p.v p.a p.b p.at p.k.0 c.in_default.ensures)

pub returns : goal.returns
returns c =
    let p = c.args in
    step-known p.s.now p.base p.v p.a p.b p.at p.k.0 c.in-Some.operation c.in-Some.ensures c.judge.result c.judge.ensures

pub bounds-s-base : goal.bounds-s-base
bounds-s-base c = omega (arith, room (goal.at.bounds-s-base c).After-shared_slice_known-1)

pub overflow_add-base : goal.overflow_add-base
overflow_add-base c = omega (arith, room (goal.at.overflow_add-base c).After-shared_slice_known-1)

pub bounds-s-base-2 : goal.bounds-s-base-2
bounds-s-base-2 c = omega (arith, room (goal.at.bounds-s-base-2 c).After-shared_slice_known-1)

pub overflow_add-step : goal.overflow_add-step
overflow_add-step c = omega (arith, room (goal.at.overflow_add-step c).After-shared_slice_known-1)

pub bounds-s-base-3 : goal.bounds-s-base-3
bounds-s-base-3 c = omega (arith, room (goal.at.bounds-s-base-3 c).After-shared_slice_known-1)

pub bounds-s-base-4 : goal.bounds-s-base-4
bounds-s-base-4 c = omega (arith, room (goal.at.bounds-s-base-4 c).After-shared_slice_known-1)

pub bounds-s-base-5 : goal.bounds-s-base-5
bounds-s-base-5 c = omega (arith, room (goal.at.bounds-s-base-5 c).After-shared_slice_known-1)
