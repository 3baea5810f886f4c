-- `rows::sides::cut` meets its contract: it never counts past the axes.
use Rattle.std.proofs.Common.{arith}
use Rattle.laws.specs.Answers.{axes-few}
use Rattle.rows.proofs.sides.cut.Goals as goal

pub offset_bounds-t-last : goal.offset_bounds-t-last
offset_bounds-t-last c = omega (arith, axes-few c.args.t, c.requires.last_in_bounds)

pub bounds-t-last : goal.bounds-t-last
bounds-t-last c = omega (arith, axes-few c.args.t, c.requires.last_in_bounds)

pub offset_bounds-e-last : goal.offset_bounds-e-last
offset_bounds-e-last c = omega (arith, axes-few c.args.t, c.requires.last_in_bounds)

pub bounds-e-last : goal.bounds-e-last
bounds-e-last c = omega (arith, axes-few c.args.t, c.requires.last_in_bounds)

pub cells_after-requires : goal.cells_after-requires
cells_after-requires c = record { small = c.requires.small; before_in_bounds = c.past_single-c.ensures }

pub overflow_sub-c : goal.overflow_sub-c
overflow_sub-c c = omega (arith, c.if-c-eq0.false)

pub cells_after-requires-2 : goal.cells_after-requires-2
cells_after-requires-2 c =
    record { small = c.requires.small; before_in_bounds = omega (arith, c.past_single-c.ensures) }

pub overflow_sub-c-2 : goal.overflow_sub-c-2
overflow_sub-c-2 c = omega (arith, c.if-c-eq0.false)

pub past_single-requires : goal.past_single-requires
past_single-requires c =
    omega (arith, c.past_single-c.ensures)

pub past_single-c-requires : goal.past_single-c-requires
past_single-c-requires c = omega (arith, c.requires.last_in_bounds)

pub returns-then-c-eq0 : goal.returns-then-c-eq0
returns-then-c-eq0 c = c.past_single-c.ensures

pub returns-then-not-on_axis : goal.returns-then-not-on_axis
returns-then-not-on_axis c = c.past_single-c.ensures

pub returns-then-not-on_axis-2 : goal.returns-then-not-on_axis-2
returns-then-not-on_axis-2 c = c.past_single-c.ensures

pub overflow_mul-cells_after : goal.overflow_mul-cells_after
overflow_mul-cells_after c = omega (arith, c.cells_after.ensures.2)

pub returns-then-cells_after : goal.returns-then-cells_after
returns-then-cells_after c = c.past_single-c.ensures

pub returns : goal.returns
returns c = c.past_single.ensures
