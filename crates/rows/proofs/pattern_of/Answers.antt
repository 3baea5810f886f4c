-- `rows::pattern_of` meets its contract: each arm answers for its move, by where the move's cells come from.
use Rattle.std.proofs.Common.{ℕ, ◌-◌, ◌≡◌, ap, ◌∙◌, arith}
use Rattle.paper.specs.Numbers.{part, position_at}
use Rattle.paper.specs.Recipe.{result_axes}
use Rattle.paper.specs.Answers.{axes_of}
use Rattle.paper.specs.Axes.{cells}
use Rattle.laws.specs.Answers.{axes-few}
use Rattle.step.specs.Steps.{detail_of, position-there}
use Rattle.origin.specs.Origins.{moving-as}
use Rattle.origin.specs.Asks.{position-asks, limits-ask, slice-asks, update-asks, put-room, put-asks, axials}
use Rattle.origin.specs.Comes.{trim-comes, slice-layers, reshape-comes, update-comes, put-comes, glue-comes}
use Rattle.rows.specs.Moves.{in-again, over-again, once, to_the_end, layer-every, turn-every}
use Rattle.rows.proofs.pattern_of.Goals as goal
use Rattle.rows.proofs.pattern_of.Goals.{After-cells_after, Start}

-- the position of the detail, where it is read
position : (s : Start) {x : ℕ} → x ≡ position_at s.args.w.now.step.at s.args.s.now
    → x ≡ position_at 0 (part s.args.w.now.step.at (detail_of s.args.w.now.step) s.args.s.now)
position s e = e ∙ position-there s.args.s.now s.args.w.now.step

-- the cells that are left
module _ (c : After-cells_after) where
  abbrev start : Start
  start = (goal.at.After-cells_after c).Start

  left : c.cells_after.result - start.args.k ≡ cells (axes_of start.args.w.now.t) - start.args.k
  left = ap (λ (n : ℕ). n - start.args.k) c.cells_after.ensures.0

pub cells_after-requires : goal.cells_after-requires
cells_after-requires c = record { small = c.requires.moving.result; before_in_bounds = omega arith }

pub overflow_sub-left : goal.overflow_sub-left
overflow_sub-left c = omega (arith, c.cells_after.ensures.0, (start c).requires.k_bound)

pub lines_of-requires : goal.lines_of-requires
unfolding result_axes
lines_of-requires c =
    let s = start (goal.at.lines_of-requires c).After-cells_after in
    let M = moving-as c.in-Trim.is s.requires.moving in
    limits-ask M s.requires.k_bound M.axes

pub returns-in-Trim : goal.returns-in-Trim
returns-in-Trim c =
    let s = start (goal.at.returns-in-Trim c).After-cells_after in
    let e = c.in-Trim.is in
    rw (e, c.kept_lines.ensures) (in-again (λ j h. trim-comes (moving-as e s.requires.moving) h) c.lines_of.ensures)

pub layer_of-requires : goal.layer_of-requires
layer_of-requires c =
    let s = start (goal.at.layer_of-requires c).After-cells_after in
    (slice-asks (moving-as c.in-Slice.is s.requires.moving) s.requires.k_bound).axial

pub block_of-requires : goal.block_of-requires
block_of-requires c =
    let s = start (goal.at.block_of-requires c).After-cells_after in
    (slice-asks (moving-as c.in-Slice.is s.requires.moving) s.requires.k_bound).axial

pub lines_left-requires : goal.lines_left-requires
lines_left-requires c = c.layer_of.ensures.1

pub returns-in-Slice : goal.returns-in-Slice
returns-in-Slice c =
    let p = (goal.at.returns-in-Slice c).After-cells_after in
    let l = c.layer_of.ensures in
    let s = start p in
    let e = c.in-Slice.is in
    rw (e, c.lines_left.ensures, left p, l.0, c.block_of.ensures.0)
    (to_the_end s.requires.k_bound _ _ _ (rw (← l.0) l.1)
    (layer-every _ _ _ (rw (← l.0) l.1) (λ j h. slice-layers (moving-as e s.requires.moving) h)))

pub lines_of-requires-in-Reshape : goal.lines_of-requires-in-Reshape
unfolding result_axes
lines_of-requires-in-Reshape c =
    let s = start (goal.at.lines_of-requires-in-Reshape c).After-cells_after in
    let M = moving-as c.in-Reshape.is s.requires.moving in
    limits-ask M s.requires.k_bound M.axes

pub returns-in-Reshape : goal.returns-in-Reshape
returns-in-Reshape c =
    let s = start (goal.at.returns-in-Reshape c).After-cells_after in
    let e = c.in-Reshape.is in
    rw (e, c.kept_lines-in-Reshape.ensures) (in-again (λ j h. reshape-comes (moving-as e s.requires.moving) h) c.lines_of-in-Reshape.ensures)

-- shift and rename: all that is left is one line
pub returns-in-Shift : goal.returns-in-Shift
returns-in-Shift c =
    let s = (goal.at.returns-in-Shift c).After-cells_after in
    rw (c.one_line.ensures, left s) (once (start s).requires.k_bound)

pub returns-in-Rename : goal.returns-in-Rename
returns-in-Rename c =
    let s = (goal.at.returns-in-Rename c).After-cells_after in
    rw (c.one_line-in-Rename.ensures, left s) (once (start s).requires.k_bound)

pub lines_of-requires-in-Update : goal.lines_of-requires-in-Update
lines_of-requires-in-Update c =
    let s = start (goal.at.lines_of-requires-in-Update c).After-cells_after in
    update-asks (moving-as c.in-Update.is s.requires.moving) s.requires.k_bound

pub returns-in-Update : goal.returns-in-Update
returns-in-Update c =
    let s = start (goal.at.returns-in-Update c).After-cells_after in
    let e = c.in-Update.is in
    rw (e, c.laid_lines.ensures) (over-again (λ j h. update-comes (moving-as e s.requires.moving) h) c.lines_of-in-Update.ensures)

pub position_at-requires : goal.position_at-requires
position_at-requires c = let s = start (goal.at.position_at-requires c).After-cells_after in position-asks s.args.w.now.step s.requires.holds

pub patch_of-requires : goal.patch_of-requires
patch_of-requires c =
    let s = start (goal.at.patch_of-requires c).After-cells_after in
    put-room (moving-as c.in-Put.is s.requires.moving) (axes-few s.args.w.now.a)

pub lines_of-requires-in-Put : goal.lines_of-requires-in-Put
lines_of-requires-in-Put c =
    let s = start (goal.at.lines_of-requires-in-Put c).After-cells_after in
    rw (c.patch_of.ensures, position s c.position_at.ensures)
    (put-asks (moving-as c.in-Put.is s.requires.moving) s.requires.k_bound (axes-few s.args.w.now.a))

pub returns-in-Put : goal.returns-in-Put
returns-in-Put c =
    let s = start (goal.at.returns-in-Put c).After-cells_after in
    let e = c.in-Put.is in
    let r = rw (c.patch_of.ensures, position s c.position_at.ensures) at c.lines_of-in-Put.ensures in
    rw (e, c.laid_lines-in-Put.ensures) (over-again (λ j h. put-comes (moving-as e s.requires.moving) h) r)

pub block_of-m-requires : goal.block_of-m-requires
block_of-m-requires c = (axials (moving-as c.in-Glue.is (start (goal.at.block_of-m-requires c).After-cells_after).requires.moving)).0

pub block_of-n-requires : goal.block_of-n-requires
block_of-n-requires c = (axials (moving-as c.in-Glue.is (start (goal.at.block_of-n-requires c).After-cells_after).requires.moving)).1

pub overflow_add-m : goal.overflow_add-m
overflow_add-m c = omega (arith, c.block_of-m.ensures.2, c.block_of-n.ensures.2)

pub lines_left-requires-in-Glue : goal.lines_left-requires-in-Glue
lines_left-requires-in-Glue c = omega (arith, c.block_of-m.ensures.1)

pub returns-in-Glue : goal.returns-in-Glue
returns-in-Glue c =
    let p = (goal.at.returns-in-Glue c).After-cells_after in
    let m = c.block_of-m.ensures in
    let s = start p in
    let e = c.in-Glue.is in
    let one = rw m.0 at m.1 in
    rw (e, c.lines_left-in-Glue.ensures, left p, m.0, c.block_of-n.ensures.0)
    (to_the_end s.requires.k_bound _ _ _ (omega (arith, one)) (turn-every _ _ one (λ j h. glue-comes (moving-as e s.requires.moving) h)))
