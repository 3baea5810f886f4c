-- `rows::run_length` meets its contract: each arm answers for its move, by where the move's cells come from.
use Rattle.std.proofs.Common.{ℕ, ◌≡◌, ◌∙◌, mod-lt, arith}
use Rattle.paper.specs.Numbers.{part, position_at}
use Rattle.paper.specs.Recipe.{result_axes}
use Rattle.laws.specs.Answers.{axes-few}
use Rattle.step.specs.Steps.{detail_of, position-there}
use Rattle.origin.specs.Origins.{moving-as}
use Rattle.origin.specs.Asks.{position-asks, limits-ask, slice-asks, update-asks, put-room, put-asks, axials}
use Rattle.origin.specs.Comes.{trim-comes, slice-layers, reshape-comes, shift-comes, rename-comes, update-comes, put-comes, glue-comes}
use Rattle.rows.specs.Moves.{in-along, over-along, own-along, layer-along, turn_along}
use Rattle.rows.proofs.run_length.Goals as goal
use Rattle.rows.proofs.run_length.Goals.{Start}

-- the position of the detail, where it is read
position : (s : Start) {x : ℕ} → x ≡ position_at s.args.w.now.step.at s.args.s.now
    → x ≡ position_at 0 (part s.args.w.now.step.at (detail_of s.args.w.now.step) s.args.s.now)
position s e = e ∙ position-there s.args.s.now s.args.w.now.step

pub side_by_side-requires : goal.side_by_side-requires
unfolding result_axes
side_by_side-requires c =
    let M = moving-as c.in-Trim.is c.requires.moving in
    limits-ask M c.requires.k_bound M.axes

pub returns-in-Trim : goal.returns-in-Trim
returns-in-Trim c =
    let e = c.in-Trim.is in
    let r = c.side_by_side.ensures in
    (r.some, rw e (in-along (λ j h. trim-comes (moving-as e c.requires.moving) h) r))

pub layer_of-layer-requires : goal.layer_of-layer-requires
layer_of-layer-requires c =
    (slice-asks (moving-as c.in-Slice.is c.requires.moving) c.requires.k_bound).axial

pub overflow_sub-result : goal.overflow_sub-result
overflow_sub-result c = omega (arith, mod-lt c.args.k c.layer_of-layer.ensures.1)

pub returns-in-Slice : goal.returns-in-Slice
returns-in-Slice c =
    let e = c.in-Slice.is in
    let l = c.layer_of-layer.ensures in (
      omega (arith, mod-lt c.args.k l.1),
      rw (e, l.0) (layer-along _ _ _ (rw (← l.0) l.1) (λ j h. slice-layers (moving-as e c.requires.moving) h)),
    )

pub side_by_side-requires-in-Reshape : goal.side_by_side-requires-in-Reshape
unfolding result_axes
side_by_side-requires-in-Reshape c =
    let M = moving-as c.in-Reshape.is c.requires.moving in
    limits-ask M c.requires.k_bound M.axes

pub returns-in-Reshape : goal.returns-in-Reshape
returns-in-Reshape c =
    let e = c.in-Reshape.is in
    let r = c.side_by_side-in-Reshape.ensures in
    (r.some, rw e (in-along (λ j h. reshape-comes (moving-as e c.requires.moving) h) r))

pub cells_after-requires : goal.cells_after-requires
cells_after-requires c = record { small = c.requires.moving.result; before_in_bounds = omega arith }

pub returns-in-Shift : goal.returns-in-Shift
returns-in-Shift c =
    let e = c.in-Shift.is in
    (c.cells_after.ensures.1, rw e (own-along _ (λ j h. shift-comes (moving-as e c.requires.moving) h)))

pub cells_after-requires-in-Rename : goal.cells_after-requires-in-Rename
cells_after-requires-in-Rename c = record { small = c.requires.moving.result; before_in_bounds = omega arith }

pub returns-in-Rename : goal.returns-in-Rename
returns-in-Rename c =
    let e = c.in-Rename.is in
    (c.cells_after-in-Rename.ensures.1, rw e (own-along _ (λ j h. rename-comes (moving-as e c.requires.moving) h)))

pub side_around-requires : goal.side_around-requires
side_around-requires c =
    update-asks (moving-as c.in-Update.is c.requires.moving) c.requires.k_bound

pub returns-in-Update : goal.returns-in-Update
returns-in-Update c =
    let e = c.in-Update.is in
    let r = c.side_around.ensures in
    (r.some, rw e (over-along (λ j h. update-comes (moving-as e c.requires.moving) h) r))

pub position_at-requires : goal.position_at-requires
position_at-requires c = position-asks c.args.w.now.step c.requires.holds

pub patch_of-requires : goal.patch_of-requires
patch_of-requires c =
    put-room (moving-as c.in-Put.is c.requires.moving) (axes-few c.args.w.now.a)

pub side_around-requires-in-Put : goal.side_around-requires-in-Put
side_around-requires-in-Put c =
    rw (c.patch_of.ensures, position (goal.at.side_around-requires-in-Put c).Start c.position_at.ensures)
    (put-asks (moving-as c.in-Put.is c.requires.moving) c.requires.k_bound (axes-few c.args.w.now.a))

pub returns-in-Put : goal.returns-in-Put
returns-in-Put c =
    let e = c.in-Put.is in
    let r = rw (c.patch_of.ensures, position (goal.at.returns-in-Put c).Start c.position_at.ensures) at c.side_around-in-Put.ensures in
    (r.some, rw e (over-along (λ j h. put-comes (moving-as e c.requires.moving) h) r))

pub block_of-requires : goal.block_of-requires
block_of-requires c = (axials (moving-as c.in-Glue.is c.requires.moving)).0

pub block_of-requires-in-Glue : goal.block_of-requires-in-Glue
block_of-requires-in-Glue c = (axials (moving-as c.in-Glue.is c.requires.moving)).1

pub turn_left-requires : goal.turn_left-requires
turn_left-requires c = (c.block_of.ensures.1, c.block_of.ensures.2, c.block_of-in-Glue.ensures.2)

pub returns-in-Glue : goal.returns-in-Glue
returns-in-Glue c =
    let e = c.in-Glue.is in
    let a = c.block_of.ensures in
    let b = c.block_of-in-Glue.ensures in
    let r = c.turn_left.ensures in
    (r.1, rw (e, r.0, a.0, b.0) (turn_along _ _ (rw (← a.0) a.1) (λ j h. glue-comes (moving-as e c.requires.moving) h)))
