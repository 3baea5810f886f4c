-- `origin::origin_of` meets its contract: each arm answers its own line of `Comes`.
use Rattle.std.proofs.Common.{ℕ, ◌≡◌, sym, ◌∙◌}
use Rattle.paper.specs.Numbers.{part, position_at}
use Rattle.paper.specs.Recipe.{result_axes}
use Rattle.laws.specs.Answers.{axes-few}
use Rattle.step.specs.Steps.{detail_of, position-there}
use Rattle.origin.specs.Origins.{moving-as}
use Rattle.origin.specs.Asks.{position-asks, limits-ask, slice-asks, update-asks, put-room, put-asks, axials}
use Rattle.origin.specs.Comes.{trim-comes, slice-comes, reshape-comes, shift-comes, rename-comes, update-comes, put-comes, glue-comes}
use Rattle.origin.proofs.origin_of.Goals as goal
use Rattle.origin.proofs.origin_of.Goals.{Start}

-- the position of the detail, where it is read
position : (s : Start) {x : ℕ} → x ≡ position_at s.args.w.now.step.at s.args.s.now
    → x ≡ position_at 0 (part s.args.w.now.step.at (detail_of s.args.w.now.step) s.args.s.now)
position s e = e ∙ position-there s.args.s.now s.args.w.now.step

pub in_first-requires : goal.in_first-requires
unfolding result_axes
in_first-requires c =
    let M = moving-as c.in-Trim.is c.requires.moving in
    limits-ask M c.requires.k_bound M.axes

pub returns-in-Trim : goal.returns-in-Trim
returns-in-Trim c =
    let e = c.in-Trim.is in
    rw e (c.in_first.ensures ∙ sym (trim-comes (moving-as e c.requires.moving) c.requires.k_bound))

pub position_at-requires : goal.position_at-requires
position_at-requires c = position-asks c.args.w.now.step c.requires.holds

pub sliced-requires : goal.sliced-requires
sliced-requires c =
    rw (position (goal.at.sliced-requires c).Start c.position_at.ensures) (slice-asks (moving-as c.in-Slice.is c.requires.moving) c.requires.k_bound)

pub returns-in-Slice : goal.returns-in-Slice
returns-in-Slice c =
    let e = c.in-Slice.is in
    rw e (c.sliced.ensures
    ∙ rw (position (goal.at.returns-in-Slice c).Start c.position_at.ensures) (sym (slice-comes (moving-as e c.requires.moving) c.requires.k_bound)))

pub in_first-requires-in-Reshape : goal.in_first-requires-in-Reshape
unfolding result_axes
in_first-requires-in-Reshape c =
    let M = moving-as c.in-Reshape.is c.requires.moving in
    limits-ask M c.requires.k_bound M.axes

pub returns-in-Reshape : goal.returns-in-Reshape
returns-in-Reshape c =
    let e = c.in-Reshape.is in
    rw e (c.in_first-in-Reshape.ensures ∙ sym (reshape-comes (moving-as e c.requires.moving) c.requires.k_bound))

pub returns-in-Shift : goal.returns-in-Shift
returns-in-Shift c =
    let e = c.in-Shift.is in
    rw e (sym (shift-comes (moving-as e c.requires.moving) c.requires.k_bound))

pub returns-in-Rename : goal.returns-in-Rename
returns-in-Rename c =
    let e = c.in-Rename.is in
    rw e (sym (rename-comes (moving-as e c.requires.moving) c.requires.k_bound))

pub laid_over-requires : goal.laid_over-requires
laid_over-requires c =
    update-asks (moving-as c.in-Update.is c.requires.moving) c.requires.k_bound

pub returns-in-Update : goal.returns-in-Update
returns-in-Update c =
    let e = c.in-Update.is in
    rw e (c.laid_over.ensures ∙ sym (update-comes (moving-as e c.requires.moving) c.requires.k_bound))

pub position_at-requires-in-Put : goal.position_at-requires-in-Put
position_at-requires-in-Put c = position-asks c.args.w.now.step c.requires.holds

pub patch_of-requires : goal.patch_of-requires
patch_of-requires c =
    put-room (moving-as c.in-Put.is c.requires.moving) (axes-few c.args.w.now.a)

pub laid_over-requires-in-Put : goal.laid_over-requires-in-Put
laid_over-requires-in-Put c =
    rw (c.patch_of.ensures, position (goal.at.laid_over-requires-in-Put c).Start c.position_at-in-Put.ensures)
    (put-asks (moving-as c.in-Put.is c.requires.moving) c.requires.k_bound (axes-few c.args.w.now.a))

pub returns-in-Put : goal.returns-in-Put
returns-in-Put c =
    let e = c.in-Put.is in
    rw e (c.laid_over-in-Put.ensures
    ∙ rw (c.patch_of.ensures, position (goal.at.returns-in-Put c).Start c.position_at-in-Put.ensures)
    (sym (put-comes (moving-as e c.requires.moving) c.requires.k_bound)))

pub block_of-requires : goal.block_of-requires
block_of-requires c = (axials (moving-as c.in-Glue.is c.requires.moving)).0

pub block_of-requires-in-Glue : goal.block_of-requires-in-Glue
block_of-requires-in-Glue c = (axials (moving-as c.in-Glue.is c.requires.moving)).1

pub returns-in-Glue : goal.returns-in-Glue
returns-in-Glue c =
    let e = c.in-Glue.is in
    rw e (c.in_turns.ensures
    ∙ rw (c.block_of.ensures.0, c.block_of-in-Glue.ensures.0)
    (sym (glue-comes (moving-as e c.requires.moving) c.requires.k_bound)))
