-- `step::tests::moved_extent` meets its contract: each move by its own line of the table.
use Rattle.std.proofs.Common.{ℕ, ◌*◌, ◌≡◌, ◌∙◌, subst, List, true, length, drop}
use Rattle.paper.specs.declared.Axis.{Axis}
use Rattle.paper.specs.Limits.{limit_bytes, pair_bytes}
use Rattle.paper.specs.Numbers.{part}
use Rattle.paper.specs.declared.Move.{Move}
use Rattle.paper.specs.declared.Operation.TheVariants.{Moves}
use Rattle.paper.specs.Answers.{axes_of}
use Rattle.paper.specs.Recipe.{uses, axis_in, with_limits, shifted, result_axes}
use Rattle.positions.specs.Runs.{Holds}
use Rattle.shape.specs.declared.Change.TheVariants.{Limits, Moved}
use Rattle.shape.specs.Renewed.{in-detail}
use Rattle.step.specs.declared.StepHead.{StepHead}
use Rattle.step.specs.Steps.{detail_of, Detailed, pairs-there, amounts-there, fewer, gluing-in}
use Rattle.step.proofs.tests.moved_extent.Goals as goal
use Rattle.step.proofs.tests.moved_extent.Goals.{Start}

pub glued_along-requires : goal.glued_along-requires
glued_along-requires c =
    gluing-in c.args.step.axis (axes_of c.args.e) (axes_of c.args.f)
    (subst (λ (m : Move). axis_in (uses (Moves m)) (length (axes_of c.args.e)) c.args.step.axis ≡ true)
    c.in-Glue.is c.requires.axis_value)
    c.requires.small c.requires.small_2

module _ (c : Start) where
  abbrev E : List Axis
  E = axes_of c.args.e

  abbrev h : StepHead
  h = c.args.step

  abbrev bs : List ℕ
  bs = c.args.s.now

  detailed : Detailed bs h E
  detailed = c.requires.detailed

  pairs : Holds h.at (length E * pair_bytes) bs
  pairs = fewer h.at (length E * pair_bytes) (detail_of h) bs (pairs-there detailed) detailed.holds

  amounts : Holds h.at (length E * limit_bytes) bs
  amounts = fewer h.at (length E * limit_bytes) (detail_of h) bs (amounts-there detailed) detailed.holds

  in_pairs : with_limits E (drop h.at bs) ≡ with_limits E (part h.at (detail_of h) bs)
  in_pairs = in-detail Limits E bs h.at (detail_of h) (pairs-there detailed)

  in-amounts : shifted E (drop h.at bs) ≡ shifted E (part h.at (detail_of h) bs)
  in-amounts = in-detail Moved E bs h.at (detail_of h) (amounts-there detailed)

pub with_limits-requires : goal.with_limits-requires
unfolding result_axes
with_limits-requires c = record { small = c.requires.small; holds = pairs (goal.at.with_limits-requires c).Start }

pub returns-in-Trim : goal.returns-in-Trim
unfolding result_axes
returns-in-Trim c = rw c.in-Trim.is (c.with_limits.ensures ∙ in_pairs (goal.at.returns-in-Trim c).Start)

pub returns-in-Slice : goal.returns-in-Slice
unfolding result_axes
returns-in-Slice c = rw c.in-Slice.is c.removed.ensures

pub with_limits-requires-in-Reshape : goal.with_limits-requires-in-Reshape
unfolding result_axes
with_limits-requires-in-Reshape c = record { small = c.requires.small; holds = pairs (goal.at.with_limits-requires-in-Reshape c).Start }

pub returns-in-Reshape : goal.returns-in-Reshape
unfolding result_axes
returns-in-Reshape c = rw c.in-Reshape.is (c.with_limits-in-Reshape.ensures ∙ in_pairs (goal.at.returns-in-Reshape c).Start)

pub shifted_by-requires : goal.shifted_by-requires
unfolding result_axes
shifted_by-requires c = record { small = c.requires.small; holds = amounts (goal.at.shifted_by-requires c).Start }

pub returns-in-Shift : goal.returns-in-Shift
unfolding result_axes
returns-in-Shift c = rw c.in-Shift.is (c.shifted_by.ensures ∙ in-amounts (goal.at.returns-in-Shift c).Start)

pub returns-in-Rename : goal.returns-in-Rename
unfolding result_axes
returns-in-Rename c = rw c.in-Rename.is

pub returns-in-Update : goal.returns-in-Update
unfolding result_axes
returns-in-Update c = rw c.in-Update.is

pub returns-in-Put : goal.returns-in-Put
unfolding result_axes
returns-in-Put c = rw c.in-Put.is

pub returns-in-Glue : goal.returns-in-Glue
unfolding result_axes
returns-in-Glue c = rw c.in-Glue.is c.glued_along.ensures
