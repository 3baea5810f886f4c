-- `step::tests::move_fits` meets its contract: each move by its own line of the table.
use Rattle.std.proofs.Common.{ℕ, ◌*◌, ◌&&◌, List, ap, ◌∙◌, arith, length}
use Rattle.paper.specs.Recipe.{fits_in}
use Rattle.paper.specs.declared.Axis.{Axis}
use Rattle.paper.specs.Limits.{limit_bytes, pair_bytes}
use Rattle.paper.specs.Axes.{without, on_axis, axis_at}
use Rattle.paper.specs.Recipe.{covers}
use Rattle.paper.specs.Answers.{axes_of}
use Rattle.laws.specs.Sizes.{fits}
use Rattle.positions.specs.Runs.{Holds}
use Rattle.shape.specs.declared.Change.TheVariants.{Limits}
use Rattle.shape.specs.Renewed.{in-detail}
use Rattle.step.specs.declared.StepHead.{StepHead}
use Rattle.step.specs.Steps.{detail_of, pairs-there, fewer, position-there}
use Rattle.step.proofs.tests.move_fits.Goals as goal
use Rattle.step.proofs.tests.move_fits.Goals.{Start}

module _ (c : Start) where
  abbrev E : List Axis
  E = axes_of c.args.a.extent

  abbrev h : StepHead
  h = c.args.step

  abbrev bs : List ℕ
  bs = c.args.s.now

  pairs : Holds h.at (length E * pair_bytes) bs
  pairs = fewer h.at (length E * pair_bytes) (detail_of h) bs (pairs-there c.requires.detailed) c.requires.detailed.holds

  position : Holds h.at limit_bytes bs
  position = fewer h.at limit_bytes (detail_of h) bs (omega (arith, (fits h.version).scalar)) c.requires.detailed.holds

pub trim_fits-requires : goal.trim_fits-requires
trim_fits-requires c = record { small = c.requires.small; holds = pairs (goal.at.trim_fits-requires c).Start }

pub returns-in-Trim : goal.returns-in-Trim
unfolding fits_in
returns-in-Trim c =
    let s = (goal.at.returns-in-Trim c).Start in
    rw c.in-Trim.is
    (c.trim_fits.ensures ∙ ap (λ (F : List Axis). covers (E s) F)
    (in-detail Limits (E s) (bs s) (h s).at (detail_of (h s)) (pairs-there c.requires.detailed)))

pub slice_fits-requires : goal.slice_fits-requires
slice_fits-requires c = position (goal.at.slice_fits-requires c).Start

pub returns-in-Slice : goal.returns-in-Slice
unfolding fits_in
returns-in-Slice c =
    let s = (goal.at.returns-in-Slice c).Start in
    rw c.in-Slice.is
    (c.slice_fits.ensures ∙ ap (on_axis (axis_at (h s).axis (E s))) (position-there (bs s) (h s)))

pub put_fits-requires : goal.put_fits-requires
put_fits-requires c = position (goal.at.put_fits-requires c).Start

pub returns-in-Put : goal.returns-in-Put
unfolding fits_in
returns-in-Put c =
    let s = (goal.at.returns-in-Put c).Start in
    rw c.in-Put.is
    (c.put_fits.ensures ∙ ap (λ (x : ℕ). on_axis (axis_at (h s).axis (E s)) x && covers (without (h s).axis (E s))
    (axes_of c.args.b.extent)) (position-there (bs s) (h s)))

pub returns-in-Reshape : goal.returns-in-Reshape
unfolding fits_in
returns-in-Reshape c = rw c.in-Reshape.is

pub returns-in-Shift : goal.returns-in-Shift
unfolding fits_in
returns-in-Shift c = rw c.in-Shift.is

pub returns-in-Rename : goal.returns-in-Rename
unfolding fits_in
returns-in-Rename c = rw c.in-Rename.is

pub returns-in-Update : goal.returns-in-Update
unfolding fits_in
returns-in-Update c = rw c.in-Update.is c.covers_all.ensures

pub returns-in-Glue : goal.returns-in-Glue
unfolding fits_in
returns-in-Glue c = rw c.in-Glue.is
