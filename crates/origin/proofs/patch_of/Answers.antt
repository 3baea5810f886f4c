-- `origin::patch_of` meets its contract: after i turns the first i axes are there.
use Rattle.std.proofs.Common.{ℕ, ◌+◌, ◌-◌, ◌≤◌, ◌<◌, ◌≡◌, ap, ◌∙◌, List, arith, length, get_or, take_all}
use Rattle.paper.specs.declared.Axis.{Axis}
use Rattle.paper.specs.Limits.{most_axes}
use Rattle.paper.specs.Answers.{axes_of, extent_of}
use Rattle.paper.specs.Axes.{no_axis, put_in}
use Rattle.laws.specs.Answers.{extent-axes}
use Rattle.shape.specs.Built.{room_for, first_more}
use Rattle.origin.specs.Patches.{spot, length-in}
use Rattle.origin.proofs.patch_of.Goals as goal
use Rattle.origin.proofs.patch_of.Goals.{In-loop-i, Start}

-- a turn
module _ (c : In-loop-i) where
  abbrev start : Start
  start = c.before.before.before.before

  abbrev W : List Axis
  W = put_in start.args.k.0 (spot start.args.x) (axes_of start.args.f)

  long : length W ≡ length (axes_of start.args.f) + 1
  long = length-in start.requires (spot start.args.x)

  here : c.loop-i.i < length W
  here = omega (arith, long, c.rank_of-n.ensures.number, c.loop-i-test.true)

  few : length W ≤ most_axes
  few = omega (arith, long, start.requires.room)

pub loop-i-init : goal.loop-i-init
loop-i-init c = c.empty-new.ensures

pub axis_in-requires : goal.axis_in-requires
axis_in-requires c = record { insertable = (start c).requires; le_j = omega arith }

pub with_axis-new-requires : goal.with_axis-new-requires
with_axis-new-requires c =
    let s = (goal.at.with_axis-new-requires c).In-loop-i in
    room_for (W s) c.loop-i.i (here s) (few s) _ c.loop-i.invariant

pub loop-i-preserved : goal.loop-i-preserved
loop-i-preserved c =
    let s = (goal.at.loop-i-preserved c).In-loop-i in
    let i = c.loop-i.i in
    let n : i + 1 - 1 ≡ i = omega arith in
    let a = c.axis_in.ensures ∙ ap (λ (j : ℕ). get_or (W s) j no_axis) n in
    c.with_axis-new.ensures ∙ first_more (W s) i (here s) (few s) _ _ c.loop-i.invariant a

pub returns : goal.returns
returns c =
    let X = put_in c.args.k.0 (spot c.args.x) (axes_of c.args.f) in
    let l = length-in c.requires (spot c.args.x) in
    let r = c.rank_of-n.ensures in
    ap axes_of (c.loop-i.invariant ∙ ap extent_of (take_all c.loop-i.i X (omega (arith, l, r.number, c.loop-i-test.false))))
    ∙ extent-axes X (omega (arith, l, c.requires.room))
