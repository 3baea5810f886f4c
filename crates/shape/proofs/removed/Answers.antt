-- `shape::removed` meets its contract.
-- The loop builds the extent of the axes passed, without the one.
use Rattle.std.proofs.Common.{◌<◌, ◌≤◌, List, ap, sym, ◌∙◌, arith, length, take_all}
use Rattle.laws.specs.Answers.{extent-axes}
use Rattle.extent.specs.Rank.{axis-first}
use Rattle.paper.specs.Answers.{axes_of, extent_of}
use Rattle.paper.specs.Axes.{without}
use Rattle.paper.specs.Limits.{most_axes}
use Rattle.paper.specs.declared.Axis.{Axis}
use Rattle.shape.specs.Built.{few-without, room-without, without_more, without-none, without-same}
use Rattle.shape.proofs.removed.Goals as goal
use Rattle.shape.proofs.removed.Goals.{In-loop-i, then-i-out, else-i-out}

module _ (c : In-loop-i) where
  abbrev E : List Axis
  E = axes_of c.args.e

  here : c.loop-i.i < length E
  here = omega (arith, c.rank_of-rank.ensures.number)

  few : length E ≤ most_axes
  few = omega (arith, c.rank_of-rank.ensures.number, c.rank_of-rank.ensures.few)

pub loop-i-init : goal.loop-i-init
loop-i-init c = c.empty-new.ensures ∙ ap extent_of (sym (without-none c.args.k.0))

pub with_axis-new-requires : goal.with_axis-new-requires
with_axis-new-requires c =
    let t = (goal.at.with_axis-new-requires c).In-loop-i in
    room-without t.args.k.0 (E t) t.loop-i.i (here t) (few t) t.loop-i.new t.loop-i.invariant

pub loop-i-preserved : goal.loop-i-preserved
loop-i-preserved c =
    let t = (goal.at.loop-i-preserved c).In-loop-i in
    let a = axis-first t.args.e t.rank_of-rank.result t.rank_of-rank.ensures t.loop-i.i t.loop-i-test.true in
    elim c.if-i-out.branch [
      | then-i-out w ↦ w.new-is ∙ w.with_axis-new.ensures ∙ without_more t.args.k.0 (E t) t.loop-i.i (here t) (few t) t.loop-i.new _ t.loop-i.invariant a w.if-i-out.true
      | else-i-out w ↦ w.new-is ∙ without-same t.args.k.0 (E t) t.loop-i.i (here t) (few t) t.loop-i.new t.loop-i.invariant (omega (arith, w.if-i-out.false))
    ]

pub returns : goal.returns
returns c =
    let k = c.args.k.0 in
    let E = axes_of c.args.e in
    let r = c.rank_of-rank.ensures in
    ap axes_of (c.loop-i.invariant ∙ ap (λ (l : List Axis). extent_of (without k l)) (take_all c.loop-i.i E (omega (arith, r.number))))
    ∙ extent-axes (without k E) (omega (arith, few-without k E, r.number, r.few))
