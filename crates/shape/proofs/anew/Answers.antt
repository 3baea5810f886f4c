-- `shape::anew` meets its contract.
-- The loop builds the extent of the axes made anew so far.
use Rattle.std.proofs.Common.{ℕ, ◌*◌, ◌+◌, ◌<◌, ◌≤◌, List, ap, ap₂, ◌∙◌, ◌≡◌, arith, drop, length, take_all}
use Rattle.laws.specs.Answers.{extent-axes}
use Rattle.extent.specs.Rank.{axis-first}
use Rattle.extent.specs.Tests.{sound-axis}
use Rattle.paper.specs.Answers.{axes_of, extent_of}
use Rattle.paper.specs.Limits.{most_axes}
use Rattle.paper.specs.declared.Axis.{Axis}
use Rattle.shape.specs.Built.{first_more, room_for}
use Rattle.shape.specs.Renewed.{bytes_for, fits, fresh, length-renewed, renewed, renewed-at}
use Rattle.shape.proofs.anew.Goals as goal
use Rattle.shape.proofs.anew.Goals.{In-loop-i}

module _ (c : In-loop-i) where
  abbrev E : List Axis
  E = axes_of c.args.e

  abbrev W : List Axis
  W = renewed c.args.how E c.args.s.now c.args.at

  few : c.loop-i.i < most_axes
  few = omega (arith, c.rank_of-rank.ensures.few)

  here : c.loop-i.i < length E
  here = omega (arith, c.rank_of-rank.ensures.number)

  all : length W ≡ length E
  all = length-renewed c.args.how E c.args.s.now c.args.at

  room : c.loop-i.i * bytes_for c.args.how + bytes_for
      c.args.how ≤ length E * bytes_for
      c.args.how
  room = fits c.args.how c.loop-i.i (length E) here

  place : c.loop-i.i * c.bytes_for-width.result ≡ c.loop-i.i * bytes_for c.args.how
  place = ap (λ (w : ℕ). c.loop-i.i * w) c.bytes_for-width.ensures

pub loop-i-init : goal.loop-i-init
loop-i-init c = c.empty-new.ensures

pub overflow_mul-i : goal.overflow_mul-i
overflow_mul-i c = let t = (goal.at.overflow_mul-i c).In-loop-i in omega (arith, place t, room t)

pub overflow_add-at : goal.overflow_add-at
overflow_add-at c = let t = (goal.at.overflow_add-at c).In-loop-i in omega (arith, place t, room t, t.requires.holds.room, t.shared_slice_known-1.given 0)

pub axis_anew-requires : goal.axis_anew-requires
axis_anew-requires c =
    let t = (goal.at.axis_anew-requires c).In-loop-i in record { ranged = rw (axis-first t.args.e t.rank_of-rank.result t.rank_of-rank.ensures t.loop-i.i t.loop-i-test.true) (sound-axis (E t) t.loop-i.i t.requires.small.sound); holds = record { room = omega (arith, place t, room t, t.requires.holds.room) } }

pub with_axis-new-requires : goal.with_axis-new-requires
with_axis-new-requires c =
    let t = (goal.at.with_axis-new-requires c).In-loop-i in
    room_for (W t) t.loop-i.i (omega (arith, all t, here t)) (omega (arith, all t, t.rank_of-rank.ensures.number, t.rank_of-rank.ensures.few)) t.loop-i.new t.loop-i.invariant

pub loop-i-preserved : goal.loop-i-preserved
loop-i-preserved c =
    let t = (goal.at.loop-i-preserved c).In-loop-i in
    let how = t.args.how in
    let s = t.args.s.now in
    let at = t.args.at in
    let i = t.loop-i.i in
    let a = axis-first t.args.e t.rank_of-rank.result t.rank_of-rank.ensures i t.loop-i-test.true in
    let v = c.axis_anew.ensures ∙ ap₂ (λ (x : Axis) (n : ℕ). fresh how x (drop (at + n) s)) a (place t)
    ∙ renewed-at how (E t) s at i (here t) in
    c.with_axis-new.ensures
    ∙ first_more (W t) i (omega (arith, all t, here t)) (omega (arith, all t, t.rank_of-rank.ensures.number, t.rank_of-rank.ensures.few)) t.loop-i.new c.axis_anew.result t.loop-i.invariant v

pub returns : goal.returns
returns c =
    let s = c in
    let W = renewed s.args.how (axes_of s.args.e) s.args.s.now s.args.at in
    let n = length-renewed s.args.how (axes_of s.args.e) s.args.s.now s.args.at in
    let r = c.rank_of-rank.ensures in
    ap axes_of (c.loop-i.invariant ∙ ap extent_of (take_all c.loop-i.i W (omega (arith, n, r.number)))) ∙ extent-axes W (omega (arith, n, r.number, r.few))
