-- `pack::put::put_axes` meets its contract: the axes left, put where the loop stands, are the whole put at the start.
use Rattle.std.proofs.Common.{ℕ, ◌+◌, ◌*◌, ◌≤◌, ◌≡◌, sym, ap, subst, ◌∙◌, arith, rules, length, get_or}
use Rattle.laws.specs.Loops.{length-mapped}
use Rattle.laws.specs.Put.{put}
use Rattle.laws.specs.Sizes.{Fits, fits}
use Rattle.bundle.specs.Axes.{axis-room}
use Rattle.extent.specs.Rank.{Rank, axis_no}
use Rattle.paper.specs.declared.Sizes.{Sizes}
use Rattle.paper.specs.Limits.{most_axes, sizes_of}
use Rattle.paper.specs.Axes.{no_name}
use Rattle.paper.specs.Bundle.{axes_bytes}
use Rattle.paper.specs.Answers.{axes_of, names_for}
use Rattle.pack.specs.Put.{ranked, axis_part, AxesRoom, axes-start, axes-more, axes-done}
use Rattle.pack.proofs.put.put_axes.Goals as goal
use Rattle.pack.proofs.put.put_axes.Goals.{After-put_axis, After-rank_of-rank, In-loop-i, Start}

-- the version's sizes; the maximum has as many axes as the extent, and there is room for the most names
module _ (c : After-rank_of-rank) where
  abbrev start : Start
  start = c.before.before.before.before

  abbrev z : Sizes
  z = c.sizes-z.result

  same : z ≡ sizes_of start.args.v
  same = c.sizes-z.ensures

  its : Fits z
  its = subst Fits (sym same) (fits start.args.v)

  room : AxesRoom z start.args.e start.args.m start.args.at start.args.d.now
  room = subst (λ (x : Sizes). AxesRoom x start.args.e start.args.m start.args.at start.args.d.now) (sym same)
      start.requires

  named : length start.args.names ≡ most_axes
  named = search (rules, length-mapped)

  full : length start.args.m.axes ≡ most_axes
  full = search (rules, length-mapped)

  other : Rank start.args.m c.rank_of-rank.result
  other = ranked start.args.m c.rank_of-rank.result full (c.rank_of-rank.ensures.number ∙ sym start.requires.alike)

-- in the loop
module _ (c : In-loop-i) where
  abbrev p : After-rank_of-rank
  p = record { before = c.before.before; type_inv = record { d = c.slice_known-1.given } }

  abbrev i : ℕ
  i = c.loop-i.i

  -- the axis's bytes are inside
  inside : (start p).args.at + i * (z p).axis + (z p).axis ≤ length (start p).args.d.now
  inside =
      axis-room i (length (axes_of (start p).args.e)) (z p).axis (start p).args.at (length (start p).args.d.now)
      (omega (arith, c.loop-i-test.true, p.rank_of-rank.ensures.number)) (room p).room

pub put_axis-requires : goal.put_axis-requires
put_axis-requires c =
    let s = (goal.at.put_axis-requires c).In-loop-i in
    let h = inside s in
    let l = c.loop-i.invariant.long in
    subst (λ (x : Sizes). (start (p s)).args.at + i s * (z (p s)).axis + x.axis ≤ length c.loop-i.d) (same (p s))
    (omega (arith, h, l))

-- an axis is written
module _ (c : After-put_axis) where
  abbrev turn : In-loop-i
  turn = c.before.before.before.before.before.before

pub loop-i-preserved : goal.loop-i-preserved
loop-i-preserved c =
    let t = turn (goal.at.loop-i-preserved c).After-put_axis in
    let q = p t in
    axes-more (its q) (named q) q.rank_of-rank.ensures (other q) (room q) t.loop-i.invariant t.loop-i-test.true
    c.put_axis.new.d
    (c.put_axis.ensures ∙ ap (λ (x : Sizes). put t.loop-i.d ((start q).args.at + i t * (z q).axis)
    (axis_part x (get_or (start q).args.names (i t) no_name) (axis_no (start q).args.e (i t)) (axis_no (start q).args.m (i t))))
    (sym (same q)))

pub returns : goal.returns
returns c =
    let p = (goal.at.returns c).After-rank_of-rank in
    let s = start p in
    let E = axes_of s.args.e in
    axes-done (its p) (named p) c.rank_of-rank.ensures (other p) (room p) c.loop-i.invariant c.loop-i-test.false
    ∙ ap (λ (x : Sizes). put s.args.d.now s.args.at (axes_bytes x (names_for E s.args.names) E (axes_of s.args.m))) (same p)

pub loop-i-init : goal.loop-i-init
loop-i-init c = axes-start (its c)

pub overflow_mul-i : goal.overflow_mul-i
overflow_mul-i c = omega (arith, inside (goal.at.overflow_mul-i c).In-loop-i)

pub overflow_add-at : goal.overflow_add-at
overflow_add-at c = omega (arith, inside (goal.at.overflow_add-at c).In-loop-i)

pub bounds-names-i : goal.bounds-names-i
bounds-names-i c = omega (arith, (p (goal.at.bounds-names-i c).In-loop-i).rank_of-rank.ensures.few)

pub bounds-e-i : goal.bounds-e-i
bounds-e-i c = omega (arith, (p (goal.at.bounds-e-i c).In-loop-i).rank_of-rank.ensures.few)

pub bounds-m-i : goal.bounds-m-i
bounds-m-i c = omega (arith, (p (goal.at.bounds-m-i c).In-loop-i).rank_of-rank.ensures.few)

pub shape_of-d : goal.shape_of-d
shape_of-d c = c.loop-i.invariant.long
