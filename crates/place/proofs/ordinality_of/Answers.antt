-- `place::ordinality_of` meets its contract.
-- From the last axis to the first: the sum and the product of the widths are those of the axes done.
use Rattle.std.proofs.Common.{ℕ, ◌*◌, ◌+◌, ◌-◌, ◌<◌, ◌≤◌, List, ap, ap₂, sym, ◌∙◌, ◌≡◌, arith, rules, drop, length, mul_comm, take}
use Rattle.laws.specs.Limits.{Sound, cells-drop}
use Rattle.laws.specs.Loops.{cells-down, cells-none, drop-none, inside-first, offset-down, offset-few, offset-none, sound-first}
use Rattle.laws.specs.Places.{Inside}
use Rattle.paper.specs.Answers.{axes_of}
use Rattle.paper.specs.Axes.{cells, no_axis, offset}
use Rattle.paper.specs.Limits.{most_axes, most_cells}
use Rattle.paper.specs.declared.Axis.{Axis}
use Rattle.place.specs.Positions.{first-positions, positions_of}
use Rattle.place.proofs.ordinality_of.Goals as goal
use Rattle.place.proofs.ordinality_of.Goals.{After-above, After-rank_of-i, After-width_of-later}

-- the axes and the positions, and what is required of them
module _ (c : After-rank_of-i) where
  abbrev l : List Axis
  l = c.args.e.axes

  abbrev p : List ℕ
  p = c.args.p.at

  abbrev r : ℕ
  r = c.rank_of-i.result

  axes : take r l ≡ axes_of c.args.e
  axes = c.rank_of-i.ensures.first

  positions : take r p ≡ positions_of (axes_of c.args.e) c.args.p
  positions = first-positions c.args.e r c.args.p c.rank_of-i.ensures

  room : r ≤ length p
  room = let l : length p ≡ most_axes = search rules in omega arith

  sound : Sound (take r l)
  sound = rw axes c.requires.small.sound

  placed : Inside (take r l) (take r p)
  placed = rw (axes, positions) c.requires.inside

  -- the sum and the product at the axes from i on
  abbrev sum_from : ℕ → ℕ
  sum_from i = offset (drop i (take r l)) (drop i (take r p))

  abbrev cells_from : ℕ → ℕ
  cells_from i = cells (drop i (take r l))

  few : (i : ℕ) → sum_from i < most_cells
  few i = omega (arith, offset-few l p r c.rank_of-i.ensures.room room i sound placed, ap cells axes, c.requires.small.few)

  product : (i : ℕ) → cells_from i ≤ most_cells
  product i = omega (arith, cells-drop (take r l) i sound, ap cells axes, c.requires.small.few)

turn-sum : (c : After-above) → c.above.result * c.loop-i.later + c.loop-i.sum ≡ sum_from c.before.before.before.before.before (c.loop-i.i - 1)
turn-sum c =
    let s = c.before.before.before.before.before in
    let v = c.loop-i in
    ap₂ ◌+◌ (ap₂ ◌*◌ c.above.ensures v.invariant.1) v.invariant.0
    ∙ sym (offset-down (l s) (p s) (r s) s.rank_of-i.ensures.room (room s) v.i no_axis 0 (omega arith) (omega arith))

turn-later : (c : After-width_of-later) → c.loop-i.later * c.width_of-later.result ≡ cells_from c.before.before.before.before.before.before (c.loop-i.i - 1)
turn-later c =
    let s = c.before.before.before.before.before.before in
    let v = c.loop-i in
    ap₂ ◌*◌ v.invariant.1 c.width_of-later.ensures.0 ∙ mul_comm _ _ ∙ sym (cells-down (l s) (r s) s.rank_of-i.ensures.room v.i no_axis (omega arith) (omega arith))

pub loop-i-init : goal.loop-i-init
loop-i-init c = (offset-none (l c) (p c) (r c) c.rank_of-i.ensures.room (room c), cells-none (l c) (r c) c.rank_of-i.ensures.room)

pub above-requires : goal.above-requires
above-requires c =
    let s = (goal.at.above-requires c).After-rank_of-i in
    (inside-first (l s) (p s) (r s) s.rank_of-i.ensures.room (room s) (c.loop-i.i - 1) no_axis 0 (placed s) (omega arith)).0

pub overflow_mul-sum : goal.overflow_mul-sum
overflow_mul-sum c = omega (arith, turn-sum c, few (goal.at.overflow_mul-sum c).After-rank_of-i (c.loop-i.i - 1))

pub overflow_add-sum : goal.overflow_add-sum
overflow_add-sum c = omega (arith, turn-sum c, few (goal.at.overflow_add-sum c).After-rank_of-i (c.loop-i.i - 1))

pub width_of-later-requires : goal.width_of-later-requires
width_of-later-requires c =
    let s = (goal.at.width_of-later-requires c).After-rank_of-i in
    sound-first (l s) (r s) s.rank_of-i.ensures.room (c.loop-i.i - 1) no_axis (sound s) (omega arith)

pub overflow_mul-later : goal.overflow_mul-later
overflow_mul-later c = omega (arith, turn-later c, product (goal.at.overflow_mul-later c).After-rank_of-i (c.loop-i.i - 1))

pub loop-i-preserved : goal.loop-i-preserved
loop-i-preserved c = (turn-sum (goal.at.loop-i-preserved c).After-above, turn-later c)

pub overflow_add-result : goal.overflow_add-result
overflow_add-result c = omega (arith, few (goal.at.overflow_add-result c).After-rank_of-i c.loop-i.i)

pub overflow_cast-result : goal.overflow_cast-result
overflow_cast-result c = omega (arith, few (goal.at.overflow_cast-result c).After-rank_of-i c.loop-i.i)

pub returns : goal.returns
returns c =
    let s = (goal.at.returns c).After-rank_of-i in
    let i = c.loop-i.i in
    omega (arith, ap₂ offset (drop-none (take (r s) (l s)) i (omega arith) ∙ axes s) (drop-none (take (r s) (p s)) i (omega arith) ∙ positions s))
