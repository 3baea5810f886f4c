-- `rows::sides::side_by_side` meets its contract: from the last axis to the first, `block` is the number of cells of the axes done, which
-- have the same limits in both.
use Rattle.std.proofs.Common.{ℕ, ◌+◌, ◌-◌, ◌*◌, ◌≤◌, ◌<◌, ◌≡◌, sym, ap, ◌∙◌, List, [], ◌∷◌, arith, length, mul_comm, drop, drop_of_length-le}
use borrow.Author.Tests.{not-false}
use Rattle.paper.specs.declared.Axis.{Axis}
use Rattle.paper.specs.declared.Extent.{Extent}
use Rattle.paper.specs.Limits.{most_cells}
use Rattle.paper.specs.Axes.{width, cells}
use Rattle.paper.specs.Answers.{axes_of}
use Rattle.laws.specs.Limits.{sound-drop, cells-pos, cells-drop}
use Rattle.laws.specs.Alike.{SameLimits}
use Rattle.extent.specs.Rank.{axis_no, axes-end}
use Rattle.extent.specs.Tests.{Ranged}
use Rattle.origin.specs.Asks.{Beside}
use Rattle.rows.specs.Sides.{even-side}
use Rattle.rows.specs.Fronts.{axes-on, side-here, limits-on}
use Rattle.rows.proofs.sides.side_by_side.Goals as goal
use Rattle.rows.proofs.sides.side_by_side.Goals.{After-loop-i, After-rank_of-i, After-width_of, In-loop-i}

-- no axis done
module _ (c : After-rank_of-i) where
  abbrev t₀ : Extent
  t₀ = c.args.t

  abbrev e₀ : Extent
  e₀ = c.args.e

  none-t : drop c.rank_of-i.result (axes_of t₀) ≡ []
  none-t = axes-end t₀ _ c.rank_of-i.ensures c.rank_of-i.result (omega arith)

  none-e : drop c.rank_of-i.result (axes_of e₀) ≡ []
  none-e = drop_of_length-le (axes_of e₀) {i = c.rank_of-i.result} (omega (arith, c.rank_of-i.ensures.number, c.requires.same))

  one_cell : 1 ≡ cells (drop c.rank_of-i.result (axes_of t₀))
  unfolding cells
  one_cell = rw none-t

pub loop-i-init : goal.loop-i-init
loop-i-init c = (one_cell c, rw (none-t c, none-e c) tt)

-- at an axis
module _ (c : In-loop-i) where
  abbrev t : Extent
  t = c.args.t

  abbrev e : Extent
  e = c.args.e

  abbrev i : ℕ
  i = c.loop-i.i - 1

  abbrev G : List Axis
  G = axes_of t

  abbrev E : List Axis
  E = axes_of e

  beside : Beside G E c.args.k
  beside = c.requires

  lt : i < length G
  lt = omega (arith, c.rank_of-i.ensures.number)

  up-t : drop i G ≡ axis_no t i ∷ drop (i + 1) G
  up-t = axes-on t i lt

  up-e : drop i E ≡ axis_no e i ∷ drop (i + 1) E
  up-e = axes-on e i (omega (arith, lt, beside.same))

  next : i + 1 ≡ c.loop-i.i
  next = omega arith

  behind : SameLimits (drop (i + 1) G) (drop (i + 1) E)
  behind = rw next c.loop-i.invariant.1

  block : c.loop-i.block ≡ cells (drop (i + 1) G)
  block = rw next c.loop-i.invariant.0

  ranged-t : Ranged (axis_no t i)
  ranged-t = let s = rw up-t at (sound-drop G i beside.here.sound) in (s.0, s.1)

  ranged-e : Ranged (axis_no e i)
  ranged-e = let s = rw up-e at (sound-drop E i beside.there.sound) in (s.0, s.1)

  turn : width (axis_no t i) * c.loop-i.block ≡ cells (drop i G)
  unfolding cells
  turn = rw up-t (ap (λ (n : ℕ). width (axis_no t i) * n) block)

  some : 1 ≤ c.loop-i.block
  some = omega (arith, block, cells-pos (drop (i + 1) G) (sound-drop G (i + 1) beside.here.sound))

  few : width (axis_no t i) * c.loop-i.block ≤ most_cells
  few = omega (arith, turn, cells-drop G i beside.here.sound, beside.here.few)

pub side_left-requires : goal.side_left-requires
side_left-requires c =
    let s = (goal.at.side_left-requires c).In-loop-i in
    record { ranged = ranged-t s; ranged_2 = ranged-e s; le_block = (some s, few s) }

pub returns-then-ne : goal.returns-then-ne
returns-then-ne c =
    let s = (goal.at.returns-then-ne c).In-loop-i in
    side-here (beside s) (i s) _ (axis_no (t s) (i s)) (axis_no (e s) (i s)) (lt s) (up-t s) (up-e s) (behind s)
    (rw (block s) at c.side_left.ensures)

pub width_of-requires : goal.width_of-requires
width_of-requires c = ranged-t (goal.at.width_of-requires c).In-loop-i

-- past an axis
module _ (c : After-width_of) where
  abbrev d : In-loop-i
  d = (goal.at.After-width_of c).In-loop-i

  passed : d.loop-i.block * c.width_of.result ≡ cells (drop (i d) (G d))
  passed = mul_comm _ _ ∙ ap (λ (w : ℕ). w * d.loop-i.block) c.width_of.ensures.0 ∙ turn d

  alike : SameLimits (drop (i d) (G d)) (drop (i d) (E d))
  alike =
      let l = not-false _ (sym c.ne.ensures ∙ c.if-ne.false) in
      limits-on (G d) (E d) (i d) (axis_no (t d) (i d)) (axis_no (e d) (i d)) (up-t d) (up-e d) l (behind d)

pub overflow_mul-block : goal.overflow_mul-block
overflow_mul-block c = omega (arith, passed c, turn (d c), few (d c))

pub loop-i-preserved : goal.loop-i-preserved
loop-i-preserved c = (passed c, alike c)

-- at the end
module _ (c : After-loop-i) where
  ended : c.loop-i.i ≡ 0
  ended = omega arith

  all : c.loop-i.block ≡ cells (axes_of c.args.t)
  all = rw ended at c.loop-i.invariant.0

  even : SameLimits (axes_of c.args.t) (axes_of c.args.e)
  even = rw ended at c.loop-i.invariant.1

pub overflow_sub-result : goal.overflow_sub-result
overflow_sub-result c = omega (arith, all c, c.requires.lt)

pub returns : goal.returns
returns c = rw (all c) (even-side _ _ c.args.k (even c) c.requires.lt)
