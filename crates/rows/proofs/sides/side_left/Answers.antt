-- `rows::sides::side_left` meets its contract: so many blocks, less the cells passed of the first.
use Rattle.std.proofs.Common.{ℕ, ◌+◌, ◌*◌, ◌/◌, ◌%◌, ◌≤◌, ◌<◌, refl, mod-lt, add-mul, arith}
use Rattle.paper.specs.declared.Axis.{Axis}
use Rattle.paper.specs.Axes.{width}
use Rattle.rows.specs.Sides.{OneSide, side-blocks}
use Rattle.rows.proofs.sides.side_left.Goals as goal
use Rattle.rows.proofs.sides.side_left.Goals.{After-same_side, After-width_of-w, Start}

module _ (c : After-width_of-w) where
  abbrev a : Axis
  a = c.args.a

  abbrev q : ℕ
  q = c.args.k / c.args.block % c.width_of-w.result

  low : q < width a
  low =
      let e = c.width_of-w.ensures.0 in
      let some : 0 < c.width_of-w.result = omega (arith, e, c.requires.ranged) in
      omega (arith, e, mod-lt (c.args.k / c.args.block) some)

pub overflow_cast-x : goal.overflow_cast-x
overflow_cast-x c = omega (arith, low c, c.requires.ranged)

pub overflow_add-x : goal.overflow_add-x
overflow_add-x c = omega (arith, low (goal.at.overflow_add-x c).After-width_of-w, c.requires.ranged)

pub same_side-requires : goal.same_side-requires
same_side-requires c =
    let s = c.requires in
    record { ranged = s.ranged; ranged_2 = s.ranged_2; lo_le_x = (omega arith, omega (arith, low (goal.at.same_side-requires c).After-width_of-w, s.ranged)) }

module _ (c : After-same_side) where
  abbrev s : Start
  s = (goal.at.After-same_side c).Start

  abbrev m : ℕ
  m = s.args.block

  abbrev passed : ℕ
  passed = s.args.k / m % width s.args.a

  abbrev n : ℕ
  n = c.same_side.result

  one : OneSide s.args.a s.args.e (s.args.a.lo + passed) n
  one = rw c.width_of-w.ensures.0 at c.same_side.ensures

  blocks : (s.args.k % m < n * m) × ((passed + n) * m ≤ width s.args.a * m)
  blocks = side-blocks s.args.a s.args.e m s.args.k n s.requires.le_block.0 one

pub overflow_mul-result : goal.overflow_mul-result
overflow_mul-result c = omega (arith, (blocks c).1, (s c).requires.le_block.1, add-mul (passed c) (n c) (m c))

pub overflow_sub-result : goal.overflow_sub-result
overflow_sub-result c = omega (arith, (blocks c).0)

pub returns : goal.returns
returns c = record { side = c.same_side.result; one = one c; is = refl }
