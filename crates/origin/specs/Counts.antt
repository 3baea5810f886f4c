-- What the code counts, told as the definitions have it: blocks and layers around an axis, turns of two arrays. Names of the code's values
-- stand for themselves, each with the fact that it was promised with.
use Rattle.std.specs.Prelude.{ℕ, ◌+◌, ◌-◌, ◌*◌, ◌/◌, ◌%◌, ◌≤◌, ◌<◌, ◌≡◌, refl, Bool, true, false, List, ltb, drop, if◌then◌else◌}
use Rattle.std.proofs.Common.{sym, ap, mul-le-mul, mod-lt, div-le_self, arith, ltb-false}
use Rattle.paper.specs.declared.Axis.{Axis}
use Rattle.paper.specs.Limits.{reach, most_cells}
use Rattle.paper.specs.Axes.{cells, offset, at_offset, axis_at, without, put_in}
use Rattle.paper.specs.Recipe.{glued}
use Rattle.paper.specs.Values.{from_a, from_b, in_second}
use Rattle.laws.specs.Glue.{turn, in_turn, block_cells}
use Rattle.laws.proofs.Glue.{glued_from, Gluable, glued-side, glued-left, glued-right}
use Rattle.extent.specs.Tests.{sound-axis}
use Rattle.origin.specs.declared.Origin.{Origin}
use Rattle.origin.specs.declared.Origin.TheVariants.{FromA, FromB}
use Rattle.origin.specs.Origins.{origin_at, turn_origin}
use Rattle.origin.specs.Asks.{Sliced, InTurns, Countable, small-without}
use Rattle.origin.specs.Blocks.{slice-offset}

-- ---- blocks

pub counted-le : (blocks size rest : ℕ) → Countable blocks size rest → blocks * size ≤ 2 * reach * most_cells
counted-le b s r c = mul-le-mul c.number c.each

-- few of each
few : {b s r : ℕ} → b ≤ most_cells → s ≤ most_cells → r ≤ most_cells → Countable b s r
few h k l = record { number = omega arith; each = k; more = omega arith }

-- the cells of a block and of a layer around axis k, and the axis
pub record Around (k : ℕ) (E : List Axis) (block layer : ℕ) (a : Axis) : Type 0 where
  pub blocks : (block ≡ block_cells k E) × (1 ≤ block) × (block ≤ most_cells)
  pub layers : (layer ≡ cells (drop k E)) × (1 ≤ layer) × (layer ≤ most_cells)
  pub axis : a ≡ axis_at k E

module _ {k : ℕ} {E : List Axis} {block layer : ℕ} {a : Axis} (w : Around k E block layer a) where
  -- ---- a slice

  module _ {x j : ℕ} (h : Sliced k E x j) where
    pub low-enough : a.lo ≤ x
    low-enough = rw w.axis h.low

    pub layers-countable : Countable (x - a.lo) layer (j % layer)
    layers-countable =
        let t = sound-axis E (k - 1) h.axial.small.sound in
        record { number = omega (arith, h.high, t.1); each = w.layers.2; more = omega (arith, mod-lt j w.layers.1) }

    module _ {inner : ℕ} (e : inner ≡ (x - a.lo) * layer + j % layer) where
      pub slice-countable : Countable (j / layer) block inner
      slice-countable =
          let l = h.lt in
          let n = (small-without k E h.axial).few in
          record {
            number = omega (arith, div-le_self j layer);
            each = w.blocks.2;
            more = omega (arith, counted-le (x - a.lo) layer (j % layer) layers-countable, mod-lt j w.layers.1);
          }

      pub slice-told : {whole : ℕ} → whole ≡ j / layer * block + inner
          → FromA whole ≡ FromA (offset E (put_in k x (at_offset (without k E) j)))
      slice-told f = rw (f, e, w.axis, w.blocks.0, w.layers.0) (ap {B = Origin} FromA (sym (slice-offset h.axial x j h.lt)))

-- ---- turns

module _ {m n j : ℕ} (h : InTurns m n j) where
  turn-few : turn m n j ≤ most_cells
  turn-few = omega (arith, h.few, div-le_self j (m + n))

  pub first-countable : in_turn m n j < m → Countable (turn m n j) m (in_turn m n j)
  first-countable l = few turn-few h.first (omega (arith, h.first))

  pub second-countable : m ≤ in_turn m n j → Countable (turn m n j) n (in_turn m n j - m)
  second-countable l = let s = h.some in few turn-few h.second (omega (arith, mod-lt j {m = m + n} (omega arith), h.second))

-- of a glued array, by the cells of a block of each
pub glue-origin : {k : ℕ} {E F : List Axis} {j : ℕ} → Gluable k E F → j < cells (glued k E F)
    → turn_origin (block_cells k E) (block_cells k F) j ≡ origin_at E F (glued_from k E F (at_offset (glued k E F) j))
unfolding origin_at
glue-origin {k} {E} {F} {j} g h = rw (glued-side k E F g j h) (by (ltb (in_turn wa wb j) wa) refl)
  where
    wa : ℕ
    wa = block_cells k E

    wb : ℕ
    wb = block_cells k F

    p : List ℕ
    p = at_offset (glued k E F) j

    by : (b : Bool) → ltb (in_turn wa wb j) wa ≡ b
        → (if b then FromA (turn wa wb j * wa + in_turn wa wb j) else FromB (turn wa wb j * wb + (in_turn wa wb j - wa)))
        ≡ origin_at E F (if b then from_a p else from_b (in_second k E F p))
    by true e = rw (glued-left k E F g j h)
    by false e = rw (glued-right k E F g j h (ltb-false (in_turn wa wb j) wa e))
