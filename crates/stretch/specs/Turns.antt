-- Cells of two sides in turn: from a cell to the end of its side's turn, as bytes of that side's buffer. That is the paper's stretch, by
-- the cells of a block of each side, and it lies in the buffer.
use Rattle.std.specs.Prelude.{ℕ, ◌+◌, ◌-◌, ◌*◌, ◌%◌, ◌≤◌, ◌<◌, ◌≡◌, refl, Bool, List, take, if◌then◌else◌}
use Rattle.std.proofs.Common.{ap, ap₂, suc-mul, mul-add, mul-le-mul_right, mod-lt, div-lt_iff_lt-mul, div-add-mod', arith, ltb-true, ltb-false}
use Rattle.std.proofs.Math.Bool.{true, false}
use Rattle.std.proofs.Math.Arith.{digits_mod}
use Rattle.std.proofs.Math.Dec.{ltb}
use Rattle.paper.specs.declared.Axis.{Axis}
use Rattle.paper.specs.declared.Part.{Part}
use Rattle.paper.specs.declared.Part.TheVariants.{Left, Right}
use Rattle.paper.specs.Limits.{most_cells, cell_bytes}
use Rattle.paper.specs.Axes.{cells, ordinality, coordinate}
use Rattle.paper.specs.Recipe.{glued}
use Rattle.paper.specs.Values.{in_first, in_second}
use Rattle.paper.specs.Stretch.{stay, span, stretch_at}
use Rattle.laws.specs.Places.{right-pos}
use Rattle.laws.specs.Limits.{Sound}
use Rattle.laws.specs.Glue.{turn, in_turn, block_cells}
use Rattle.laws.proofs.Glue.{Gluable, cells-first, cells-second, cells-blocks, glued-side, glued-left, glued-right}
use Rattle.laws.proofs.Stretch.{onward, stay-left, stay-right}
use Rattle.origin.specs.declared.Origin.{Origin}
use Rattle.origin.specs.declared.Origin.TheVariants.{Nowhere, FromA, FromB}
use Rattle.origin.specs.Origins.{turn_origin}
use Rattle.origin.specs.Asks.{InTurns}

-- from cell i of a side on to the end of its turn of m or n cells
abbrev pub part_from : ℕ → ℕ → Origin → Part
part_from m n (FromA i) = Left (i * cell_bytes) ((i - i % m + m) * cell_bytes)
part_from m n (FromB i) = Right (i * cell_bytes) ((i - i % n + n) * cell_bytes)
part_from m n Nowhere = Left 0 0

-- m cells of the left and n of the right in turn: from cell j, counted from 0, to the end of its side's turn
unfoldable pub turn_part : ℕ → ℕ → ℕ → Part
turn_part m n j = part_from m n (turn_origin m n j)

-- a side's cell, which is never further on than the cell of both
abbrev pub own_cell : Origin → ℕ
own_cell (FromA i) = i
own_cell (FromB i) = i
own_cell Nowhere = 0

turn-le : (m n j : ℕ) → own_cell (turn_origin m n j) ≤ j
turn-le m n j = by (ltb (in_turn m n j) m)
  where
    whole : turn m n j * m + turn m n j * n + in_turn m n j ≡ j
    whole = omega (arith, div-add-mod' j (m + n), mul-add (turn m n j) m n)

    by : (b : Bool) → own_cell (if b then FromA (turn m n j * m + in_turn m n j) else FromB (turn m n j * n + (in_turn m n j - m))) ≤ j
    by true = omega (arith, whole)
    by false = omega (arith, whole)

pub turn-few : {m n j : ℕ} {x : Origin} → InTurns m n j → x ≡ turn_origin m n j → own_cell x ≤ most_cells
turn-few {m} {n} {j} h e = omega (arith, h.few, ap own_cell e, turn-le m n j)

-- a part lies in its buffer, the left having l bytes and the right r
abbrev pub InBuffer : ℕ → ℕ → Part → Type 0
InBuffer l r (Left a e) = (a ≤ e) × (e ≤ l)
InBuffer l r (Right a e) = (a ≤ e) × (e ≤ r)

-- ---- the paper's stretch

module _ (k : ℕ) (E F : List Axis) (g : Gluable k E F) (sound : Sound F) (o : ℕ) (one : 1 ≤ o) (last : o ≤ cells (glued k E F)) where
  abbrev m : ℕ
  m = block_cells k E

  abbrev n : ℕ
  n = block_cells k F

  -- the turns before, and how far into its turn
  abbrev q : ℕ
  q = turn m n (o - 1)

  abbrev i : ℕ
  i = in_turn m n (o - 1)

  abbrev p : List ℕ
  p = coordinate (glued k E F) o

  abbrev kept : Bool → ℕ
  kept b = stay b (in_first k E) (onward (glued k E F) o)

  here : o - 1 < cells (glued k E F)
  here = omega arith

  inner : (q < cells (take (k - 1) E)) × (i < m + n)
  inner =
      let h : o - 1 < cells (take (k - 1) E) * (m + n) = omega (arith, cells-blocks k E F g, here) in
      let z = right-pos (cells (take (k - 1) E)) (m + n) (o - 1) h in
      ((div-lt_iff_lt-mul {x = o - 1} {y = cells (take (k - 1) E)} z).1 h, mod-lt (o - 1) z)

  abbrev Is : Bool → Part → Type 0
  Is b x =
      (x ≡ (if b then span Left (ordinality E p) (kept b) else span Right (ordinality F (in_second k E F p)) (kept b)))
      × InBuffer (cells E * cell_bytes) (cells F * cell_bytes) x

  left_is : i < m → Is true (part_from m n (FromA (q * m + i)))
  left_is l =
      let x = glued-left k E F g (o - 1) here in
      let y = stay-left k E F g o one last sound l in
      let d = digits_mod q {m = m} l in
      let a : (q * m + i) * cell_bytes ≡ (ordinality E p - 1) * cell_bytes = omega (arith, x) in
      let b : (q * m + i - (q * m + i) % m + m) * cell_bytes ≡ (ordinality E p - 1 + kept true) * cell_bytes = omega (arith, x, y) in
      let c : q * m + m ≤ cells E = omega (arith, cells-first k E F g, suc-mul q m, mul-le-mul_right m inner.0) in
      (ap₂ Left a b, (omega arith, omega arith))

  right_is : m ≤ i → Is false (part_from m n (FromB (q * n + (i - m))))
  right_is l =
      let x = glued-right k E F g (o - 1) here l in
      let y = stay-right k E F g o one last l in
      let r = inner.1 in
      let z : i - m < n = omega arith in
      let d = digits_mod q {m = n} z in
      let a : (q * n + (i - m)) * cell_bytes ≡ (ordinality F (in_second k E F p) - 1) * cell_bytes = omega (arith, x) in
      let j = q * n + (i - m) in
      let b : (j - j % n + n) * cell_bytes ≡ (ordinality F (in_second k E F p) - 1 + kept false) * cell_bytes = omega (arith, x, y) in
      let c : q * n + n ≤ cells F = omega (arith, cells-second k E F g, suc-mul q n, mul-le-mul_right n inner.0) in
      (ap₂ Right a b, (omega arith, omega arith))

  pub turn_is : (turn_part m n (o - 1) ≡ stretch_at k E F p (kept (in_first k E p)))
      × InBuffer (cells E * cell_bytes) (cells F * cell_bytes) (turn_part m n (o - 1))
  unfolding turn_part stretch_at
  turn_is = rw (glued-side k E F g (o - 1) here) (by (ltb i m) refl)
    where
      by : (b : Bool) → ltb i m ≡ b → Is b (part_from m n (if b then FromA (q * m + i) else FromB (q * n + (i - m))))
      by true e = left_is (ltb-true i m e)
      by false e = right_is (ltb-false i m e)
