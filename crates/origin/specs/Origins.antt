-- Where a cell of a moved result comes from: the paper's coordinate of A or of B, as a cell of that array counted from 0, and the cell
-- that stands there. Then the forms in which the code finds it: a coordinate in an extent, and two arrays' cells in turn.
use Rattle.std.specs.Prelude.{ℕ, ◌+◌, ◌-◌, ◌*◌, ◌<◌, ◌≡◌, Bool, List, ltb, length, get_or, if◌then◌else◌, Some, None, Option}
use Rattle.std.proofs.Math.Path.{refl}
use Rattle.std.proofs.Math.Bool.{true, false}
use native.Mathlib.Omega.{arith}
use Rattle.paper.specs.declared.Axis.{Axis}
use Rattle.paper.specs.declared.Cell.{Cell}
use Rattle.paper.specs.declared.Cell.TheVariants.{Empty}
use Rattle.paper.specs.declared.Move.{Move}
use Rattle.paper.specs.declared.Operation.TheVariants.{Moves}
use Rattle.paper.specs.Axes.{cells, inside, offset, ordinality, Shape, Array, at}
use Rattle.paper.specs.Recipe.{Step, uses, axis_in, fits_in, result_axes}
use Rattle.paper.specs.Values.{Whence, from_a, from_b, nowhere, overlaid, taken}
use Rattle.laws.specs.Agreeing.{Agree}
use Rattle.laws.specs.Places.{Inside, true-inside, offset-lt}
use Rattle.laws.specs.Arrays.{at-inside}
use Rattle.laws.specs.Glue.{turn, in_turn}
use Rattle.extent.specs.Judged.{Small}
use Rattle.origin.specs.declared.Origin.{Origin}
use Rattle.origin.specs.declared.Origin.TheVariants.{Nowhere, FromA, FromB}

-- a step that moves cells and passed its tests: E and F are the axes of A and B, G those of the result
pub record Moving (m : Move) (st : Step) (E F G : List Axis) : Type 0 where
  pub first : Small E
  pub second : Small F
  pub result : Small G
  pub axis : axis_in (uses (Moves m)) (length E) st.axis ≡ true
  pub left : Shape
  pub right : Shape
  pub left-axes : left.axes ≡ E
  pub right-axes : right.axes ≡ F
  pub agrees : Agree (Moves m) st.axis left.names E right.names F
  pub fits : fits_in (Moves m) st left right ≡ true
  pub axes : G ≡ result_axes (Moves m) st E F

pub moving-as : {m n : Move} {st : Step} {E F G : List Axis} → m ≡ n → Moving m st E F G → Moving n st E F G
moving-as e M = rw e at M

-- ---- the cell that the paper's coordinate is

unfoldable pub origin_at : List Axis → List Axis → Whence → Origin
origin_at E F (from_a p) = FromA (offset E p)
origin_at E F (from_b q) = FromB (offset F q)
origin_at E F nowhere = Nowhere

-- the cell that an origin names
abbrev pub origin_cell : Origin → List Cell → List Cell → Cell
origin_cell Nowhere cs ds = Empty
origin_cell (FromA j) cs ds = get_or cs j Empty
origin_cell (FromB j) cs ds = get_or ds j Empty

-- it lies in its array, A having m cells and B n
abbrev pub in_array : Origin → ℕ → ℕ → Type 0
in_array Nowhere m n = Unit {0}
in_array (FromA j) m n = j < m
in_array (FromB j) m n = j < n

-- the coordinate lies in its array
abbrev pub Lies : List Axis → List Axis → Whence → Type 0
Lies E F (from_a p) = Inside E p
Lies E F (from_b q) = Inside F q
Lies E F nowhere = Unit {0}

-- the cell of an array of axes E at a coordinate
at_in : (A : Array) (E : List Axis) (p : List ℕ) → A.shape.axes ≡ E → Inside E p → at A p ≡ get_or A.cells (offset E p) Empty
at_in A E p e h = rw (← e) (at-inside A p (rw (← e) at h))

module _ (E F : List Axis) where
  pub origin-inside : (w : Whence) → Lies E F w → in_array (origin_at E F w) (cells E) (cells F)
  unfolding origin_at
  origin-inside (from_a p) h = offset-lt E p h
  origin-inside (from_b q) h = offset-lt F q h
  origin-inside nowhere h = tt

  pub taken-origin : (w : Whence) (A B : Array) → A.shape.axes ≡ E → B.shape.axes ≡ F → Lies E F w
      → taken A B w ≡ origin_cell (origin_at E F w) A.cells B.cells
  unfolding taken origin_at
  taken-origin (from_a p) A B e f h = at_in A E p e h
  taken-origin (from_b q) A B e f h = at_in B F q f h
  taken-origin nowhere A B e f h = refl

-- ---- a coordinate found in an extent

unfoldable pub found_in : List Axis → List ℕ → Option ℕ
found_in E p = if inside E p then Some (offset E p) else None

-- A's cell there, or none
abbrev pub in_a : Option ℕ → Origin
in_a (Some j) = FromA j
in_a None = Nowhere

-- B's cell there, or A's cell k
abbrev pub over_a : ℕ → Option ℕ → Origin
over_a k (Some j) = FromB j
over_a k None = FromA k

module _ (E : List Axis) (p : List ℕ) where
  pub found_at : (o : ℕ) → inside E p ≡ true → o ≡ ordinality E p → Some (o - 1) ≡ found_in E p
  unfolding found_in
  found_at o i e = let n : o - 1 ≡ offset E p = omega arith in rw (i, n)

  pub found_none : inside E p ≡ false → None ≡ found_in E p
  unfolding found_in
  found_none i = rw i

  module _ (F : List Axis) where
    pub found_first : in_a (found_in E p) ≡ origin_at E F (if inside E p then from_a p else nowhere)
    unfolding found_in origin_at
    found_first = by (inside E p)
      where
        by : (b : Bool) → in_a (if b then Some (offset E p) else None) ≡ origin_at E F (if b then from_a p else nowhere)
        by true = refl
        by false = refl

    pub found_inside : Inside E p → in_a (found_in E p) ≡ origin_at E F (from_a p)
    unfolding found_in origin_at
    found_inside h = rw (true-inside E p h)

    pub found-over : {k : ℕ} (q : List ℕ) → offset E p ≡ k → over_a k (found_in F q) ≡ origin_at E F (overlaid F q p)
    unfolding found_in origin_at
    found-over q e = rw (← e) (by (inside F q))
      where
        by : (b : Bool) → over_a (offset E p) (if b then Some (offset F q) else None) ≡ origin_at E F (if b then from_b q else from_a p)
        by true = refl
        by false = refl

-- ---- glue

-- m cells of A and n of B in turn
abbrev pub turn_origin : ℕ → ℕ → ℕ → Origin
turn_origin m n j =
    if ltb (in_turn m n j) m then FromA (turn m n j * m + in_turn m n j) else FromB (turn m n j * n + (in_turn m n j - m))
