-- When arrays are valid, said of the arrays alone: neither packing nor reading is spoken of.
-- Reading.antt and Packing.antt show that what they accept is valid, and Packing.antt that valid arrays are packed and read.
use Rattle.std.specs.Prelude.{◌≡◌, refl, true, List, [], ◌∷◌, map, ℕ, suc, ◌^◌, ◌<◌, length}
use Rattle.std.proofs.Common.{ap}
use Rattle.paper.specs.declared.Sizes.{Sizes}
use Rattle.paper.specs.declared.Name.{Name}
use Rattle.paper.specs.declared.Axis.{Axis}
use Rattle.paper.specs.declared.Cell.{Cell}
use Rattle.paper.specs.Limits.{most_arrays, half_name}
use Rattle.paper.specs.Refusals.{between}
use Rattle.paper.specs.Numbers.{concat}
use Rattle.paper.specs.Axes.{cells, good_extent, within, Shape, Array}
use Rattle.paper.specs.Cells.{is_type, cells_bytes}
use Rattle.paper.specs.Bundle.{names_fit}
use Rattle.laws.specs.Cells.{OfKind}

-- both halves of a name fit their bytes
abbrev pub NameFits : Name → Type 0
NameFits n = (n.first < 256 ^ half_name) × (n.last < 256 ^ half_name)

-- each name fits its bytes, and there are as many names as axes
abbrev pub Named : List Name → List Axis → Type 0
Named [] [] = Unit {0}
Named [] (a ∷ E) = ⊥
Named (n ∷ N) [] = ⊥
Named (n ∷ N) (a ∷ E) = NameFits n × Named N E

pub named-length : (N : List Name) (E : List Axis) → Named N E → length N ≡ length E
named-length [] [] v = refl
named-length [] (a ∷ E) v = absurd v
named-length (n ∷ N) [] v = absurd v
named-length (n ∷ N) (a ∷ E) v = ap suc (named-length N E v.1)

-- every cell is one of an array of type t
abbrev pub EachOfKind : ℕ → List Cell → Type 0
EachOfKind t [] = Unit {0}
EachOfKind t (c ∷ cs) = OfKind t c × EachOfKind t cs

-- an array is valid in a version: INT, FLOAT or BOOLEAN; few enough axes, good names and limits, not too many cells; inside its
-- maximum, which has as many axes; a name for each axis, none too long; and as many cells as its extent says, each of its type
pub record Valid (z : Sizes) (A : Array) : Type 0 where
  pub type : is_type A.shape.type ≡ true
  pub rank : between 1 z.axes (length A.shape.axes) ≡ true
  pub short : names_fit z A.shape.names ≡ true
  pub extent : good_extent A.shape.names A.shape.axes ≡ true
  pub in_maximum : within A.shape.axes A.shape.maximum ≡ true
  pub names : Named A.shape.names A.shape.axes
  pub full : length A.cells ≡ cells A.shape.axes
  pub kinds : EachOfKind A.shape.type A.cells

-- each array is valid
abbrev pub EachValid : Sizes → List Array → Type 0
EachValid z [] = Unit {0}
EachValid z (A ∷ As) = Valid z A × EachValid z As

-- a list of arrays is valid: 1 to most_arrays, each valid
pub record AllValid (z : Sizes) (As : List Array) : Type 0 where
  pub count : between 1 most_arrays (length As) ≡ true
  pub each : EachValid z As

-- ---- what packing takes: types, extents and maxima, and all cells in one buffer

-- the arrays' shapes
abbrev pub shapes : List Array → List Shape
shapes As = map (λ A. A.shape) As

-- the bytes of their cells, in turn
abbrev pub all_cells : List Array → List ℕ
all_cells As = concat (map (λ A. cells_bytes A.cells) As)
