-- The answers of the callable parts: a call answers a Result, what was got or the refusal, as the paper has it. Where the engine answers
-- with more (a struct, a byte place), the answer as the paper's values or its refusal, for every case.
use Rattle.std.specs.Prelude.{Result, ℕ, ◌+◌, ◌-◌, ◌*◌, ◌≡◌, List, [], ◌∷◌, ◌++◌, map, leb, take, length, replicate, if◌then◌else◌, Ok, Err}
use Rattle.paper.specs.declared.Sizes.{Sizes}
use Rattle.paper.specs.declared.Name.{Name}
use Rattle.paper.specs.declared.Axis.{Axis}
use Rattle.paper.specs.declared.Extent.{Extent}
use Rattle.paper.specs.declared.Form.{Form}
use Rattle.paper.specs.declared.Reading.{Reading}
use Rattle.paper.specs.declared.JsonRefusal.{JsonRefusal}
use Rattle.paper.specs.declared.JsonRefusal.TheVariants as Json
use Rattle.paper.specs.declared.Walk.{Walk}
use Rattle.paper.specs.Limits.{most_axes, type_bytes, cell_bytes}
use Rattle.paper.specs.Refusals.{Res, ◌>>=◌, refusal, not_json15, misfit16}
use Rattle.paper.specs.Axes.{no_name, cells, no_axis, Shape, Array, shaped}
use Rattle.paper.specs.Bundle.{mark_bytes, sizes_in, read_bundle}
use Rattle.paper.specs.Reference.{Walked}

-- ---- extents

-- as many axes as a count tells of; none where an array has no room for so many
abbrev pub axis_count : ℕ → ℕ
axis_count n = if leb n most_axes then n else 0

-- an extent's axes
unfoldable pub axes_of : Extent → List Axis
axes_of e = take (axis_count e.rank) e.axes

-- their names: as many of these
abbrev pub names_for : List Axis → List Name → List Name
names_for E N = take (length E) N

-- the extent that has these axes, and nothing past the last
abbrev pub extent_of : List Axis → Extent
extent_of E = record { rank = length E; axes = E ++ replicate (most_axes - length E) no_axis }

-- these names, and nothing past the last
abbrev pub names_of : List Name → List Name
names_of N = N ++ replicate (most_axes - length N) no_name

-- a form's type, names, extent and declared maximum
abbrev pub shape_of : Form → Shape
shape_of f =
    let E : List Axis = axes_of f.extent in
    shaped f.kind (names_for E f.names) E (axes_of f.maximum)

-- ---- reading: the arrays' shapes, and where their cells lie

-- of arrays, the first of which begins at byte i: each one's shape, and the byte at which its cells begin
unfoldable pub lying_from : Sizes → ℕ → List Array → List (Shape × ℕ)
lying_from z i [] = []
lying_from z i (A ∷ As) =
    let c : ℕ = i + (type_bytes + length A.shape.axes * z.axis) in
    (A.shape, c) ∷ lying_from z (c + cells A.shape.axes * cell_bytes) As

-- what reading a bundle answers
unfoldable pub reading : List ℕ → Res (List (Shape × ℕ))
reading bs = do
  As ← read_bundle bs
  Ok (lying_from (sizes_in bs) (mark_bytes + 1) As)

abbrev pub read_said : Res Reading → Res (List (Shape × ℕ))
read_said (Ok r) = Ok (map (λ h. (shape_of h.form, h.at)) (take r.count r.heads))
read_said (Err x) = Err x

-- ---- the other answers

abbrev pub json_said : Result ℕ JsonRefusal → Res ℕ
json_said (Ok n) = Ok n
json_said (Err (Json.NotJson i)) = Err (refusal not_json15 0 i)
json_said (Err (Json.Misfit i)) = Err (refusal misfit16 0 i)
json_said (Err (Json.Refused r)) = Err r

-- 15 and 16 are told by refusals of their own
abbrev pub json_exact : Result ℕ JsonRefusal → Type 0
json_exact (Ok n) = Unit {0}
json_exact (Err (Json.NotJson i)) = Unit {0}
json_exact (Err (Json.Misfit i)) = Unit {0}
json_exact (Err (Json.Refused r)) = (r.number ≡ not_json15 → ⊥) × (r.number ≡ misfit16 → ⊥)

abbrev pub walk_said : Walk → Walked
walk_said w = record { answer = w.answer; place = w.place.0 }
