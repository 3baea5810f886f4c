-- What is asked by numbers and bytes, as the paper's own questions: heads of arrays, a coordinate, a walking place, a total's number.
use Rattle.std.specs.Prelude.{ℕ, zero, suc, ◌*◌, ◌/◌, ◌%◌, ◌&&◌, List, [], ◌∷◌, eqb, leb, take, drop, length, get_or, ℤ, if◌then◌else◌, None, Some, Ok, Err}
use Rattle.paper.specs.declared.Sizes.{Sizes}
use Rattle.paper.specs.declared.Part.{Part}
use Rattle.paper.specs.declared.Total.{Total}
use Rattle.paper.specs.declared.Total.TheVariants.{Filled, Trues, Smallest, Largest, Sum, Average}
use Rattle.paper.specs.declared.Totalled.{Totalled}
use Rattle.paper.specs.Limits.{most_arrays, most_axes, limit_bytes, type_bytes}
use Rattle.paper.specs.Refusals.{Res, ◌>>=◌, refusal, unknown4}
use Rattle.paper.specs.Numbers.{le_of, le_bytes, signed_at, nth, over}
use Rattle.paper.specs.Axes.{Shape, shaped}
use Rattle.paper.specs.Bundle.{version_told, name_of, axis_of, maximum_of, each_axis, read_bundle, packed, After, put_into}
use Rattle.paper.specs.Stretch.{Side, stretch_in}
use Rattle.paper.specs.Reference.{chosen}
use Rattle.paper.specs.Totals.{totals}
use Rattle.pack.specs.Heads.{head_length}

-- ---- pieces of one size

-- how many of them n bytes are; none where they are no whole pieces or too many
abbrev pub pieces : ℕ → ℕ → ℕ → ℕ
pieces most size n = if eqb (n % size) 0 && leb n (most * size) then n / size else 0

-- what n of them tell, one after the other
unfoldable pub each_piece : {A : Type 0} → (List ℕ → A) → ℕ → ℕ → List ℕ → List A
each_piece one size zero bs = []
each_piece one size (suc n) bs = one bs ∷ each_piece one size n (drop size bs)

-- ---- a bundle read

-- how many arrays it has
unfoldable pub count_of : List ℕ → Res ℕ
count_of bundle = do
  As ← read_bundle bundle
  Ok (length As)

-- ---- heads: type, axis count, and room for as many axes as the version's arrays may have

-- as many axes as the count tells of; none where the version has no room for so many
abbrev pub head_count : Sizes → ℕ → ℕ
head_count z n = if leb n z.axes then n else 0

-- the shape that the first bytes describe
unfoldable pub shape_in : Sizes → List ℕ → Shape
shape_in z bs =
    let n : ℕ = head_count z (get_or bs 1 0) in
    let axes : List ℕ = drop type_bytes bs in
    shaped (get_or bs 0 0) (each_axis z (name_of z) n axes) (each_axis z (axis_of z) n axes) (each_axis z (maximum_of z) n axes)

-- heads, one after the other; bytes of another length are no heads
abbrev pub heads_in : Sizes → List ℕ → List Shape
heads_in z bs = each_piece (shape_in z) (head_length z) (pieces most_arrays (head_length z) (length bs)) bs

-- packing arrays of these heads, in the version told
abbrev pub pack_heads : ℕ → List ℕ → List ℕ → List ℕ → After
pack_heads v heads cells out = put_into out (version_told v >>= (λ z. packed z (heads_in z heads) cells (length out)))

-- a side's shape: a head of another length has no type and no axis
abbrev pub side_shape : Sizes → List ℕ → Shape
side_shape z head = if eqb (length head) (head_length z) then shape_in z head else shaped 0 [] [] []

-- a side of a stretch, from its head and its cells
abbrev pub side_in : Sizes → List ℕ → List ℕ → Side
side_in z head cells =
    record { type = (side_shape z head).type; names = (side_shape z head).names; axes = (side_shape z head).axes; bytes = cells }

-- the stretch of two such sides, in the version told
abbrev pub stretch_heads : ℕ → List ℕ → List ℕ → List ℕ → List ℕ → ℕ → ℕ → Res Part
stretch_heads v left_head left right_head right k o =
    version_told v >>= (λ z. stretch_in z (side_in z left_head left) (side_in z right_head right) k o)

-- ---- a coordinate

-- four bytes an axis, a signed number; bytes of another length are a coordinate of no numbers
abbrev pub coordinate_in : List ℕ → List ℤ
coordinate_in bs = each_piece (signed_at 0) limit_bytes (pieces most_axes limit_bytes (length bs)) bs

-- ---- a walking place, in the first four bytes

-- fewer bytes are place 0, which is outside
abbrev pub place_in : List ℕ → ℕ
place_in bs = if leb limit_bytes (length bs) then le_of (take limit_bytes bs) else 0

-- and stay as they are
abbrev pub place_after : ℕ → List ℕ → List ℕ
place_after o bs = if leb limit_bytes (length bs) then over (le_bytes limit_bytes o) bs else bs

-- ---- a total by its number

abbrev pub all_totals : List Total
all_totals = Filled ∷ Trues ∷ Smallest ∷ Largest ∷ Sum ∷ Average ∷ []

-- no total has that number: 4, as for an unknown operator
unfoldable pub no_total : List ℕ → ℕ → Res Totalled
no_total bundle k = do
  A ← chosen bundle k
  Err (refusal unknown4 k 0)

unfoldable pub total_asked : List ℕ → ℕ → ℕ → Res Totalled
total_asked bundle k which = elim (nth all_totals which) [ None ↦ no_total bundle k | Some t ↦ totals bundle k t ]
