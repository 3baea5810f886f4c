-- The answers of the callable parts: two answers with the same figures are equal, so that a promise about the figures fixes the answer.
-- A reading is a struct with room for the most arrays and axes: it is fixed where nothing stands past the last of each.
use Rattle.std.specs.Prelude.{ℕ, ◌-◌, ◌≤◌, ◌≡◌, refl, Bool, true, false, List, [], ◌++◌, map, leb, length, replicate, if◌then◌else◌, Ok, Err}
use Rattle.std.proofs.Common.{ap, ◌∙◌, arith, le-leb, leb-true, length-take, take_at}
use Rattle.paper.specs.declared.Version.{Version}
use Rattle.paper.specs.declared.Name.{Name}
use Rattle.paper.specs.declared.Axis.{Axis}
use Rattle.paper.specs.declared.Extent.{Extent}
use Rattle.paper.specs.declared.Form.{Form}
use Rattle.paper.specs.declared.Head.{Head}
use Rattle.paper.specs.declared.Reading.{Reading}
use Rattle.paper.specs.Limits.{most_axes, most_arrays}
use Rattle.paper.specs.Refusals.{Res}
use Rattle.paper.specs.Axes.{no_name, cells, no_axis, Shape, shaped}
use Rattle.paper.specs.Answers.{axis_count, axes_of, names_for, extent_of, names_of, shape_of}

-- ---- extents and readings

pub count-few : (n : ℕ) → axis_count n ≤ most_axes
count-few n = by (leb n most_axes) refl
  where
    by : (b : Bool) → leb n most_axes ≡ b → (if b then n else 0) ≤ most_axes
    by true q = leb-true n most_axes q
    by false q = omega arith

-- an extent has its own axes, where there is room for them
pub extent-axes : (E : List Axis) → length E ≤ most_axes → axes_of (extent_of E) ≡ E
unfolding axes_of
extent-axes E h = rw (le-leb (length E) most_axes h) (take_at E (replicate (most_axes - length E) no_axis) (length E) refl)

-- and never more than there is room for
pub axes-few : (e : Extent) → length (axes_of e) ≤ most_axes
unfolding axes_of
axes-few e = omega (arith, length-take (axis_count e.rank) e.axes, count-few e.rank)

-- nothing stands past the last axis
abbrev pub TidyExtent : Extent → Type 0
TidyExtent e = e ≡ extent_of (axes_of e)

-- the form of a shape, and the head and the reading that say what was read, with nothing past the last
abbrev pub form_of : Shape → Form
form_of s = record { kind = s.type; names = names_of s.names; extent = extent_of s.axes; maximum = extent_of s.maximum }

-- of the names with nothing past the last the first are these
pub names-first : (N : List Name) (E : List Axis) → length N ≡ length E → names_for E (names_of N) ≡ N
names-first N E h = take_at N (replicate (most_axes - length N) no_name) (length E) h

pub form-shape : (s : Shape) → length s.names ≡ length s.axes → length s.axes ≤ most_axes → length s.maximum ≤ most_axes
    → shape_of (form_of s) ≡ s
form-shape s n h k =
    let p = extent-axes s.axes h in
    let q = extent-axes s.maximum k in
    let m : names_for (axes_of (extent_of s.axes)) (names_of s.names) ≡ s.names =
    ap (λ (E : List Axis). names_for E (names_of s.names)) p ∙ names-first s.names s.axes n in
    λ i. record { type = s.type; names = m i; axes = p i; maximum = q i }

abbrev pub head_of : Shape × ℕ → Head
head_of x = record { form = form_of x.0; at = x.1; cells = cells x.0.axes }

-- of no array, with no cell
abbrev pub no_head : Head
no_head = record { form = form_of (shaped 0 [] [] []); at = 0; cells = 0 }

-- a refusal stands alone: the version is then no matter
abbrev pub reading_of : Version → Res (List (Shape × ℕ)) → Res Reading
reading_of v (Ok l) = Ok (record { version = v; count = length l; heads = map head_of l ++ replicate (most_arrays - length l) no_head })
reading_of v (Err x) = Err x
