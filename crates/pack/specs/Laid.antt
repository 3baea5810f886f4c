-- Forms whose cells stand one after the other in a buffer: what it is that each was judged good, the bytes that the bundle then has, and
-- that packing gives these bytes.
use Rattle.std.specs.Prelude.{ℕ, zero, suc, ◌+◌, ◌*◌, ◌≤◌, ◌<◌, ◌≡◌, refl, false, ◌&&◌, List, [], ◌∷◌, ◌++◌, map, drop, replicate, if◌then◌else◌, Option, None, Some, Ok, Err, is_some}
use Rattle.std.proofs.Common.{sym, ap, ◌∙◌, arith, length-append, length-take, length-drop, take-add}
use Rattle.std.proofs.Math.Bool.{true}
use borrow.Author.Tests.{le-leb}
use Rattle.std.proofs.Math.Dec.{leb}
use Rattle.std.proofs.Math.ListN.{length, take}
use Rattle.std.proofs.lemmas.List.{length-map, length-replicate, take-append-le}
use Rattle.std.proofs.Math.Seq.{length-take-le}
use Rattle.paper.specs.declared.Sizes.{Sizes}
use Rattle.paper.specs.declared.Name.{Name}
use Rattle.paper.specs.declared.Axis.{Axis}
use Rattle.paper.specs.declared.Cell.{Cell}
use Rattle.paper.specs.declared.Form.{Form}
use Rattle.paper.specs.Limits.{most_arrays, most_axes, most_cells, half_name, limits_bytes, type_bytes, cell_bytes}
use Rattle.paper.specs.Refusals.{◌>>◌, refusal, ensure, between, bad_bytes1, small_output14}
use Rattle.paper.specs.Numbers.{concat, none?}
use Rattle.paper.specs.Axes.{good_extent, axis_within, within, Shape, Array}
use Rattle.paper.specs.Cells.{is_type, cell_of, cells_bytes}
use Rattle.paper.specs.Bundle.{mark, names_fit, array_of, pack_array, axes_bytes, array_bytes, bundle_bytes, pack_arrays, packed}
use Rattle.paper.specs.Answers.{axes_of, shape_of}
use Rattle.laws.specs.Answers.{no_head}
use Rattle.laws.specs.Cells.{bytes_back}
use Rattle.laws.specs.Judged.{or_empty, first_bad, cells_from, cells-judged}
use Rattle.laws.specs.Numbers.{Bytes, bytes_take, bytes_drop}
use Rattle.laws.specs.Sizes.{Fits}
use Rattle.laws.specs.Tests.{and_left, and_right}
use Rattle.extent.specs.Judged.{Small, good-small}
use Rattle.laws.specs.Alike.{alike-length}
use Rattle.bundle.specs.Read.{cells_in}
use Rattle.pack.specs.Put.{axes-length}

-- ---- the shapes that are packed: `count` of them, so that a count out of range is one of the list

abbrev pub no_form : Form
no_form = no_head.form

abbrev pub shapes_of : ℕ → List Form → List Shape
shapes_of count forms = map shape_of (take count (forms ++ replicate count no_form))

pub shapes-length : (count : ℕ) (forms : List Form) → length (shapes_of count forms) ≡ count
shapes-length count forms = simp (length-map, length-take, length-append, length-replicate) (omega arith)

pub shapes-few : (count : ℕ) (forms : List Form) → count ≤ length forms → shapes_of count forms ≡ map shape_of (take count forms)
shapes-few count forms h = ap (map shape_of) (take-append-le count forms (replicate count no_form) h)

-- ---- one form

-- the number of its cells' bytes
abbrev pub cell_room : Form → ℕ
cell_room f = cells_in f * cell_bytes

-- its bytes in the bundle, its cells' being the first of bs
abbrev pub form_bytes : Sizes → Form → List ℕ → List ℕ
form_bytes z f bs =
    let s : Shape = shape_of f in
    s.type ∷ length s.axes ∷ (axes_bytes z s.names s.axes s.maximum ++ take (cell_room f) bs)

-- the most bytes that an array has, in any version
abbrev pub most_bytes : ℕ
most_bytes = type_bytes + most_axes * (2 * half_name + limits_bytes) + most_cells * cell_bytes

-- every test of it passed, and it has a name for each axis
pub record FormPassed (z : Sizes) (f : Form) (bs : List ℕ) : Type 0 where
  pub type : is_type f.kind ≡ true
  pub rank : between 1 z.axes (length (axes_of f.extent)) ≡ true
  pub short : names_fit z (shape_of f).names ≡ true
  pub good : (good_extent (shape_of f).names (shape_of f).axes && within (shape_of f).axes (shape_of f).maximum) ≡ true
  pub named : length (shape_of f).names ≡ length (shape_of f).axes
  pub fits : cell_room f ≤ length bs
  pub clean : first_bad f.kind 1 (cells_in f) bs ≡ 0

pub within-alike : (E M : List Axis) → within E M ≡ true → length M ≡ length E
within-alike E M e = sym (alike-length axis_within E M e)

-- cells judged, written again, are their bytes
first_one : (c : Option Cell) (x o : ℕ) → 0 < o → (if is_some c then x else o) ≡ 0 → (c ≡ Some (or_empty c)) × (x ≡ 0)
first_one None x o p e = absurd (omega arith)
first_one (Some c) x o p e = (refl, e)

cells-written : (n t o : ℕ) (bs : List ℕ) → 0 < o → n * cell_bytes ≤ length bs → Bytes bs → first_bad t o n bs ≡ 0
    → cells_bytes (cells_from t n bs) ≡ take (n * cell_bytes) bs
unfolding first_bad cells_from concat
cells-written zero t o bs p l h e = refl
cells-written (suc n) t o bs p l h e =
    let f = first_one (cell_of t (take cell_bytes bs)) _ o p e in
    let s : length (take cell_bytes bs) ≡ cell_bytes = omega (arith, length-take cell_bytes bs) in
    let w : suc n * cell_bytes ≡ cell_bytes + n * cell_bytes = omega arith in
    let d = bytes_drop cell_bytes bs h in
    let i = cells-written n t (o + 1) (drop cell_bytes bs) (omega arith) (omega (arith, length-drop cell_bytes bs)) d f.1 in
    rw (w, take-add cell_bytes (n * cell_bytes) bs, bytes_back t (take cell_bytes bs) _ s (bytes_take cell_bytes bs h) f.0, i)

-- the array that it is
unfoldable pub array_in : Form → List ℕ → Array
array_in f bs = record { shape = shape_of f; cells = cells_from f.kind (cells_in f) bs }

module _ {z : Sizes} (fits : Fits z) {f : Form} {bs : List ℕ} (v : FormPassed z f bs) where
  abbrev N : List Name
  N = (shape_of f).names

  abbrev E : List Axis
  E = axes_of f.extent

  abbrev M : List Axis
  M = axes_of f.maximum

  pub ready-alike : length M ≡ length E
  ready-alike = within-alike E M (and_right (good_extent N E) (within E M) v.good)

  pub ready-small : Small E
  ready-small = good-small N E (and_left (good_extent N E) (within E M) v.good)

  pub ready-long : length (form_bytes z f bs) ≡ type_bytes + length E * z.axis + cell_room f
  ready-long =
      simp (length-append, length-take) (omega (arith, axes-length z fits N E M v.named ready-alike, v.fits))

  pub ready-packed : (k : ℕ) → pack_array z k (shape_of f) bs ≡ Ok (array_in f bs, drop (cell_room f) bs)
  unfolding pack_array array_of array_in
  ready-packed k =
      let l : leb (cell_room f) (length bs) ≡ true = le-leb (cell_room f) (length bs) v.fits in
      rw (v.type, v.rank, v.short, v.good, l, cells-judged (cells_in f) k f.kind 1 bs (omega arith), v.clean)

  ready-bytes : Bytes bs → array_bytes z (array_in f bs) ≡ form_bytes z f bs
  unfolding array_bytes array_in
  ready-bytes h = rw (cells-written (cells_in f) f.kind 1 bs (omega arith) v.fits h v.clean)

-- ---- forms, one after the other

abbrev pub AllReady : Sizes → List Form → List ℕ → Type 0
AllReady z [] bs = Unit {0}
AllReady z (f ∷ fs) bs = FormPassed z f bs × AllReady z fs (drop (cell_room f) bs)

-- their bytes in the bundle
unfoldable pub laid_bytes : Sizes → List Form → List ℕ → List ℕ
laid_bytes z [] bs = []
laid_bytes z (f ∷ fs) bs = form_bytes z f bs ++ laid_bytes z fs (drop (cell_room f) bs)

-- and what is left of bs
unfoldable pub rest_of : List Form → List ℕ → List ℕ
rest_of [] bs = bs
rest_of (f ∷ fs) bs = rest_of fs (drop (cell_room f) bs)

unfoldable arrays_in : List Form → List ℕ → List Array
arrays_in [] bs = []
arrays_in (f ∷ fs) bs = array_in f bs ∷ arrays_in fs (drop (cell_room f) bs)

arrays-count : (fs : List Form) (bs : List ℕ) → length (arrays_in fs bs) ≡ length fs
unfolding arrays_in
arrays-count [] bs = refl
arrays-count (f ∷ fs) bs = ap suc (arrays-count fs (drop (cell_room f) bs))

arrays-packed : (z : Sizes) → Fits z → (fs : List Form) (k : ℕ) (bs : List ℕ) → AllReady z fs bs
    → pack_arrays z k (map shape_of fs) bs ≡ Ok (arrays_in fs bs, rest_of fs bs)
unfolding pack_arrays arrays_in rest_of
arrays-packed z p [] k bs v = refl
arrays-packed z p (f ∷ fs) k bs v = rw (ready-packed p v.0 k, arrays-packed z p fs (k + 1) (drop (cell_room f) bs) v.1)

arrays-bytes : (z : Sizes) → Fits z → (fs : List Form) (bs : List ℕ) → AllReady z fs bs → Bytes bs
    → concat (map (array_bytes z) (arrays_in fs bs)) ≡ laid_bytes z fs bs
unfolding concat arrays_in laid_bytes
arrays-bytes z p [] bs v h = refl
arrays-bytes z p (f ∷ fs) bs v h =
    rw (ready-bytes p v.0 h, arrays-bytes z p fs (drop (cell_room f) bs) v.1 (bytes_drop (cell_room f) bs h))

-- ---- the bundle

-- the bytes of a bundle of these forms
abbrev pub bundle_of : Sizes → ℕ → List Form → List ℕ → List ℕ
bundle_of z count fs bs = mark z ++ (count ∷ laid_bytes z fs bs)

module _ (z : Sizes) (p : Fits z) (count : ℕ) (forms : List Form) (bs : List ℕ) (room : ℕ) (h : count ≤ length forms)
    (b : between 1 most_arrays count ≡ true)
    (v : AllReady z (take count forms) bs) where
  -- every form passed its tests, and cell bytes are left over
  pub packed-left : none? (rest_of (take count forms) bs) ≡ false → packed z (shapes_of count forms) bs room ≡ Err (refusal bad_bytes1 0 0)
  unfolding packed
  packed-left e = rw (shapes-length count forms, b, shapes-few count forms h, arrays-packed z p (take count forms) 1 bs v, e)

  -- none are left over: the bundle, where there is room for it
  pub packed-ready : rest_of (take count forms) bs ≡ [] → Bytes bs
      → packed z (shapes_of count forms) bs room
      ≡ (ensure (leb (length (bundle_of z count (take count forms) bs)) room) small_output14 0 >> Ok
      (bundle_of z count (take count forms) bs))
  unfolding packed bundle_bytes
  packed-ready e g =
      let fs = take count forms in
      let n : length (arrays_in (take count forms) bs) ≡ count = arrays-count fs bs ∙ length-take-le count forms h in
      rw (shapes-length count forms, b, shapes-few count forms h, arrays-packed z p fs 1 bs v, e, arrays-bytes z p fs bs v g, n)
