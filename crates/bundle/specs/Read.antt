-- What the reader's structs mean: the paper's answer, from the struct and the bundle's bytes; and what later code leans on.
use Rattle.std.specs.Prelude.{ℕ, ◌+◌, ◌*◌, ◌≤◌, ◌<◌, ◌≡◌, true, ◌&&◌, List, map, length, take, drop, get_or, Ok, Err, Option, Some, None, IfOk}
use Rattle.paper.specs.declared.Sizes.{Sizes}
use Rattle.paper.specs.declared.Form.{Form}
use Rattle.paper.specs.declared.Head.{Head}
use Rattle.paper.specs.declared.Reading.{Reading}
use Rattle.paper.specs.declared.Refusal.{Refusal}
use Rattle.paper.specs.Limits.{most_arrays, most_cells, type_bytes, cell_bytes, sizes_of}
use Rattle.paper.specs.Refusals.{Res, ◌>>=◌, ◌>>◌, refusal, ensure, bad_bytes1}
use Rattle.paper.specs.Numbers.{none?}
use Rattle.paper.specs.Axes.{cells, good_extent, within, Shape, Array}
use Rattle.paper.specs.Bundle.{mark_bytes, version_in, array_of, read_array, read_arrays, read_as, read_bundle}
use Rattle.paper.specs.Answers.{shape_of, reading, read_said}
use Rattle.laws.specs.Judged.{first_bad, cells_from}
use Rattle.laws.specs.Answers.{form_of, head_of, no_head, reading_of}

-- the number of cells that a form has
abbrev pub cells_in : Form → ℕ
cells_in f = cells (shape_of f).axes

-- the array that a head names in a bundle's bytes
unfoldable pub array_at : List ℕ → Head → Array
array_at bs h = record { shape = shape_of h.form; cells = cells_from h.form.kind (cells_in h.form) (drop h.at bs) }

-- the head of a form whose n cells begin at byte `from`
abbrev pub head_at : Form → ℕ → ℕ → Head
head_at form from n = record { form = form; at = from; cells = n }

-- the byte after a head's cells
abbrev pub end_of : Head → ℕ
end_of h = h.at + h.cells * cell_bytes

-- what later code leans on: the extent is good and inside its maximum, its cells are counted, they lie in the bytes, and each is one
pub record Fit (bs : List ℕ) (h : Head) : Type 0 where
  pub good : let s : Shape = shape_of h.form in (good_extent s.names s.axes && within s.axes s.maximum) ≡ true
  pub counted : h.cells ≡ cells_in h.form
  pub few : h.cells ≤ most_cells
  pub fits : h.at + cells_in h.form * cell_bytes ≤ length bs
  pub clean : first_bad h.form.kind 1 (cells_in h.form) (drop h.at bs) ≡ 0

-- ---- one array

-- array k of a form, its cells from byte `from` on: its extent, its cell bytes and its cells judged; its n cells, or the refusal
abbrev pub JudgedArray : List ℕ → ℕ → Form → ℕ → Res ℕ → Type 0
JudgedArray bs k form from (Ok n) =
    let h : Head = head_at form from n in
    (Ok (array_at bs h, drop (end_of h) bs) ≡ array_of k (shape_of form) (drop from bs)) × Fit bs h
JudgedArray bs k form from (Err x) = Err x ≡ array_of k (shape_of form) (drop from bs)

-- the byte after the type, the axis count and the axes of an array that begins at `at` and has this form
abbrev pub cells_at : Sizes → ℕ → Form → ℕ
cells_at z at form = at + type_bytes + form.extent.rank * z.axis

-- the form of the array that begins at byte `at`: nothing stands past its last axis, its axis bytes are there, and the rest is left to do
pub record FormAt (z : Sizes) (bs : List ℕ) (at : ℕ) (form : Form) : Type 0 where
  pub tidy : form ≡ form_of (shape_of form)
  pub rank : form.extent.rank ≡ length (shape_of form).axes
  pub few : form.extent.rank ≤ z.axes
  pub room : cells_at z at form ≤ length bs
  pub rest : (k : ℕ) → array_of k (shape_of form) (drop (cells_at z at form) bs) ≡ read_array z k (drop at bs)

-- the same, or none where the bytes are bad
abbrev pub FormRead : Sizes → List ℕ → ℕ → Option Form → Type 0
FormRead z bs at (Some form) = FormAt z bs at form
FormRead z bs at None = (k : ℕ) → Err (refusal bad_bytes1 k 0) ≡ read_array z k (drop at bs)

-- the number of axes that a head has
abbrev pub axes_in : Head → ℕ
axes_in h = length (shape_of h.form).axes

-- the head is the one of a shape and a byte: nothing stands past its last axis
abbrev pub TidyHead : Head → Type 0
TidyHead h = h ≡ head_of (shape_of h.form, h.at)

-- array k was read from byte `at` on: its cells begin after its type, its axis count and its axes
pub record ReadArray (z : Sizes) (bs : List ℕ) (at k : ℕ) (h : Head) : Type 0 where
  pub said : read_array z k (drop at bs) ≡ Ok (array_at bs h, drop (end_of h) bs)
  pub fit : Fit bs h
  pub tidy : TidyHead h
  pub begins : h.at ≡ at + (type_bytes + axes_in h * z.axis)
  pub rank : axes_in h ≤ z.axes

-- ---- the bundle

-- n arrays after the opening bytes, and nothing after them
abbrev pub read_rest : Sizes → ℕ → List ℕ → Res (List Array)
read_rest z n bs = read_arrays z 1 n (drop (mark_bytes + 1) bs) >>= (λ p. ensure (none? p.1) bad_bytes1 0 >> Ok p.0)

-- the opening bytes are good and tell of n arrays, which are left to do
pub record Begun (z : Sizes) (bs : List ℕ) (n : ℕ) : Type 0 where
  pub few : n ≤ most_arrays
  pub long : mark_bytes + 1 ≤ length bs
  pub rest : read_as z bs ≡ read_rest z n bs

-- the same, or none where they are bad
abbrev pub Opened : Sizes → List ℕ → Option ℕ → Type 0
Opened z bs (Some n) = Begun z bs n
Opened z bs None = Err (refusal bad_bytes1 0 0) ≡ read_as z bs

-- the first n heads fit
abbrev pub AllFit : List ℕ → ℕ → List Head → Type 0
AllFit bs n l = (j : ℕ) → j < n → Fit bs (get_or l j no_head)

-- none has more axes than the version's arrays have
abbrev pub AllRanked : Sizes → ℕ → List Head → Type 0
AllRanked z n l = (j : ℕ) → j < n → axes_in (get_or l j no_head) ≤ z.axes

-- the arrays that a reading names in a bundle's bytes, or the refusal
abbrev pub read_of : List ℕ → Res Reading → Res (List Array)
read_of bs (Ok r) = Ok (map (array_at bs) (take r.count r.heads))
read_of bs (Err x) = Err x

-- what later code leans on, of a reading
pub record Kept (bs : List ℕ) (r : Reading) : Type 0 where
  pub version : r.version ≡ version_in bs
  pub room : r.count ≤ length r.heads
  pub few : r.count ≤ most_arrays
  pub fit : AllFit bs r.count r.heads
  pub ranks : AllRanked (sizes_of r.version) r.count r.heads

-- a bundle read: what is said, with nothing past the last; the arrays; and what later code leans on
pub record ReadAll (bs : List ℕ) (r : Res Reading) : Type 0 where
  pub said : read_said r ≡ reading bs
  pub tidy : r ≡ reading_of (version_in bs) (read_said r)
  pub arrays : read_of bs r ≡ read_bundle bs
  pub kept : IfOk r (Kept bs)
