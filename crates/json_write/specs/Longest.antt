-- The longest text: an array that was read is valid, so no cell takes over 20 bytes; on d axes n cells take at most 10 + n * (19 + 2d)
-- bytes. So a buffer of 126,986 bytes holds every text, and one text needs all of them.
use Prim.Native.String.{String}
use Rattle.std.specs.Prelude.{ℕ, zero, suc, ◌+◌, ◌*◌, ◌≤◌, ◌≡◌, refl, true, false, List, [], ◌∷◌, map, eqb, ℤ, pos, negsuc, length, get_or, Ok}
use Rattle.std.proofs.Common.{sym, ap, ◌∙◌, arith, suc-mul, mul-le-mul_left, mul-le-mul_right, le-leb, SFits}
use Rattle.std.specs.Int.{w64}
use Rattle.paper.specs.declared.Name.{Name}
use Rattle.paper.specs.declared.Version.{Version}
use Rattle.paper.specs.declared.Axis.{Axis}
use Rattle.paper.specs.declared.Cell.{Cell}
use Rattle.paper.specs.declared.Cell.TheVariants.{Empty, Int}
use Rattle.paper.specs.Bundle.{version_in}
use Rattle.paper.specs.Limits.{FLOAT, most_axes, most_cells, smallest_int, sizes_of}
use Rattle.paper.specs.Numbers.{from}
use Rattle.paper.specs.Axes.{cells, good_extent, Array}
use Rattle.paper.specs.Reference.{chosen}
use Rattle.paper.specs.Rests.{digits, decimal}
use Rattle.paper.specs.Json.{cell_text, json_text, written}
use Rattle.paper.specs.Opened.{opened}
use Rattle.paper.specs.Written.{Given, axes_in, axis}
use Rattle.laws.specs.Numbers.{Bytes}
use Rattle.laws.specs.Cells.{OfKind}
use Rattle.laws.specs.Parts.{fit_parts}
use Rattle.laws.specs.Limits.{Sound, extent-true}
use Rattle.decimal.specs.Digits.{digits-most, digits-fewer}
use Rattle.roundtrip.specs.Valid.{EachOfKind, Valid}
use Rattle.json_write.specs.Lengths.{marks, marks-most, cells_long, long-most, cell-most, json-long}
use Rattle.json_write.specs.Whole.{chosen-valid, its-axes}

-- ---- a cell

int-most : (z : ℤ) → SFits w64 z → length (decimal z) ≤ 20
unfolding decimal
int-most (pos x) f = digits-most 19 x
int-most (negsuc x) f = omega (arith, digits-fewer (suc x) (omega (arith, (fit_parts f).1)))

each-most : (t : ℕ) (cs : List Cell) → EachOfKind t cs → (k : ℕ) → length (cell_text (get_or cs k Empty)) ≤ 20
unfolding cell_text OfKind
each-most t [] h k = omega arith
each-most t (c ∷ cs) h zero = cell-most c (omega arith) (λ z e. int-most z (rw e at h.0).1)
each-most t (c ∷ cs) h (suc k) = each-most t cs h.1 k

-- ---- an array

-- cells by their index
from_suc : (g : ℕ → Cell) (i n : ℕ) → map g (from (suc i) n) ≡ map (λ k. g (suc k)) (from i n)
unfolding from
from_suc g i zero = refl
from_suc g i (suc n) = ap (λ (l : List Cell). g (suc i) ∷ l) (from_suc g (suc i) n)

by_index : (cs : List Cell) → cs ≡ map (λ k. get_or cs k Empty) (from 0 (length cs))
unfolding from
by_index [] = refl
by_index (c ∷ cs) = ap (λ (l : List Cell). c ∷ l) (by_index cs ∙ sym (from_suc (λ k. get_or (c ∷ cs) k Empty) 0 (length cs)))

-- how long a text of n cells on d axes is at most
abbrev pub most_text : ℕ → ℕ → ℕ
most_text n d = 10 + n * (19 + 2 * d)

pub text-most : (u : Version) (A : Array) → Valid (sizes_of u) A
    → length (json_text A.shape.axes A.cells) ≤ most_text (cells A.shape.axes) (length A.shape.axes)
text-most u A v =
    let f : ℕ → Cell = λ k. get_or A.cells k Empty in
    let s : Sound A.shape.axes = (extent-true A.shape.names A.shape.axes v.extent).0 in
    let m = long-most f 20 (each-most A.shape.type A.cells v.kinds) (cells A.shape.axes) 0 in
    rw (by_index A.cells, v.full) (omega (arith, json-long f A.shape.axes s (its-axes u A v).0, marks-most A.shape.axes s, m))

-- ---- every text

-- the most cells, on the most axes
abbrev pub longest : ℕ
longest = most_text most_cells most_axes

pub longest-is : longest ≡ 126986
longest-is = refl

pub every-text : (bs : List ℕ) (k : ℕ) (A : Array) → Bytes bs → chosen bs k ≡ Ok A
    → length (json_text A.shape.axes A.cells) ≤ longest
every-text bs k A b e =
    let v = chosen-valid bs k A b e in
    let d : 19 + 2 * length A.shape.axes ≤ 19 + 2 * most_axes = omega (arith, its-axes (version_in bs) A v) in
    omega (
      arith,
      text-most (version_in bs) A v,
      mul-le-mul_left (cells A.shape.axes) d,
      mul-le-mul_right (19 + 2 * most_axes) (extent-true A.shape.names A.shape.axes v.extent).1,
    )

-- a buffer of that length is never refused with 14
pub never-14 : (bs : List ℕ) (k room : ℕ) (A : Array) → Bytes bs → chosen bs k ≡ Ok A → eqb A.shape.type FLOAT ≡ false → longest ≤ room
    → written bs k room ≡ Ok (json_text A.shape.axes A.cells)
unfolding written
never-14 bs k room A b e t h = rw (e, t, le-leb (length (json_text A.shape.axes A.cells)) room (omega (arith, every-text bs k A b e)))

-- and one text needs all of it: the smallest INT in each of 4,096 cells, on an axis of 4,096 positions and five of one
abbrev single : String → Given
single n = axis n (pos 1) (pos 1)

abbrev longest_given : List Given
longest_given = axis "a" (pos 1) (pos 4096) ∷ single "b" ∷ single "c" ∷ single "d" ∷ single "e" ∷ single "f" ∷ []

abbrev pub longest_names : List Name
longest_names = map (λ g. g.name) longest_given

abbrev pub longest_axes : List Axis
longest_axes = axes_in longest_given

pub longest-good : good_extent longest_names longest_axes ≡ true
unfolding opened
longest-good = refl

twenty : (n i : ℕ) → cells_long (λ k. Int smallest_int) i n ≡ n * 20
unfolding cells_long cell_text decimal digits
twenty zero i = refl
twenty (suc n) i = omega (arith, twenty n (i + 1), suc-mul n 20)

pub longest-met : length (json_text longest_axes (map (λ k. Int smallest_int) (from 0 (cells longest_axes)))) ≡ longest
unfolding opened marks
longest-met =
    let s : Sound longest_axes = (extent-true longest_names longest_axes longest-good).0 in
    json-long (λ k. Int smallest_int) longest_axes s (omega arith) ∙ rw (twenty (cells longest_axes) 0)
