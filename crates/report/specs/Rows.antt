-- The lines of rows that stand one after the other in the row buffer. The loop keeps it true that whatever writes the lines left
-- completes them all. Where the bytes are a listing's rows, the lines are its text.
use Prim.Native.Nat.{ℕ, zero, suc, ◌+◌, ◌-◌, ◌*◌, ◌^◌, ◌≤◌, ◌<◌}
use Rattle.std.specs.Prelude.{◌≡◌, refl, ℤ, pos, drop}
use Rattle.std.proofs.Math.Path.{sym}
use Rattle.std.proofs.Common.{ap, ap₂, ◌∙◌, mul-le-mul_right, length-append, drop_at, drop-drop}
use mathlib.Core.List.{List, [], ◌∷◌, ◌++◌, map, append_assoc, append-nil}
use native.Mathlib.Omega.{arith}
use Rattle.std.proofs.Math.ListN.{length}
use Rattle.std.proofs.lemmas.List.{length-map}
use Rattle.paper.specs.Limits.{limit_bytes, most_axes, most_cells}
use Rattle.paper.specs.Numbers.{le_of, text, part, position, concat}
use Rattle.paper.specs.Axes.{cells, Shape}
use Rattle.paper.specs.Listing.{row}
use Rattle.paper.specs.Rests.{decimal, spaced, row_text}
use Rattle.laws.specs.Put.{put-none}
use Rattle.laws.specs.Limits.{Sound}
use Rattle.laws.specs.Rows.{rows_of, length-rows}
use Rattle.decimal.specs.Wrote.{Wrote, wrote_then, wrote-long}
use Rattle.decimal.specs.Digits.{decimal-most}
use Rattle.decimal.specs.Lines.{number, most_spaced, most_found, found_line}
use Rattle.decimal.specs.Rows.{positions_from, line_at, most_row, row_line}

-- the bytes of a row of n positions
abbrev pub size_of : ℕ → ℕ
size_of n = limit_bytes + n * limit_bytes

-- the lines of n rows of k positions each, the first of which stands at byte `from`
unfoldable pub lines_at : List ℕ → ℕ → ℕ → ℕ → List ℕ
lines_at bs from k zero = []
lines_at bs from k (suc n) = line_at bs from k ++ lines_at bs (from + size_of k) k n

-- the first line, and those of n rows
abbrev pub listing_at : List ℕ → ℕ → ℕ → List ℕ
listing_at bs k n = found_line n ++ lines_at bs 0 k n

-- ---- how many bytes a line takes at most

spaced-most : (zs : List ℤ) → length (spaced zs) ≤ length zs * most_spaced
unfolding spaced concat
spaced-most [] = omega arith
spaced-most (z ∷ zs) = omega (arith, length-append (number z) (spaced zs), decimal-most z, spaced-most zs)

positions-count : (n i : ℕ) (bs : List ℕ) → length (positions_from n i bs) ≡ n
unfolding positions_from
positions-count zero i bs = refl
positions-count (suc n) i bs = ap suc (positions-count n (i + limit_bytes) bs)

pub line-most : (bs : List ℕ) (from n : ℕ) → length (line_at bs from n) ≤ most_row n
line-most bs from n =
    let o : ℤ = pos (le_of (part from limit_bytes bs)) in
    let zs : List ℤ = map position (positions_from n (from + limit_bytes) bs) in
    let c : length zs ≡ n = length-map (positions_from n (from + limit_bytes) bs) position ∙ positions-count n (from + limit_bytes) bs in
    omega (arith, length-append (decimal o) (spaced zs ++ text "\n"), length-append (spaced zs) (text "\n"), decimal-most o, spaced-most zs)

pub found-most : (n : ℕ) → length (found_line n) ≤ most_found
found-most n =
    let zs : List ℤ = pos n ∷ [] in
    omega (arith, length-append (text "found") (spaced zs ++ text "\n"), length-append (spaced zs) (text "\n"), spaced-most zs)

-- ---- the loop over the rows

-- the row of index i of n rows of s bytes
pub row_room : (i n s l : ℕ) → i < n → n * s ≤ l → i * s + s ≤ l
row_room i n s l h b =
    let e : suc i * s ≡ i * s + s = omega arith in
    let m : suc i * s ≤ n * s = mul-le-mul_right s h in
    omega arith

-- of n rows of k positions, i are written, up to byte `end`
pub record LinesPut (bs : List ℕ) (k n : ℕ) (d₀ : List ℕ) (at : ℕ) (d : List ℕ) (end i : ℕ) : Type 0 where
  pub turns : i ≤ n
  pub long : length d ≡ length d₀
  pub room : end + (n - i) * most_row most_axes ≤ length d
  pub left : (r : ℕ) (y : List ℕ) → Wrote d end (lines_at bs (i * size_of k) k (n - i)) r y → Wrote d₀ at (lines_at bs 0 k n) r y

module _ (bs : List ℕ) (k n : ℕ) (d₀ : List ℕ) (at : ℕ) where
  pub lines-begin : at + n * most_row most_axes ≤ length d₀ → LinesPut bs k n d₀ at d₀ at 0
  lines-begin h =
      let e : 0 * size_of k ≡ 0 = omega arith in
      let f : n - 0 ≡ n = omega arith in
      record { turns = omega arith; long = refl; room = omega arith; left = λ r y w. (rw (e, f) at w) }

  module _ (d : List ℕ) (end i : ℕ) (v : LinesPut bs k n d₀ at d end i) where
    pub lines_more : k ≤ most_axes → i < n → (m : ℕ) (y : List ℕ) → Wrote d end (line_at bs (i * size_of k) k) m y
        → LinesPut bs k n d₀ at y m (i + 1)
    unfolding lines_at
    lines_more b h m y w =
        let x : List ℕ = line_at bs (i * size_of k) k in
        let c = line-most bs (i * size_of k) k in
        let g : end + length x ≤ length d = omega (arith, v.room) in
        let s : n - i ≡ suc (n - (i + 1)) = omega arith in
        let t : i * size_of k + size_of k ≡ (i + 1) * size_of k = omega arith in
        let l = wrote-long d end x m y g w in
        record {
          turns = omega arith;
          long = l ∙ v.long;
          room = omega (arith, w.0, v.room);
          left = λ r u q. v.left r u (rw s (wrote_then d end x m y _ r u g w (rw t q)));
        }

    pub lines_end : n ≤ i → Wrote d₀ at (lines_at bs 0 k n) end d
    unfolding lines_at
    lines_end h =
        let s : n - i ≡ 0 = omega arith in
        let z : end ≡ end + 0 = omega arith in
        v.left end d (rw s (z, sym (put-none d end)))

-- ---- bytes that are a listing's rows

-- each from lo up to hi
abbrev pub Between : ℕ → ℕ → List ℕ → Type 0
Between lo hi [] = Unit {0}
Between lo hi (o ∷ os) = (lo ≤ o) × (o ≤ hi) × Between lo hi os

row-long : (s : Shape) (o : ℕ) → length (row s o) ≡ size_of (length s.axes)
unfolding concat
row-long s o = omega (arith, ap length (append-nil (row s o)), length-rows s (o ∷ []))

pub rows-lines : (s : Shape) (os bs : List ℕ) (from : ℕ) (z : List ℕ) → Sound s.axes → cells s.axes ≤ most_cells
    → Between 1 (cells s.axes) os → drop from bs ≡ rows_of s os ++ z
    → lines_at bs from (length s.axes) (length os) ≡ concat (map (row_text s) os)
unfolding lines_at concat
rows-lines s [] bs from z g c b e = refl
rows-lines s (o ∷ os) bs from z g c b e =
    let k : ℕ = length s.axes in
    let f : drop from bs ≡ row s o ++ (rows_of s os ++ z) = e ∙ append_assoc (row s o) (rows_of s os) z in
    let d : drop (from + size_of k) bs ≡ rows_of s os ++ z = sym (drop-drop (size_of k) from bs) ∙ ap (drop (size_of k)) f ∙ drop_at (row s o) (rows_of s os ++ z) (size_of k) (row-long s o) in
    let t : o < 2 ^ 32 = omega (arith, b.1) in
    ap₂ (λ (x y : List ℕ). x ++ y) (row_line s o bs from (rows_of s os ++ z) g b.0 b.1 t f) (rows-lines s os bs (from + size_of k) z g c b.2 d)
