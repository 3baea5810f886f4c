-- A row put into the row buffer: its ordinality, then a coordinate's positions one after the other. And a cell's nine bytes, as TRUE.
use Rattle.std.specs.Prelude.{ℕ, ◌+◌, ◌*◌, ◌≤◌, ◌<◌, ◌≡◌, Bool, true, false, ◌&&◌, eqb, leb, take, drop, get_or, if◌then◌else◌, None, Some}
use Rattle.std.proofs.Math.Path.{refl, ap, ap₂}
use Rattle.std.proofs.Common.{sym, ◌∙◌, ne_eqb, leb-false, take_at, drop_at, take_all, of_z}
use mathlib.Core.List.{List, [], ◌∷◌, ◌++◌, map, append_assoc}
use native.Mathlib.Omega.{arith}
use Rattle.std.proofs.Math.ListN.{length, length-append}
use Rattle.std.proofs.Math.Seq.{paste, paste-zero}
use Rattle.std.proofs.lemmas.List.Edits.{length-paste}
use Rattle.std.specs.Int.{w32}
use Rattle.paper.specs.declared.Axis.{Axis}
use Rattle.paper.specs.declared.Cell.TheVariants.{Empty, Truth}
use Rattle.paper.specs.Limits.{BOOLEAN, limit_bytes, word_bytes, cell_bytes}
use Rattle.paper.specs.Numbers.{le_of, le_bytes, part, position, position_bytes, concat}
use Rattle.paper.specs.Axes.{coordinate, Shape, result}
use Rattle.paper.specs.Cells.{filled, cell_from, cell_of, is_truth, is_true}
use Rattle.paper.specs.Listing.{row}
use Rattle.laws.specs.Judged.{or_empty}
use Rattle.laws.specs.Fill.{paste-paste}
use Rattle.cell.proofs.Runs.{run-cons}
use Rattle.laws.specs.Rows.{concat-length, concat-at, concat-map}

-- ---- TRUE

-- a mark that is not 1: no truth value
no-mark : (mark n : ℕ) → (mark ≡ 1 → ⊥) → false ≡ is_true (or_empty (cell_from BOOLEAN mark n))
unfolding cell_from is_truth
no-mark mark n h = rw (ne_eqb mark 1 h) (by (eqb mark 0 && eqb n 0))
  where
    by : (b : Bool) → false ≡ is_true (or_empty (if b then Some Empty else None))
    by true = refl
    by false = refl

-- the mark 1: TRUE where the number is 1
by_number : (n : ℕ) → eqb n 1 ≡ is_true (or_empty (cell_from BOOLEAN 1 n))
unfolding cell_from filled is_truth
by_number n = by (leb n 1) refl
  where
    truth : (b : Bool) → b ≡ is_true (Truth b)
    truth true = refl
    truth false = refl

    by : (b : Bool) → leb n 1 ≡ b → eqb n 1 ≡ is_true (or_empty (if b then Some (Truth (eqb n 1)) else None))
    by true e = truth (eqb n 1)
    by false e = let l = leb-false n 1 e in ne_eqb n 1 (omega arith)

-- so of nine bytes: a mark, and eight bytes
module _ (s : List ℕ) (at : ℕ) (h : at + cell_bytes ≤ length s) where
  nine : get_or s at 0 ∷ part (at + 1) word_bytes s ≡ part at cell_bytes s
  nine = sym (run-cons s at word_bytes (omega arith))

  pub unmarked : (get_or s at 0 ≡ 1 → ⊥) → false ≡ is_true (or_empty (cell_of BOOLEAN (part at cell_bytes s)))
  unmarked e = no-mark (get_or s at 0) (le_of (part (at + 1) word_bytes s)) e ∙ ap (λ (bs : List ℕ). is_true (or_empty (cell_of BOOLEAN bs))) nine

  pub marked : (n : ℕ) → get_or s at 0 ≡ 1 → n ≡ le_of (part (at + 1) word_bytes s)
      → eqb n 1 ≡ is_true (or_empty (cell_of BOOLEAN (part at cell_bytes s)))
  marked n e f =
      by_number n
      ∙ ap₂ (λ (mark m : ℕ). is_true (or_empty (cell_from BOOLEAN mark m))) (sym e) f
      ∙ ap (λ (bs : List ℕ). is_true (or_empty (cell_of BOOLEAN bs))) nine

-- ---- positions

-- positions, four bytes each
abbrev pub positions_bytes : List ℕ → List ℕ
positions_bytes p = concat (map position_bytes p)

-- what a call that puts four bytes says
abbrev pub FourPut : List ℕ → ℕ → ℕ → List ℕ → Type 0
FourPut d at n y = y ≡ take at d ++ le_bytes limit_bytes n ++ drop (at + limit_bytes) d

length-positions : (p : List ℕ) → length (positions_bytes p) ≡ length p * limit_bytes
unfolding le_bytes
length-positions p = concat-length position_bytes limit_bytes 0 p (λ i b. refl)

position-of : (p : List ℕ) (i : ℕ) → i < length p → take limit_bytes (drop (i * limit_bytes) (positions_bytes p)) ≡ position_bytes (get_or p i 0)
unfolding le_bytes
position-of p i h = concat-at position_bytes limit_bytes 0 p i h (λ j b. refl)

-- i positions are put
pub record Putting (p : List ℕ) (d₀ : List ℕ) (at : ℕ) (d : List ℕ) (i : ℕ) : Type 0 where
  pub turns : i ≤ length p
  pub long : length d ≡ length d₀
  pub first : d ≡ paste d₀ at (positions_bytes p) (i * limit_bytes)

module _ (p d₀ : List ℕ) (at : ℕ) (h : at + length p * limit_bytes ≤ length d₀) where
  pub put-start : Putting p d₀ at d₀ 0
  put-start = record { turns = omega arith; long = refl; first = paste-zero d₀ at (positions_bytes p) }

  pub put-more : (d : List ℕ) (i : ℕ) → Putting p d₀ at d i → i < length p → (n : ℕ) → n ≡ of_z w32 (position (get_or p i 0)) → (y : List ℕ)
      → FourPut d (at + i * limit_bytes) n y
      → Putting p d₀ at y (i + 1)
  put-more d i v k n e y q =
      let l = length-positions p in
      let f : le_bytes limit_bytes n ≡ take limit_bytes (drop (i * limit_bytes) (positions_bytes p)) =
      ap (le_bytes limit_bytes) e ∙ sym (position-of p i k) in
      let g : i * limit_bytes + limit_bytes ≡ (i + 1) * limit_bytes = omega arith in
      let r : y ≡ paste d₀ at (positions_bytes p) ((i + 1) * limit_bytes) =
      q ∙ ap₂ (λ (u x : List ℕ). take (at + i * limit_bytes) u ++ x ++ drop (at + i * limit_bytes + limit_bytes) u) v.first f
      ∙ paste-paste d₀ at (positions_bytes p) (i * limit_bytes) limit_bytes (omega arith) (omega arith)
      ∙ ap (paste d₀ at (positions_bytes p)) g in
      record {
        turns = omega arith;
        long = ap length r ∙ length-paste d₀ at (positions_bytes p) ((i + 1) * limit_bytes) (omega arith) (omega arith);
        first = r;
      }

  pub put-end : (d : List ℕ) (i : ℕ) → Putting p d₀ at d i → length p ≤ i → d ≡ paste d₀ at (positions_bytes p) (length p * limit_bytes)
  put-end d i v k =
      let e : i ≡ length p = omega (arith, v.turns) in
      v.first ∙ ap (λ (j : ℕ). paste d₀ at (positions_bytes p) (j * limit_bytes)) e

-- ---- a row

-- the bytes of a row with r positions
abbrev pub row_size : ℕ → ℕ
row_size r = limit_bytes + limit_bytes * r

-- an ordinality and a coordinate's positions
unfoldable pub row_of : ℕ → List ℕ → List ℕ
row_of o p = le_bytes limit_bytes o ++ positions_bytes p

-- the shape of a result with these axes: a row tells positions alone, so its names don't count
abbrev pub nameless : List Axis → Shape
nameless E = result BOOLEAN [] E

-- what the paper writes for a cell
pub row_at : (E : List Axis) (o : ℕ) (p : List ℕ) → p ≡ coordinate E o → row_of o p ≡ row (nameless E) o
unfolding row row_of
row_at E o p e = ap (λ (u : List ℕ). le_bytes limit_bytes o ++ positions_bytes u) e

-- bytes put, and more after them
paste_more : (d s t : List ℕ) (at n m : ℕ) → n ≡ length s → at ≤ length d
    → paste (paste d at s n) (at + n) t m ≡ paste d at (s ++ t) (n + m)
paste_more d s t at n m e h =
    let a : take n s ≡ take n (s ++ t) = take_all n s (omega arith) ∙ sym (take_at s t n (sym e)) in
    let b : t ≡ drop n (s ++ t) = sym (drop_at s t n (sym e)) in
    ap₂ (λ (u v : List ℕ). paste (take at d ++ u ++ drop (at + n) d) (at + n) v m) a b
    ∙ paste-paste d at (s ++ t) n m h (omega (arith, length-append s t))

-- the ordinality put, and positions after it; and one more
module _ (d : List ℕ) (at o : ℕ) (y : List ℕ) (q : FourPut d at o y) (h : at ≤ length d) (p : List ℕ) (n : ℕ) (l : n ≡ length p)
    (z : List ℕ) (r : z ≡ paste y (at + limit_bytes) (positions_bytes p) (n * limit_bytes)) where
  pub row_put : z ≡ paste d at (row_of o p) (limit_bytes + n * limit_bytes)
  unfolding row_of le_bytes
  row_put =
      r ∙ ap (λ (u : List ℕ). paste u (at + limit_bytes) (positions_bytes p) (n * limit_bytes)) q
      ∙ paste_more d (le_bytes limit_bytes o) (positions_bytes p) at limit_bytes (n * limit_bytes) refl h

  pub row_last : (x w : ℕ) → w ≡ of_z w32 (position x) → (u : List ℕ) → FourPut z (at + limit_bytes + n * limit_bytes) w u
      → u ≡ paste d at (row_of o (p ++ (x ∷ []))) (limit_bytes + n * limit_bytes + limit_bytes)
  unfolding row_of le_bytes concat
  row_last x w e u f =
      let b : le_bytes limit_bytes w ≡ position_bytes x = ap (le_bytes limit_bytes) e in
      let c : row_of o p ++ position_bytes x ≡ row_of o (p ++ (x ∷ [])) =
      append_assoc (le_bytes limit_bytes o) (positions_bytes p) (position_bytes x)
      ∙ ap (λ (v : List ℕ). le_bytes limit_bytes o ++ v) (concat-map position_bytes p (x ∷ [])) in
      let i : limit_bytes + n * limit_bytes ≡ length (row_of o p) =
      omega (arith, length-append (le_bytes limit_bytes o) (positions_bytes p), length-positions p) in
      let j : at + limit_bytes + n * limit_bytes ≡ at + (limit_bytes + n * limit_bytes) = omega arith in
      f ∙ ap (λ (v : List ℕ). paste z (at + limit_bytes + n * limit_bytes) v limit_bytes) b
      ∙ ap₂ (λ (v : List ℕ) (k : ℕ). paste v k (position_bytes x) limit_bytes) row_put j
      ∙ paste_more d (row_of o p) (position_bytes x) at (limit_bytes + n * limit_bytes) limit_bytes i h
      ∙ ap (λ (v : List ℕ). paste d at v (limit_bytes + n * limit_bytes + limit_bytes)) c
