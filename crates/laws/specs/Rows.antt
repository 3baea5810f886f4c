-- Rows: the bytes of a coordinate's row, as many as a row has; and rows one after the other are found again, each at its place.
use Rattle.std.specs.Prelude.{ℕ, zero, suc, ◌+◌, ◌-◌, ◌*◌, ◌/◌, ◌%◌, ◌<◌, ◌≡◌, refl, true, List, [], ◌∷◌, ◌++◌, map, length, get_or}
use Rattle.std.proofs.Common.{sym, ap, ◌∙◌, arith, length-append, of_z}
use Rattle.std.proofs.lemmas.List.{map-append, length-map}
use Rattle.std.specs.Int.{w32}
use Rattle.paper.specs.declared.Axis.{Axis}
use Rattle.paper.specs.Limits.{limit_bytes}
use Rattle.paper.specs.Numbers.{le_bytes, position, position_bytes, part, concat}
use Rattle.paper.specs.Axes.{cells, inside, ordinality, at_offset, coordinate, Shape}
use Rattle.paper.specs.Listing.{row_bytes, row}
use Rattle.laws.specs.Places.{inside-true, inside-length, offset-at_offset}
use Rattle.laws.specs.Lists.{concat-append}
use Rattle.laws.specs.Fill.{Each, length-concat, piece-concat}

-- the row of a coordinate: its ordinality, and each of its positions
unfoldable pub row_of : List Axis → List ℕ → List ℕ
row_of E p = le_bytes limit_bytes (ordinality E p) ++ concat (map position_bytes p)

-- ---- parts of one size, one after the other

module _ {C : Type 0} (f : C → List ℕ) (n : ℕ) (d : C) where
  -- each of the list has n bytes
  abbrev pub Sized : List C → Type 0
  Sized l = (i : ℕ) → i < length l → length (f (get_or l i d)) ≡ n

  map_at : (l : List C) (i : ℕ) → i < length l → get_or (map f l) i [] ≡ f (get_or l i d)
  map_at [] i b = absurd (omega arith)
  map_at (c ∷ l) zero b = refl
  map_at (c ∷ l) (suc i) b = map_at l i (omega arith)

  each : (l : List C) → Sized l → Each n (map f l)
  each l h i b = let c : i < length l = omega (arith, length-map l f) in ap length (map_at l i c) ∙ h i c

  -- as many times n as there are parts
  pub concat-length : (l : List C) → Sized l → length (concat (map f l)) ≡ length l * n
  concat-length l h = length-concat n (map f l) (each l h) ∙ ap (λ (k : ℕ). k * n) (length-map l f)

  -- the one of index i stands at i times their size
  pub concat-at : (l : List C) (i : ℕ) → i < length l → Sized l → part (i * n) n (concat (map f l)) ≡ f (get_or l i d)
  concat-at l i b h = piece-concat n (map f l) i (each l h) (omega (arith, length-map l f)) ∙ map_at l i b

-- two lists one after the other
pub concat-map : {C : Type 0} (f : C → List ℕ) (xs ys : List C) → concat (map f xs) ++ concat (map f ys) ≡ concat (map f (xs ++ ys))
concat-map f xs ys = sym (ap concat (map-append f xs ys) ∙ concat-append (map f xs) (map f ys))

-- ---- a row

-- k bytes of a number are k
length-bytes : (k n : ℕ) → length (le_bytes k n) ≡ k
unfolding le_bytes
length-bytes zero n = refl
length-bytes (suc k) n = ap suc (length-bytes k (n / 256))

length-position : (x : ℕ) → length (position_bytes x) ≡ limit_bytes
length-position x = length-bytes limit_bytes (of_z w32 (position x))

-- an ordinality and a coordinate of as many positions as a shape has axes: the bytes of a row
length_fields : (s : Shape) (o : ℕ) (p : List ℕ) → length p ≡ length s.axes
    → length (le_bytes limit_bytes o ++ concat (map position_bytes p)) ≡ row_bytes s
length_fields s o p e =
    omega (arith, length-append (le_bytes limit_bytes o) (concat (map position_bytes p)), length-bytes limit_bytes o, concat-length position_bytes limit_bytes 0 p (λ i b. length-position (get_or p i 0)))

-- so of the row of a coordinate inside
pub length-row_of : (s : Shape) (p : List ℕ) → inside s.axes p ≡ true → length (row_of s.axes p) ≡ row_bytes s
unfolding row_of
length-row_of s p h = length_fields s (ordinality s.axes p) p (inside-length s.axes p (inside-true s.axes p h))

length-at_offset : (E : List Axis) (k : ℕ) → length (at_offset E k) ≡ length E
unfolding at_offset
length-at_offset [] k = refl
length-at_offset (a ∷ E) k = ap suc (length-at_offset E (k % cells E))

-- the rows of a listing, one after the other
abbrev pub rows_of : Shape → List ℕ → List ℕ
rows_of s os = concat (map (row s) os)

pub length-rows : (s : Shape) (os : List ℕ) → length (rows_of s os) ≡ length os * row_bytes s
unfolding row
length-rows s os = concat-length (row s) (row_bytes s) 0 os (λ i b. let o = get_or os i 0 in length_fields s o (coordinate s.axes o) (length-at_offset s.axes (o - 1)))

-- the listing's row of an ordinality is its coordinate's row
pub row_at : (s : Shape) (k : ℕ) → k < cells s.axes → row s (k + 1) ≡ row_of s.axes (at_offset s.axes k)
unfolding row row_of
row_at s k h =
    let e : k + 1 - 1 ≡ k = omega arith in
    rw (e, offset-at_offset s.axes k h) refl
