-- Demand 3: the pages of an accepted listing from ordinality 1, each starting where the last said, until the end is named, are finitely
-- many, and joined they are the rows of the coordinates whose cell is TRUE, once each, in row-major order. TRUE is judged in the values,
-- one whole array at a time; of a page only its answer and its bytes are looked at.
use Prim.Native.Nat.{ℕ, zero, suc, ◌+◌, ◌*◌, ◌/◌, ◌≤◌, ◌<◌}
use Rattle.std.specs.Prelude.{◌≡◌, Bool, eqb, take, drop, if◌then◌else◌, Option, Some, Ok}
use Rattle.std.specs.Option.{option_map}
use Rattle.std.proofs.Math.Path.{refl, sym, ap, subst}
use Rattle.std.proofs.Common.{◌∙◌, le-div_iff_mul-le, take_at}
use Rattle.std.proofs.Math.Bool.{true, false}
use mathlib.Core.List.{List, [], ◌∷◌, ◌++◌, map, append-nil}
use native.Mathlib.Omega.{arith}
use borrow.Author.Tests.{eqb-true, eqb-false, eq-eqb, le-leb}
use Rattle.std.proofs.Math.ListN.{length, get_or}
use Rattle.paper.specs.declared.Axis.{Axis}
use Rattle.paper.specs.declared.Cell.{Cell}
use Rattle.paper.specs.declared.Cell.TheVariants.{Empty}
use Rattle.paper.specs.Limits.{BOOLEAN}
use Rattle.paper.specs.Numbers.{part, last_of, from, concat, over}
use Rattle.paper.specs.Axes.{cells, inside, offset, ordinality, at_offset, build, Shape, Array, at}
use Rattle.paper.specs.Cells.{is_truth, is_true, trues}
use Rattle.paper.specs.Recipe.{Planned}
use Rattle.paper.specs.Values.{values, no_array}
use Rattle.paper.specs.Listing.{planned, bytes_of_all, result_bytes, work_after, last_shape, row_bytes, row, listed, go_on, list_tests, page_tests, page_of, page_values, page_after, page}
use Rattle.laws.specs.Places.{inside-true, offset-lt, at_offset-offset, offset-at_offset, at_offset-inside, get_or-build, coordinates, length-coordinates}
use Rattle.laws.specs.Limits.{limits-true, cells-pos}
use Rattle.laws.specs.Arrays.{at-inside, at-outside}
use Rattle.laws.specs.Kept.{keep, Has, Rising, keep_all, keep-only, keep-rising, rising-once}
use Rattle.laws.specs.Rows.{row_of, rows_of, concat-length, concat-at, concat-map, length-row_of, length-rows, row_at}
use Rattle.laws.specs.Pages.{onward, past, Turned, one-page}
use Rattle.laws.specs.Results.{Full, AsPlanned, planned-good, values-full, last-shape, last-whole, extent-good}
use Rattle.theorems.specs.Listings.{true_coordinates, page_then, pages_from}

module _ (A : Array) where
  abbrev extent : List Axis
  extent = A.shape.axes

  abbrev test : List ℕ → Bool
  test p = is_true (at A p)

  abbrev found : List (List ℕ)
  found = true_coordinates A

  -- a cell that is TRUE lies inside the extent
  true-within : (p : List ℕ) → is_true (at A p) ≡ true → inside extent p ≡ true
  unfolding is_truth
  true-within p e = by (inside extent p) refl
    where
      by : (b : Bool) → inside extent p ≡ b → b ≡ true
      by true q = refl
      by false q = sym (ap is_true (at-outside A p q)) ∙ e

  -- the coordinate of index i has ordinality i + 1
  coordinates-ordinality : (i : ℕ) → i < length (coordinates extent) → ordinality extent (get_or (coordinates extent) i []) ≡ i + 1
  unfolding coordinates
  coordinates-ordinality i h =
      let b : i < cells extent = omega (arith, length-coordinates extent) in
      rw (get_or-build extent (λ p. p) i [] b, offset-at_offset extent i b)

  -- each coordinate whose cell is TRUE is there
  pub kept-all : (p : List ℕ) → is_true (at A p) ≡ true → Has [] found p
  unfolding true_coordinates coordinates
  kept-all p e =
      let h = inside-true extent p (true-within p e) in
      let b = offset-lt extent p h in
      let q = get_or-build extent (λ p. p) (offset extent p) [] b ∙ at_offset-offset extent p h in
      subst (Has [] found) q
      (keep_all test [] (coordinates extent) (offset extent p) (omega (arith, length-coordinates extent)) (ap test q ∙ e))

  -- and no other: each one there lies inside the extent, and its cell is TRUE
  pub kept-only : (i : ℕ) → i < length found → (inside extent (get_or found i []) ≡ true) × (is_true (at A (get_or found i [])) ≡ true)
  unfolding true_coordinates
  kept-only i h = let o = (keep-only test [] (coordinates extent) i h).0 in (true-within (get_or found i []) o, o)

  -- in row-major order: the ordinalities rise
  pub in_order : Rising (ordinality extent) [] found
  unfolding true_coordinates
  in_order =
      keep-rising test [] (ordinality extent) (coordinates extent) (λ i j h k.
      omega (arith, coordinates-ordinality i (omega arith), coordinates-ordinality j k))

  -- once each
  pub once : (i j : ℕ) → i < length found → j < length found → get_or found i [] ≡ get_or found j [] → i ≡ j
  once = rising-once (ordinality extent) [] found in_order

  -- their rows one after the other: a row for each
  row-long : (i : ℕ) → i < length found → length (row_of extent (get_or found i [])) ≡ row_bytes A.shape
  row-long i h = length-row_of A.shape (get_or found i []) (kept-only i h).0

  pub joined_length : length (concat (map (row_of extent) found)) ≡ length found * row_bytes A.shape
  joined_length = concat-length (row_of extent) (row_bytes A.shape) [] found row-long

  -- and each at its place
  pub joined_at : (i : ℕ) → i < length found
      → part (i * row_bytes A.shape) (row_bytes A.shape) (concat (map (row_of extent) found)) ≡ row_of extent (get_or found i [])
  joined_at i h = concat-at (row_of extent) (row_bytes A.shape) [] found i h row-long

  -- ---- the rows of a listing are those of the TRUE coordinates

  -- c is the cell k cells after the first, and its row that of its coordinate
  abbrev Same : ℕ → Cell → Type 0
  Same k c = (is_true c ≡ test (at_offset extent k)) × (row A.shape (k + 1) ≡ row_of extent (at_offset extent k))

  either : (b : Bool) (o : ℕ) (p os : List ℕ) (ps : List (List ℕ)) → row A.shape o ≡ row_of extent p
      → map (row A.shape) os ≡ map (row_of extent) ps
      → map (row A.shape) (if b then o ∷ os else os) ≡ map (row_of extent) (if b then p ∷ ps else ps)
  either true o p os ps e f = rw (e, f)
  either false o p os ps e f = f

  -- of cells cs, the first of them k cells after the array's first
  trues-rows : (cs : List Cell) (k : ℕ) → ((i : ℕ) → i < length cs → Same (k + i) (get_or cs i Empty))
      → map (row A.shape) (trues (k + 1) cs) ≡ map (row_of extent) (keep test (map (at_offset extent) (from k (length cs))))
  unfolding from trues keep
  trues-rows [] k h = refl
  trues-rows (c ∷ cs) k h =
      let z : k + 0 ≡ k = omega arith in
      let first : Same k c = rw z at (h 0 (omega arith)) in
      let o : k + 1 + 1 ≡ suc k + 1 = omega arith in
      rw (first.0, o) (either (test (at_offset extent k)) (k + 1) _ _ _ first.1 (trues-rows cs (suc k) (λ i b.
      let e : k + suc i ≡ suc k + i = omega arith in
      rw e at (h (suc i) (omega arith)))))

  -- all cells
  all-rows : Full A → map (row A.shape) (onward A 1) ≡ map (row_of extent) found
  unfolding true_coordinates coordinates build
  all-rows w =
      trues-rows A.cells 0 (λ i b.
      let h : i < cells extent = omega arith in
      let z : 0 + i ≡ i = omega arith in
      let c : at A (at_offset extent i) ≡ get_or A.cells i Empty = at-inside A _ (at_offset-inside extent i h) ∙ (rw offset-at_offset) in
      rw z (sym (ap is_true c), row_at A.shape i h))
      ∙ ap (λ (n : ℕ). map (row_of extent) (keep test (map (at_offset extent) (from 0 n)))) w

-- ---- one page

-- where the later pages have the rows of the TRUE cells from where they start on, so has this page with them
module _ (A : Array) (start : ℕ) (buffer work : List ℕ) (later : ℕ → Option (List ℕ)) (w : Full A)
    (r : 1 ≤ length buffer / row_bytes A.shape) (h : 1 ≤ start) (k : start ≤ cells A.shape.axes)
    (f : (next : ℕ) → start < next → next ≤ cells A.shape.axes → later next ≡ Some (rows_of A.shape (onward A next))) where
  abbrev s : Shape
  s = A.shape

  abbrev os : List ℕ
  os = listed A start (length buffer / row_bytes s)

  abbrev next : ℕ
  next = go_on A (length buffer / row_bytes s) os

  page-then : page_then s (page_of A start buffer work).rows (page_of A start buffer work).answer later ≡ Some (rows_of s (onward A start))
  unfolding page_then page_of
  page-then = rw wrote (by (eqb next (cells s.axes + 1)) refl)
    where
      t : Turned A start os next
      t = one-page A (length buffer / row_bytes s) start w r h k

      wrote : take (length os * row_bytes s) (over (rows_of s os) buffer) ≡ rows_of s os
      wrote = take_at (rows_of s os) (drop (length (rows_of s os)) buffer) (length os * row_bytes s) (length-rows s os)

      by : (b : Bool) → eqb next (cells s.axes + 1) ≡ b
          → (if b then Some (rows_of s os) else option_map (λ more. rows_of s os ++ more) (later next)) ≡ Some (rows_of s (onward A start))
      by true q = rw (← t.all, eqb-true next (cells s.axes + 1) q, past A w, append-nil)
      by false q =
          let l = f next t.on (omega (arith, t.end, eqb-false next (cells s.axes + 1) q)) in
          rw (l, ← t.all) (ap Some (concat-map (row s) os (onward A next)))

-- ---- the pages

-- The recipe is accepted and ends in BOOLEAN, each work area is long enough, each row buffer has room for a row.
module _ (bundle recipe : List ℕ) (area buffer : ℕ → List ℕ) (As : List Array) (ps : List Planned) (Rs : List Array)
    (e : planned bundle recipe ≡ Ok (As, ps)) (t : (last_shape ps).type ≡ BOOLEAN) (v : values As ps ≡ Ok Rs)
    (w : (i : ℕ) → bytes_of_all ps ≤ length (area i)) (r : (i : ℕ) → row_bytes (last_shape ps) ≤ length (buffer i)) where
  abbrev A : Array
  A = last_of no_array Rs

  as-planned : AsPlanned ps Rs
  as-planned = values-full ps 1 As [] Rs v

  shape_is : A.shape ≡ last_shape ps
  shape_is = last-shape ps Rs as-planned

  whole : Full A
  whole = last-whole ps Rs (planned-good bundle recipe As ps e) as-planned

  -- a page call whose tests hold
  page-is : (i start : ℕ) → 1 ≤ start → start ≤ cells (last_shape ps).axes + 1
      → page bundle recipe (area i) start (buffer i) ≡ page_of A start (buffer i) (over (result_bytes Rs) (area i))
  unfolding list_tests page_tests page_after page_values work_after
  page-is i start h k =
      let a = le-leb (bytes_of_all ps) (length (area i)) (w i) in
      let b = le-leb (row_bytes (last_shape ps)) (length (buffer i)) (r i) in
      rw (e, eq-eqb (last_shape ps).type BOOLEAN t, a, b, le-leb 1 start h, le-leb start (cells (last_shape ps).axes + 1) k, v)

  -- n pages from `start` on, if no fewer than the cells from there on, are the rows of the TRUE cells from there on
  pages-rows : (n i start : ℕ) → 1 ≤ start → start ≤ cells A.shape.axes → cells A.shape.axes + 1 ≤ n + start
      → pages_from bundle recipe area buffer A.shape n i start ≡ Some (rows_of A.shape (onward A start))
  unfolding pages_from
  pages-rows zero i start h k l = absurd (omega arith)
  pages-rows (suc n) i start h k l =
      let m : 1 * row_bytes A.shape ≤ length (buffer i) = omega (arith, r i, ap row_bytes shape_is) in
      let u : start ≤ cells (last_shape ps).axes + 1 = omega (arith, ap (λ (s : Shape). cells s.axes) shape_is) in
      rw (page-is i start h u)
      (page-then A start (buffer i) (over (result_bytes Rs) (area i)) _ whole ((le-div_iff_mul-le (omega arith)).1 m) h k
      (λ next g m. pages-rows n (i + 1) next (omega arith) m (omega arith)))

  -- Demand 3: at most as many pages as there are cells name the end, and joined they are the rows of the TRUE coordinates of the last
  -- result.
  pub demand-3 : pages_from bundle recipe area buffer (last_shape ps) (cells A.shape.axes) 0 1
      ≡ Some (concat (map (row_of A.shape.axes) (true_coordinates A)))
  demand-3 =
      let c = cells-pos A.shape.axes (limits-true A.shape.axes (extent-good bundle recipe As ps Rs e v).0) in
      rw (← shape_is) (pages-rows (cells A.shape.axes) 0 1 (omega arith) c (omega arith)
      ∙ ap (λ (x : List (List ℕ)). Some (concat x)) (all-rows A whole))
