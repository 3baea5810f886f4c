-- An array's cells where they lie: nine bytes each, from a byte on, in the bundle or among the results so far.
use Rattle.std.specs.Prelude.{◌≡◌, ℕ, zero, suc, ◌+◌, ◌*◌, ◌<◌, ◌≤◌, true, List, [], ◌∷◌, ◌++◌, length, take, drop, slice_index_or, refl, Option, None, Some, is_some}
use Rattle.std.proofs.Common.{sym, ap, subst, ◌∙◌, arith, length-append, length-drop, ext_get_or, drop-drop}
use Rattle.std.proofs.lemmas.List.{take-append-le, drop-append-le}
use Rattle.std.proofs.Math.Seq.{drop-append-add}
use Rattle.paper.specs.declared.Cell.{Cell}
use Rattle.paper.specs.declared.Cell.TheVariants.{Empty}
use Rattle.paper.specs.declared.Head.{Head}
use Rattle.paper.specs.Limits.{cell_bytes}
use Rattle.paper.specs.Numbers.{part, concat, le_bytes}
use Rattle.paper.specs.Axes.{cells, Array}
use Rattle.paper.specs.Cells.{is_type, cell_of, encode, cells_bytes}
use Rattle.paper.specs.Values.{no_array}
use Rattle.paper.specs.Listing.{result_bytes}
use Rattle.laws.proofs.Cells.{cell-back}
use Rattle.laws.specs.Judged.{or_empty, cells_from, cell-no, cell-is, length-cells}
use Rattle.laws.specs.Steps.{Kept}
use Rattle.laws.specs.Rows.{concat-at}
use Rattle.laws.specs.Results.{cell-bytes}
use Rattle.bundle.specs.Read.{cells_in, array_at, Fit}

pub record Lies (bs : List ℕ) (at : ℕ) (X : Array) : Type 0 where
  pub room : at + length X.cells * cell_bytes ≤ length bs
  pub cell : (k : ℕ) → k < length X.cells → cell_of X.shape.type (part (at + k * cell_bytes) cell_bytes bs)
      ≡ Some (slice_index_or X.cells k Empty)

-- an array of a type, as many cells as its extent says, each of the type
pub record Whole (X : Array) : Type 0 where
  pub type : is_type X.shape.type ≡ true
  pub full : length X.cells ≡ cells X.shape.axes
  pub kept : Kept X

-- ---- in the bundle

there : (o : Option Cell) → is_some o ≡ true → o ≡ Some (or_empty o)
there None e = let z : ◌≡◌ {A = ℕ} 0 1 = cc in absurd (omega arith)
there (Some c) e = refl

pub bundle-lies : (bs : List ℕ) (h : Head) → Fit bs h → Lies bs h.at (array_at bs h)
unfolding array_at
bundle-lies bs h f =
    let n = cells_in h.form in
    let t = h.form.kind in
    let l = length-cells t n (drop h.at bs) in
    record {
      room = omega (arith, l, f.fits);
      cell = λ k b.
          let d = drop-drop (k * cell_bytes) h.at bs in
          let i : k < n = omega (arith, l) in
          ap (λ (x : List ℕ). cell_of t (take cell_bytes x)) (sym d)
          ∙ there (cell_of t (take cell_bytes (drop (k * cell_bytes) (drop h.at bs)))) (cell-is n t 1 k (drop h.at bs) (omega arith) f.clean i)
          ∙ ap Some (sym (cell-no n t k (drop h.at bs) i));
    }

-- ---- among results, one after the other

-- a part of the first of two lists, and of the second
pub part_left : (p q : List ℕ) (i n : ℕ) → i + n ≤ length p → part i n (p ++ q) ≡ part i n p
part_left p q i n h =
    ap (take n) (drop-append-le i p q (omega arith))
    ∙ take-append-le n (drop i p) q (omega (arith, length-drop i p))

lies-after : (p bs : List ℕ) (at : ℕ) (X : Array) → Lies bs at X → Lies (p ++ bs) (length p + at) X
lies-after p bs at X l = record {
  room = omega (arith, l.room, length-append p bs);
  cell = λ k b.
      let e : length p + at + k * cell_bytes ≡ length p + (at + k * cell_bytes) = omega arith in
      ap (λ (j : ℕ). cell_of X.shape.type (part j cell_bytes (p ++ bs))) e
      ∙ ap (λ (x : List ℕ). cell_of X.shape.type (take cell_bytes x)) (drop-append-add p bs (at + k * cell_bytes))
      ∙ l.cell k b;
}

-- bytes after them change nothing
pub lies-before : (bs q : List ℕ) (at : ℕ) (X : Array) → Lies bs at X → Lies (bs ++ q) at X
lies-before bs q at X l = record {
  room = omega (arith, l.room, length-append bs q);
  cell = λ k b. ap (cell_of X.shape.type) (part_left bs q (at + k * cell_bytes) cell_bytes (omega (arith, l.room))) ∙ l.cell k b;
}

-- read from there, they are the array's cells
pub lies-cells : (bs : List ℕ) (at : ℕ) (X : Array) → Lies bs at X → X.cells ≡ cells_from X.shape.type (length X.cells) (drop at bs)
lies-cells bs at X l =
    let t = X.shape.type in
    let n = length X.cells in
    ext_get_or Empty X.cells (cells_from t n (drop at bs)) (sym (length-cells t n (drop at bs)))
    (λ k b. sym (cell-no n t k (drop at bs) b ∙ ap (λ (x : List ℕ). or_empty (cell_of t (take cell_bytes x))) (drop-drop (k * cell_bytes) at bs) ∙ ap or_empty (l.cell k b)))

nine : (c : Cell) → length (encode c) ≡ cell_bytes
unfolding encode le_bytes
nine c = refl

lies-first : (X : Array) (q : List ℕ) → Kept X → Lies (cells_bytes X.cells ++ q) 0 X
lies-first X q h =
    let n = cell-bytes X.cells in
    record {
      room = omega (arith, n, length-append (cells_bytes X.cells) q);
      cell = λ k b.
          ap (cell_of X.shape.type) (part_left (cells_bytes X.cells) q (0 + k * cell_bytes) cell_bytes (omega (arith, n)) ∙ there k b)
          ∙ cell-back X.shape.type (slice_index_or X.cells k Empty) (h k);
    }
  where
    there : (k : ℕ) → k < length X.cells → part (0 + k * cell_bytes) cell_bytes (cells_bytes X.cells) ≡ encode (slice_index_or X.cells k Empty)
    there k b =
        let z : 0 + k * cell_bytes ≡ k * cell_bytes = omega arith in
        ap (λ (j : ℕ). part j cell_bytes (cells_bytes X.cells)) z
        ∙ concat-at encode cell_bytes Empty X.cells k b (λ i c. nine (slice_index_or X.cells i Empty))

pub work-lies : (Rs : List Array) (j : ℕ) → j < length Rs → Kept (slice_index_or Rs j no_array)
    → Lies (result_bytes Rs) (length (result_bytes (take j Rs))) (slice_index_or Rs j no_array)
unfolding concat
work-lies [] j h k = absurd (omega arith)
work-lies (A ∷ Rs) zero h k = lies-first A (result_bytes Rs) k
work-lies (A ∷ Rs) (suc j) h k =
    subst (λ (i : ℕ). Lies (cells_bytes A.cells ++ result_bytes Rs) i (slice_index_or Rs j no_array)) (sym (length-append (cells_bytes A.cells) (result_bytes (take j Rs))))
    (lies-after (cells_bytes A.cells) (result_bytes Rs) (length (result_bytes (take j Rs))) (slice_index_or Rs j no_array) (work-lies Rs j (omega arith) k))
