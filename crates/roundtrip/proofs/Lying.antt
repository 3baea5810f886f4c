-- Where reading says that an array's cells lie, there they lie: for code that keeps a bundle's bytes and reads cells from them.
-- An array's head is as long as its axis count says and its cells' bytes as its extent says, so that the next array begins after both.
use Rattle.std.specs.Prelude.{◌≡◌, refl, List, [], ◌∷◌, ◌++◌, map, ℕ, ◌+◌, ◌*◌, ◌≤◌, length, take, drop, Ok}
use Rattle.std.proofs.Common.{sym, ap, subst, ◌∙◌, arith, length-append, length-drop, take_at, drop_at, drop-drop}
use Rattle.paper.specs.declared.Sizes.{Sizes}
use Rattle.paper.specs.Limits.{type_bytes, cell_bytes}
use Rattle.paper.specs.Numbers.{le_bytes, concat, part}
use Rattle.paper.specs.Axes.{cells, Shape, Array}
use Rattle.paper.specs.Cells.{cells_bytes}
use Rattle.paper.specs.Bundle.{mark_bytes, version_in, sizes_in, read_bundle, array_bytes, bundle_bytes}
use Rattle.paper.specs.Answers.{lying_from, reading}
use Rattle.laws.specs.Numbers.{Bytes}
use Rattle.laws.specs.Sizes.{Fits, fits}
use Rattle.laws.specs.Tests.{bind-got, got-one}
use Rattle.roundtrip.specs.Valid.{EachValid}
use Rattle.roundtrip.proofs.Reading.{bundle-read}
use Rattle.roundtrip.proofs.Packing.{array-cells, array_long, valid-length}

abbrev pub Lying : List ℕ → List (Shape × ℕ) → List Array → Type 0
Lying bs [] [] = Unit {0}
Lying bs [] (A ∷ As) = ⊥
Lying bs (p ∷ ps) [] = ⊥
Lying bs (p ∷ ps) (A ∷ As) =
    (p.0 ≡ A.shape)
    × (p.1 + cells p.0.axes * cell_bytes ≤ length bs)
    × (part p.1 (cells p.0.axes * cell_bytes) bs ≡ cells_bytes A.cells)
    × Lying bs ps As

-- arrays that take up bs from byte i on
arrays-lie : (z : Sizes) → Fits z → (bs : List ℕ) (As : List Array) (i : ℕ) → i ≤ length bs → EachValid z As
    → drop i bs ≡ concat (map (array_bytes z) As)
    → Lying bs (lying_from z i As) As
unfolding lying_from concat
arrays-lie z f bs [] i l v e = tt
arrays-lie z f bs (A ∷ As) i l v e =
    let h = type_bytes + length A.shape.axes * z.axis in
    let n = cells A.shape.axes * cell_bytes in
    let x = cells_bytes A.cells in
    let y = concat (map (array_bytes z) As) in
    let d : drop (i + h) bs ≡ x ++ y = sym (drop-drop h i bs) ∙ ap (drop h) e ∙ array-cells z f A y v.0 in
    let w : length x ≡ n = valid-length A v.0 in
    let b : i + h + n ≤ length bs = omega (arith, ap length e, length-drop i bs, array_long z f A y v.0, length-append x y) in (
      refl,
      b,
      ap (take n) d ∙ take_at x y n w,
      arrays-lie z f bs As (i + h + n) b v.1 (sym (drop-drop n (i + h) bs) ∙ ap (drop n) d ∙ drop_at x y n w),
    )

-- of a bundle that reading accepts
pub cells-lie : (bs : List ℕ) (As : List Array) → Bytes bs → read_bundle bs ≡ Ok As
    → Lying bs (lying_from (sizes_in bs) (mark_bytes + 1) As) As
unfolding bundle_bytes le_bytes
cells-lie bs As h e =
    let r = bundle-read bs As h e in
    arrays-lie (sizes_in bs) (fits (version_in bs)) bs As (mark_bytes + 1) (omega (arith, ap length r.bytes)) r.valid.each
    (ap (drop (mark_bytes + 1)) (sym r.bytes))

-- so of what `reading` answers
pub reading-lies : (bs : List ℕ) (ps : List (Shape × ℕ)) → Bytes bs → reading bs ≡ Ok ps
    → (As : List Array) × (read_bundle bs ≡ Ok As) × Lying bs ps As
unfolding reading
reading-lies bs ps h e =
    let a = bind-got (read_bundle bs) _ ps e in (
      a.0,
      a.1,
      subst (λ (x : List (Shape × ℕ)). Lying bs x a.0) (got-one (lying_from (sizes_in bs) (mark_bytes + 1) a.0) ps a.2)
          (cells-lie bs a.0 h a.1),
    )
