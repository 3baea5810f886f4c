-- Cells in blocks: around an axis k the cells go in blocks, one for each coordinate of the axes before; a block has a layer for each
-- position of the axis, and a layer is the cells of the axes after. An axis put in or taken out is a matter of blocks and layers.
use Rattle.std.specs.Prelude.{ℕ, ◌+◌, ◌-◌, ◌*◌, ◌/◌, ◌%◌, ◌<◌, ◌≡◌, length, take, drop}
use Rattle.std.proofs.Common.{sym, ◌∙◌, mod-lt, div-lt_iff_lt-mul, arith}
use Rattle.std.proofs.Math.Path.{ap, ap₂}
use mathlib.Core.List.{List, ◌∷◌, ◌++◌}
use Rattle.paper.specs.declared.Axis.{Axis}
use Rattle.paper.specs.Axes.{cells, offset, at_offset, axis_at, without, put_in}
use Rattle.laws.specs.Places.{right-pos, offset-at_offset, at_offset-inside, inside-length}
use Rattle.laws.specs.Joins.{cells-append, offset-append, at_offset-append, axes-at, drop-index, length_before, put_in-at}
use Rattle.laws.specs.Glue.{block_cells}
use Rattle.origin.specs.Asks.{Axial}

-- ---- axes before and axes after

apart : (E F : List Axis) (j : ℕ) → j < cells (E ++ F) → (j / cells F < cells E) × (j % cells F < cells F)
apart E F j h =
    let l : j < cells E * cells F = omega (arith, cells-append E F) in
    let z = right-pos (cells E) (cells F) j l in
    ((div-lt_iff_lt-mul {x = j} {y = cells E} z).1 l, mod-lt j z)

front_length : (E : List Axis) (i : ℕ) → i < cells E → length (at_offset E i) ≡ length E
front_length E i h = inside-length E (at_offset E i) (at_offset-inside E i h)

offset-front : (E F : List Axis) (i : ℕ) (q : List ℕ) → i < cells E → offset (E ++ F) (at_offset E i ++ q) ≡ i * cells F + offset F q
offset-front E F i q h =
    offset-append E F (at_offset E i) q (front_length E i h) ∙ ap (λ (n : ℕ). n * cells F + offset F q) (offset-at_offset E i h)

-- ---- around axis k

module _ {k : ℕ} {E : List Axis} (x : Axial k E) where
  abbrev pre : List Axis
  pre = take (k - 1) E

  abbrev post : List Axis
  post = drop k E

  abbrev a : Axis
  a = axis_at k E

  parted : E ≡ pre ++ a ∷ post
  parted = axes-at k E x.one x.last

  block : cells (a ∷ post) ≡ block_cells k E
  block = sym (ap cells (drop-index k E _ x.one x.last))

  before : (i : ℕ) → i < cells pre → length (at_offset pre i) ≡ k - 1
  before i h = let l = x.last in front_length pre i h ∙ length_before k E (omega arith)

  -- cell j of the other axes, with the position y put in
  pub slice-offset : (y j : ℕ) → j < cells (without k E)
      → offset E (put_in k y (at_offset (without k E) j)) ≡ j / cells post * block_cells k E + ((y - a.lo) * cells post + j % cells post)
  unfolding offset
  slice-offset y j h =
      let q = apart pre post j h in
      let front = at_offset pre (j / cells post) in
      let behind = at_offset post (j % cells post) in
      ap (λ (p : List ℕ). offset E (put_in k y p)) (at_offset-append pre post j h)
      ∙ ap₂ offset parted (put_in-at k front y behind x.one (before _ q.0))
      ∙ offset-front pre (a ∷ post) (j / cells post) (y ∷ behind) q.0
      ∙ ap₂ (λ (m n : ℕ). j / cells post * m + ((y - a.lo) * cells post + n)) block (offset-at_offset post (j % cells post) q.1)
