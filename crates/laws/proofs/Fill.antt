-- An array's cells as bytes, w to a cell, and what a loop that writes them one after the other into a buffer cites: after k cells
-- the buffer is `paste d at (bytes_of E f) (k * w)`, where d is the buffer before, at its place and f a coordinate's w bytes.
use Prim.Native.Nat.{ℕ, ◌+◌, ◌*◌, ◌≤◌, ◌<◌}
use Rattle.std.specs.Prelude.{◌≡◌, length, take, drop}
use Rattle.std.proofs.Math.Path.{sym, ap}
use Rattle.std.proofs.Common.{◌∙◌, mul-le-mul_right, le_of_lt, arith, add-one, take-take}
use mathlib.Core.List.{List, [], ◌++◌}
use Rattle.std.proofs.Math.Nat.{suc-mul}
use Rattle.std.proofs.Math.Seq.{paste}
use Rattle.paper.specs.declared.Axis.{Axis}
use Rattle.paper.specs.Axes.{cells, at_offset, build}
use Rattle.laws.specs.Places.{Inside, length-build, get_or-build, at_offset-inside}
use Rattle.laws.specs.Fill.{piece_at, bytes_of, Each, length-concat, piece-concat, paste-paste}

-- ---- a loop that writes an array cell by cell: after k cells, `paste d at (bytes_of E f) (k * w)`

module _ (w : ℕ) (E : List Axis) (f : List ℕ → List ℕ) (h : (p : List ℕ) → Inside E p → length (f p) ≡ w) where
  pub each-build : Each w (build E f)
  each-build i b =
      let c : i < cells E = omega (arith, length-build E f) in
      ap length (get_or-build E f i [] c) ∙ h (at_offset E i) (at_offset-inside E i c)

  pub length-bytes : length (bytes_of E f) ≡ cells E * w
  length-bytes = length-concat w (build E f) each-build ∙ ap (λ n. n * w) (length-build E f)

  pub piece_bytes : (k : ℕ) → k < cells E → piece_at w (bytes_of E f) k ≡ f (at_offset E k)
  piece_bytes k c = piece-concat w (build E f) k each-build (omega (arith, length-build E f)) ∙ get_or-build E f k [] c

  -- a turn: the bytes of cell k are put where they belong
  pub fill_more : (d : List ℕ) (at k : ℕ) → at ≤ length d → k < cells E
      → paste (paste d at (bytes_of E f) (k * w)) (at + k * w) (f (at_offset E k)) w ≡ paste d at (bytes_of E f) ((k + 1) * w)
  fill_more d at k hd c =
      let l : k * w ≤ length (bytes_of E f) = omega (arith, length-bytes, mul-le-mul_right w (le_of_lt c)) in
      let g : k * w + w ≡ (k + 1) * w = rw add-one (sym (suc-mul k w)) in
      let t : take w (f (at_offset E k)) ≡ take w (drop (k * w) (bytes_of E f)) = sym (ap (take w) (piece_bytes k c)) ∙ take-take w w (drop (k * w) (bytes_of E f)) (omega arith) in
      ap (λ r. take (at + k * w) (paste d at (bytes_of E f) (k * w)) ++ r ++ drop (at + k * w + w) (paste d at (bytes_of E f) (k * w))) t
      ∙ paste-paste d at (bytes_of E f) (k * w) w hd l
      ∙ ap (paste d at (bytes_of E f)) g
