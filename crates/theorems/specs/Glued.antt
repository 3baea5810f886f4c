-- What is handed out is the glued array itself: where the two buffers hold two arrays' cells, the part holds the cells of the array that
-- gluing would build, one after the other from the ordinality asked for.
use Prim.Native.Nat.{ℕ, zero, suc, ◌+◌, ◌-◌, ◌*◌, ◌≤◌}
use Rattle.std.specs.Prelude.{◌≡◌, refl, Bool, List, [], ◌∷◌, length, get_or, take, drop, if◌then◌else◌, Ok, Err}
use Rattle.std.proofs.Math.Path.{ap, subst}
use Rattle.std.proofs.Common.{◌∙◌}
use Rattle.std.proofs.Math.Bool.{true, false}
use Rattle.std.specs.Bool.{beq}
use native.Mathlib.Omega.{arith}
use Rattle.std.proofs.Math.Seq.{take-nil, drop-nil, take-append-add, drop-append-add}
use Rattle.paper.specs.declared.Axis.{Axis}
use Rattle.paper.specs.declared.Cell.{Cell}
use Rattle.paper.specs.declared.Part.{Part}
use Rattle.paper.specs.declared.Part.TheVariants.{Left, Right}
use Rattle.paper.specs.Limits.{cell_bytes}
use Rattle.paper.specs.Refusals.{Res, between, bad_page11, outside6}
use Rattle.paper.specs.Numbers.{le_bytes, part, from, concat}
use Rattle.paper.specs.Axes.{cells, ordinality, coordinate, build, Array}
use Rattle.paper.specs.Cells.{encode, cells_bytes}
use Rattle.paper.specs.Bundle.{version_told}
use Rattle.paper.specs.Recipe.{glued}
use Rattle.paper.specs.Values.{in_first, in_second}
use Rattle.paper.specs.Stretch.{Side, judge, stay, span, stretch_at, glue_tests, stretch_in, stretch, handed_out}
use Rattle.laws.specs.Tests.{between-true, bind-got, ensure-got, got-one}
use Rattle.laws.specs.Limits.{Sound}
use Rattle.laws.proofs.Glue.{Gluable, glued_cell}
use Rattle.laws.proofs.Stretch.{onward, stretch-left, stretch-right}
use Rattle.laws.specs.Results.{cell-bytes}
use Rattle.stretch.specs.Sides.{judge-passed, glue-passed}
use Rattle.stretch.specs.Handed.{figures}
use Rattle.theorems.specs.Made.{StretchCall, Stretches, told, stretches}
use Rattle.theorems.specs.Early.{stretch-early}

-- ---- cells as bytes

one_more : (c : Cell) (n : ℕ) → suc n * cell_bytes ≡ length (encode c) + n * cell_bytes
unfolding encode le_bytes
one_more c n = omega arith

taken : (n : ℕ) (cs : List Cell) → take (n * cell_bytes) (cells_bytes cs) ≡ cells_bytes (take n cs)
unfolding concat
taken zero cs = refl
taken (suc n) [] = take-nil (suc n * cell_bytes)
taken (suc n) (c ∷ cs) = rw (one_more c n, take-append-add, taken n cs)

dropped : (n : ℕ) (cs : List Cell) → drop (n * cell_bytes) (cells_bytes cs) ≡ cells_bytes (drop n cs)
unfolding concat
dropped zero cs = refl
dropped (suc n) [] = drop-nil (suc n * cell_bytes)
dropped (suc n) (c ∷ cs) = rw (one_more c n, drop-append-add) (dropped n cs)

part_bytes : (cs : List Cell) (a n : ℕ)
    → part (a * cell_bytes) ((a + n) * cell_bytes - a * cell_bytes) (cells_bytes cs) ≡ cells_bytes (take n (drop a cs))
part_bytes cs a n = let e : (a + n) * cell_bytes - a * cell_bytes ≡ n * cell_bytes = omega arith in rw (e, dropped a cs) (taken n (drop a cs))

-- ---- the law

-- the side that an array is: its type, its axes, its cells' bytes
abbrev pub side_of : Array → Side
side_of A = record { type = A.shape.type; names = A.shape.names; axes = A.shape.axes; bytes = cells_bytes A.cells }

-- how many cells a stretch has: from ordinality o on, as long as the coordinate stays on its side
abbrev pub stretch_cells : ℕ → List Axis → List Axis → ℕ → ℕ
stretch_cells k E F o = stay (in_first k E (coordinate (glued k E F) o)) (in_first k E) (onward (glued k E F) o)

-- the first does
first-stays : (b : Bool) (n : ℕ) → 1 ≤ (if beq b b then 1 + n else 0)
first-stays true n = omega arith
first-stays false n = omega arith

module _ (A B : Array) (k o : ℕ) where
  abbrev E : List Axis
  E = A.shape.axes

  abbrev F : List Axis
  F = B.shape.axes

  abbrev G : List Axis
  G = glued k E F

  abbrev p : List ℕ
  p = coordinate G o

  abbrev value : List Cell
  value = build G (glued_cell k A B)

  -- so many cells of the glued array from ordinality o on, at least the one there
  abbrev pub Stretched : List ℕ → Type 0
  Stretched out = (1 ≤ stretch_cells k E F o) × (out ≡ cells_bytes (take (stretch_cells k E F o) (drop (o - 1) value)))

  module _ (g : Gluable k E F) (s : Sound F) (la : length A.cells ≡ cells E) (lb : length B.cells ≡ cells F)
      (one : 1 ≤ o) (last : o ≤ cells G) where
    some_stay : 1 ≤ stretch_cells k E F o
    unfolding stay from
    some_stay = let e : cells G + 1 - o ≡ suc (cells G - o) = omega arith in rw e (first-stays (in_first k E p) _)

    abbrev kept : Bool → ℕ
    kept b = stay b (in_first k E) (onward G o)

    abbrev side : Bool → Part
    side b = if b then span Left (ordinality E p) (kept b) else span Right (ordinality F (in_second k E F p)) (kept b)

    by_side : (b : Bool) → in_first k E p ≡ b
        → handed_out (side_of A) (side_of B) (Ok (side b)) ≡ cells_bytes (take (kept b) (drop (o - 1) value))
    unfolding handed_out
    by_side true e = part_bytes A.cells _ (kept true) ∙ ap cells_bytes (stretch-left k A B g s la lb o one last e)
    by_side false e = part_bytes B.cells _ (kept false) ∙ ap cells_bytes (stretch-right k A B g s la lb o one last e)

    handed : Stretched (handed_out (side_of A) (side_of B) (Ok (stretch_at k E F p (stretch_cells k E F o))))
    unfolding stretch_at
    handed = (some_stay, by_side (in_first k E p) refl)

  -- where no refusal is told, the tests passed
  answered : (v : ℕ) (m : Res Part) → stretch v (side_of A) (side_of B) k o ≡ m → get_or (figures m) 0 0 ≡ 0
      → Stretched (handed_out (side_of A) (side_of B) m)
  unfolding stretch stretch_in
  answered v (Err x) e z = absurd
      (omega (arith, between-true bad_page11 x.number ((stretch-early v (side_of A) (side_of B) k o).early x e)))
  answered v (Ok q) e z =
      let t = bind-got (version_told v) _ q e in
      let a = bind-got (judge t.0 1 (side_of A)) _ q t.2 in
      let b = bind-got (judge t.0 2 (side_of B)) _ q a.2 in
      let c = bind-got (glue_tests (side_of A) (side_of B) k) _ q b.2 in
      let d = ensure-got (between 1 (cells G) o) outside6 0 _ q c.2 in
      let x = judge-passed t.0 1 (side_of A) a.1 in
      let y = judge-passed t.0 2 (side_of B) b.1 in
      let g = (glue-passed (side_of A) (side_of B) k x.0 c.1).0 in
      let r = between-true (cells G) o d.0 in
      subst (λ (w : Part). Stretched (handed_out (side_of A) (side_of B) (Ok w))) (got-one _ q d.1)
      (handed g y.0.sound (omega (arith, x.1, cell-bytes A.cells)) (omega (arith, y.1, cell-bytes B.cells)) r.0 r.1)

  -- `stretch` called with two arrays lent as sides: where it tells no refusal, it hands out cells of the glued array
  pub glued-cells : (v : ℕ) (c : StretchCall) → Stretches v (side_of A) (side_of B) k o c → get_or (told c) 0 0 ≡ 0
      → Stretched c.answer.now
  glued-cells v c w z =
      let h = stretches c w in
      rw h.bytes (answered v (stretch v (side_of A) (side_of B) k o) refl (rw h.refusal at z))
