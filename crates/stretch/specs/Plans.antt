-- The plan of a stretch: the paper's answer for cell buffers of so many bytes, since cells aren't judged.
use Rattle.std.specs.Prelude.{ℕ, ◌+◌, ◌-◌, ◌*◌, ◌/◌, ◌≤◌, ◌≡◌, Bool, true, false, List, [], length, Ok, Err}
use Rattle.std.proofs.Common.{sym, ap, ◌∙◌, arith}
use Rattle.std.proofs.Math.Path.{ap₂}
use Rattle.paper.specs.declared.Sizes.{Sizes}
use Rattle.paper.specs.declared.Name.{Name}
use Rattle.paper.specs.declared.Axis.{Axis}
use Rattle.paper.specs.declared.Extent.{Extent}
use Rattle.paper.specs.declared.Refusal.{Refusal}
use Rattle.paper.specs.declared.Part.{Part}
use Rattle.paper.specs.Limits.{most_cells, cell_bytes}
use Rattle.paper.specs.Refusals.{Res, refusal, between, outside6}
use Rattle.paper.specs.Axes.{cells}
use Rattle.paper.specs.Bundle.{version_told}
use Rattle.paper.specs.Recipe.{glued}
use Rattle.paper.specs.Stretch.{Side, stretch_in, stretch}
use Rattle.paper.specs.Answers.{axes_of}
use Rattle.laws.specs.Tests.{between-true}
use Rattle.laws.specs.Glue.{block_cells}
use Rattle.laws.proofs.Glue.{Gluable, cells-glued}
use Rattle.extent.specs.Judged.{Small}
use Rattle.origin.specs.Asks.{Axial}
use Rattle.stretch.specs.Sides.{sided, SideJudged, GlueJudged, side-clean, glue-passed}
use Rattle.stretch.specs.Turns.{turn_part, InBuffer, turn_is}

-- a part that is handed out lies in its buffer
abbrev pub Buffered : ℕ → ℕ → Res Part → Type 0
Buffered l r (Ok p) = InBuffer l r p
Buffered l r (Err x) = Unit {0}

-- of a left side (type t, names M, extent e, l bytes), a right side (u, N, f, r bytes), axis k and ordinality o: the answer is the
-- paper's, in a version or in the version told, whatever the buffers hold, and a part lies in its buffer
pub record StretchFound (paper : Side → Side → ℕ → ℕ → Res Part) (t : ℕ) (M : List Name) (e : Extent) (l : ℕ) (u : ℕ) (N : List Name)
    (f : Extent) (r : ℕ) (k o : ℕ) (a : Res Part) : Type 0 where
  pub said : (bs cs : List ℕ) → length bs ≡ l → length cs ≡ r → a ≡ paper (sided t M e bs) (sided u N f cs) k o
  pub within : Buffered l r a

module _ (w : ℕ) {t l u r k o : ℕ} {M N : List Name} {e f : Extent} where
  -- what is found in the version told
  pub in-version : {z : Sizes} {a : Res Part} → version_told w ≡ Ok z → StretchFound (stretch_in z) t M e l u N f r k o a
      → StretchFound (stretch w) t M e l u N f r k o a
  unfolding stretch
  in-version h s = record { said = λ bs cs p q. rw h (s.said bs cs p q); within = s.within }

  -- a version that is none is refused before all else
  pub no-version : {x : Refusal} → version_told w ≡ Err x → StretchFound (stretch w) t M e l u N f r k o (Err x)
  unfolding stretch
  no-version h = record { said = λ bs cs p q. rw h; within = tt }

-- the first refusal, of the left, of the right, or of what gluing asks
module _ {z : Sizes} {t l u r k o : ℕ} {M N : List Name} {e f : Extent} {x : Refusal} where
  pub left-refused : SideJudged z t M e l 1 (Err x) → StretchFound (stretch_in z) t M e l u N f r k o (Err x)
  unfolding stretch_in
  left-refused h = record { said = λ bs cs p q. rw (sym (h.said bs p)); within = tt }

  module _ (left : SideJudged z t M e l 1 (Ok tt)) where
    pub right-refused : SideJudged z u N f r 2 (Err x) → StretchFound (stretch_in z) t M e l u N f r k o (Err x)
    unfolding stretch_in
    right-refused h = record { said = λ bs cs p q. rw (sym (left.said bs p), sym (h.said cs q)); within = tt }

    pub glue-refused : SideJudged z u N f r 2 (Ok tt) → GlueJudged t M e u N f k (Err x) → StretchFound (stretch_in z) t M e l u N f r k o (Err x)
    unfolding stretch_in
    glue-refused right h = record { said = λ bs cs p q. rw (sym (left.said bs p), sym (right.said cs q), sym (h.said bs cs)); within = tt }

-- every test passed but the last
pub record SidesPassed (z : Sizes) (t : ℕ) (M : List Name) (e : Extent) (l : ℕ) (u : ℕ) (N : List Name) (f : Extent) (r : ℕ)
    (k : ℕ) : Type 0 where
  pub left : SideJudged z t M e l 1 (Ok tt)
  pub right : SideJudged z u N f r 2 (Ok tt)
  pub glue : GlueJudged t M e u N f k (Ok tt)

module _ {z : Sizes} {t l u r k : ℕ} {M N : List Name} {e f : Extent} (P : SidesPassed z t M e l u N f r k) where
  abbrev E : List Axis
  E = axes_of e

  abbrev F : List Axis
  F = axes_of f

  left : Small E × (l ≡ cells E * cell_bytes)
  left = side-clean P.left

  right : Small F × (r ≡ cells F * cell_bytes)
  right = side-clean P.right

  glue : Gluable k E F × Small (glued k E F)
  glue = glue-passed (sided t M e []) (sided u N f []) k left.0 (sym (P.glue.said [] []))

  pub axials : Axial k E × Axial k F
  axials =
      let g = glue.0 in
      (record { small = left.0; one = g.one; last = g.first }, record { small = right.0; one = g.one; last = g.second })

  -- the two buffers have 9 bytes a cell of the glued array
  bytes : l + r ≡ cells (glued k E F) * cell_bytes
  bytes = omega (arith, left.1, right.1, cells-glued k E F glue.0)

  pub few_bytes : l + r ≤ most_cells * cell_bytes
  few_bytes = omega (arith, bytes, glue.1.few)

  module _ (o : ℕ) where
    counted : {b : Bool} → between 1 ((l + r) / cell_bytes) o ≡ b → between 1 (cells (glued k E F)) o ≡ b
    counted q = let n : cells (glued k E F) ≡ (l + r) / cell_bytes = omega (arith, bytes) in rw n q

    pub outside : between 1 ((l + r) / cell_bytes) o ≡ false
        → StretchFound (stretch_in z) t M e l u N f r k o (Err (refusal outside6 0 0))
    unfolding stretch_in
    outside q = record { said = λ bs cs x y. rw (sym (P.left.said bs x), sym (P.right.said cs y), sym (P.glue.said bs cs), counted q); within = tt }

    module _ (q : between 1 ((l + r) / cell_bytes) o ≡ true) where
      range : (1 ≤ o) × (o ≤ cells (glued k E F))
      range = between-true (cells (glued k E F)) o (counted q)

      pub in-few : (1 ≤ o) × (o ≤ most_cells)
      in-few = omega (arith, range, glue.1.few)

      -- m and n cells are a block of each side
      pub part-found : {m n : ℕ} {p : Part} → m ≡ block_cells k E → n ≡ block_cells k F → p ≡ turn_part m n (o - 1)
          → StretchFound (stretch_in z) t M e l u N f r k o (Ok p)
      unfolding stretch_in
      part-found {m} {n} {p} mis nis s =
          let T = turn_is k E F glue.0 right.0.sound o range.0 range.1 in
          let b : p ≡ turn_part (block_cells k E) (block_cells k F) (o - 1) = s ∙ ap₂ (λ (x y : ℕ). turn_part x y (o - 1)) mis nis in
          record {
            said = λ bs cs x y. rw (sym (P.left.said bs x), sym (P.right.said cs y), sym (P.glue.said bs cs), counted q) (ap Ok (b ∙ T.0));
            within = rw (b, left.1, right.1) T.1;
          }
