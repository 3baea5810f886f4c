-- Two extents glued along an axis: the first with that axis longer by the second's. A store at the axis makes it.
use Prim.Native.Nat.{ℕ, suc, ◌+◌, ◌-◌, ◌≤◌, ◌<◌}
use Rattle.std.specs.Prelude.{◌≡◌, List, ◌∷◌, ◌++◌, length, set}
use Rattle.std.proofs.Math.Path.{ap}
use Rattle.std.proofs.Common.{ap₂, ◌∙◌, length-take}
use native.Mathlib.Omega.{arith}
use Rattle.std.proofs.Math.ListN.{take, drop}
use Rattle.std.proofs.Math.Seq.{set_split, take-set-lt}
use Rattle.paper.specs.declared.Axis.{Axis}
use Rattle.paper.specs.declared.Extent.{Extent}
use Rattle.paper.specs.Axes.{width, limited, axis_at}
use Rattle.paper.specs.Recipe.{glued}
use Rattle.paper.specs.Answers.{axis_count, axes_of}
use Rattle.laws.specs.Limits.{Sound}
use Rattle.laws.specs.Glue.{glued_axis}

-- k is an axis of the first, and both have limits in range
pub record Gluing (k : ℕ) (E F : List Axis) : Type 0 where
  pub one : 1 ≤ k
  pub last : k ≤ length E
  pub first : Sound E
  pub second : Sound F

-- the extent with another axis at an index
abbrev pub with_at : Extent → ℕ → Axis → Extent
with_at e i a = record { rank = e.rank; axes = set e.axes i a }

axes-set : (e : Extent) (i : ℕ) (a : Axis) → i < length (axes_of e) → axes_of (with_at e i a) ≡ set (axes_of e) i a
unfolding axes_of
axes-set e i a h = take-set-lt (axis_count e.rank) e.axes i a (omega (arith, length-take (axis_count e.rank) e.axes))

module _ (e : Extent) (F : List Axis) (k : ℕ) (one : 1 ≤ k) (last : k ≤ length (axes_of e)) where
  glued-at : axes_of (with_at e (k - 1) (glued_axis (axis_at k (axes_of e)) (axis_at k F))) ≡ glued k (axes_of e) F
  unfolding glued
  glued-at =
      let n : suc (k - 1) ≡ k = omega arith in
      axes-set e (k - 1) _ (omega arith)
      ∙ set_split (axes_of e) (k - 1) _ (omega arith)
      ∙ ap (λ (j : ℕ). take (k - 1) (axes_of e) ++ glued_axis (axis_at k (axes_of e)) (axis_at k F) ∷ drop j (axes_of e)) n

  -- by the two axes, and the second's width
  pub glued-told : (a b : Axis) (w : ℕ) → a ≡ axis_at k (axes_of e) → b ≡ axis_at k F → w ≡ width b
      → axes_of (with_at e (k - 1) (limited a.lo (a.hi + w))) ≡ glued k (axes_of e) F
  glued-told a b w p q f = ap (λ (x : Axis). axes_of (with_at e (k - 1) x))
      (ap (λ (n : ℕ). limited a.lo (a.hi + n)) f ∙ ap₂ glued_axis p q) ∙ glued-at
