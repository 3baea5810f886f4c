-- Where cell k of a moved result comes from, a line a move: found in an extent, counted in blocks, or the same cell. The code answers
-- these lines, and the runs of a result are read off them.
use Prim.Native.Nat.{ℕ, ◌+◌, ◌-◌, ◌*◌, ◌/◌, ◌%◌, ◌≤◌, ◌<◌}
use Rattle.std.specs.Prelude.{◌≡◌, Bool, true, false, eqb, length, get_or, drop, if◌then◌else◌}
use Rattle.std.proofs.Math.Path.{refl, sym}
use Rattle.std.proofs.Common.{ap, ◌∙◌, arith, eqb-true}
use mathlib.Core.List.{List}
use Rattle.std.proofs.lemmas.Bool.{eqb-false}
use Rattle.paper.specs.declared.Axis.{Axis}
use Rattle.paper.specs.declared.Move.{Move}
use Rattle.paper.specs.declared.Move.TheVariants.{Trim, Slice, Reshape, Shift, Rename, Update, Put, Glue}
use Rattle.paper.specs.Numbers.{position_at}
use Rattle.paper.specs.Axes.{cells, offset, at_offset, axis_at, without, put_in}
use Rattle.paper.specs.Recipe.{Step, result_axes}
use Rattle.paper.specs.Values.{from_a, overlaid, whence}
use Rattle.laws.specs.Places.{inside-length}
use Rattle.laws.specs.Glue.{block_cells}
use Rattle.origin.specs.declared.Origin.{Origin}
use Rattle.origin.specs.declared.Origin.TheVariants.{FromA}
use Rattle.origin.specs.Origins.{Moving, origin_at, found_in, in_a, over_a, found_first, found_inside, found-over, turn_origin}
use Rattle.origin.specs.Asks.{slice-asks, put-axis, glue-asks}
use Rattle.origin.specs.Blocks.{slice-offset}
use Rattle.origin.specs.Lies.{own-offset, own-inside, shift-own, same-own, lies}
use Rattle.origin.specs.Patches.{patch, patch-on, patch-off}
use Rattle.origin.specs.Counts.{glue-origin}

abbrev pub comes : Move → Step → List Axis → List Axis → List Axis → ℕ → Origin
comes m st E F G k = origin_at E F (whence m st E F (at_offset G k))

module _ {st : Step} {E F G : List Axis} {k : ℕ} where
  pub trim-comes : Moving Trim st E F G → k < cells G → comes Trim st E F G k ≡ in_a (found_in E (at_offset G k))
  unfolding whence
  trim-comes M h = sym (found_inside _ _ _ (lies M h))

  pub slice-comes : Moving Slice st E F G → k < cells G
      → comes Slice st E F G k ≡ FromA (offset E (put_in st.axis (position_at 0 st.detail) (at_offset (without st.axis E) k)))
  unfolding whence result_axes origin_at
  slice-comes M h = rw M.axes

  -- the same, counted in blocks and layers
  pub slice-layers : Moving Slice st E F G → k < cells G
      → comes Slice st E F G k ≡ FromA (k / cells (drop st.axis E) * block_cells st.axis E
      + ((position_at 0 st.detail - (axis_at st.axis E).lo) * cells (drop st.axis E) + k % cells (drop st.axis E)))
  slice-layers M h = let a = slice-asks M h in slice-comes M h ∙ ap FromA (slice-offset a.axial _ k a.lt)

  pub reshape-comes : Moving Reshape st E F G → k < cells G → comes Reshape st E F G k ≡ in_a (found_in E (at_offset G k))
  unfolding whence
  reshape-comes M h = sym (found_first _ _ _)

  pub shift-comes : Moving Shift st E F G → k < cells G → comes Shift st E F G k ≡ FromA k
  unfolding whence origin_at
  shift-comes M h = rw (own-offset (shift-own M h))

  pub rename-comes : Moving Rename st E F G → k < cells G → comes Rename st E F G k ≡ FromA k
  unfolding whence result_axes origin_at
  rename-comes M h = rw (own-offset (same-own M.axes h))

  pub update-comes : Moving Update st E F G → k < cells G → comes Update st E F G k ≡ over_a k (found_in F (at_offset G k))
  unfolding whence result_axes
  update-comes M h = sym (found-over _ _ _ _ (own-offset (same-own M.axes h)))

  pub put-comes : Moving Put st E F G → k < cells G → comes Put st E F G k ≡ over_a k (found_in (patch st F) (at_offset G k))
  unfolding whence result_axes origin_at
  put-comes M h = by (eqb (get_or p (st.axis - 1) 0) x) refl
    where
      p : List ℕ
      p = at_offset G k

      x : ℕ
      x = position_at 0 st.detail

      own : offset E p ≡ k
      own = own-offset (same-own M.axes h)

      long : length p ≡ length E
      long = inside-length E p (own-inside (same-own M.axes h))

      last : st.axis ≤ length p
      last = omega (arith, long, (put-axis M).1)

      same : length p ≡ length F + 1
      same = omega (arith, long, (put-axis M).2)

      by : (b : Bool) → eqb (get_or p (st.axis - 1) 0) x ≡ b
          → origin_at E F (if b then overlaid F (without st.axis p) p else from_a p) ≡ over_a k (found_in (patch st F) p)
      by true e =
          sym (ap (over_a k) (patch-on st.axis x F p (put-axis M).0 last same (eqb-true _ _ e))
          ∙ found-over E p F (without st.axis p) own)
      by false e =
          sym (ap (over_a k) (patch-off st.axis x F p (put-axis M).0 last same (eqb-false _ _ e))
          ∙ ap FromA (sym own))

  pub glue-comes : Moving Glue st E F G → k < cells G
      → comes Glue st E F G k ≡ turn_origin (block_cells st.axis E) (block_cells st.axis F) k
  unfolding whence result_axes
  glue-comes M h = rw M.axes (sym (glue-origin (glue-asks M) (rw M.axes at h)))
