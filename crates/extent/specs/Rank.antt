-- What `rank_of` tells of an extent: how many axes it has, which are the first of its array. Loops over the axes count up to it, and
-- cite the axes left, one axis more and at the end.
use Rattle.std.specs.Prelude.{ℕ, ◌+◌, ◌≤◌, ◌<◌, ◌≡◌, [], ◌∷◌, length, get_or, take, drop}
use Rattle.std.proofs.Common.{sym, add-one, arith, drop_of_length-le, get_or-take, length-take-le}
use Rattle.std.proofs.Math.ListN.{get_or-eq_default}
use Rattle.paper.specs.declared.Axis.{Axis}
use Rattle.paper.specs.declared.Extent.{Extent}
use Rattle.paper.specs.Limits.{most_axes}
use Rattle.paper.specs.Axes.{no_axis}
use Rattle.paper.specs.Answers.{axis_count, axes_of}
use Rattle.laws.specs.Loops.{drop-first-cons}

-- r is the number of e's axes
pub record Rank (e : Extent) (r : ℕ) : Type 0 where
  pub few : r ≤ most_axes
  pub number : r ≡ length (axes_of e)
  pub room : r ≤ length e.axes
  pub first : take r e.axes ≡ axes_of e

-- so many as its rank tells of
pub rank-told : (e : Extent) (r : ℕ) → length e.axes ≡ most_axes → r ≡ axis_count e.rank → r ≤ most_axes → Rank e r
unfolding axes_of
rank-told e r l q h = record {
  few = h;
  number = rw (← q) (sym (length-take-le r e.axes (omega arith)));
  room = omega arith;
  first = rw q;
}

-- the axis at i, from 0
abbrev pub axis_no : Extent → ℕ → Axis
axis_no e i = get_or e.axes i no_axis

module _ (e : Extent) (r : ℕ) (k : Rank e r) (i : ℕ) where
  -- one axis more
  pub axes-up : i < r → drop i (axes_of e) ≡ axis_no e i ∷ drop (i + 1) (axes_of e)
  axes-up b = rw (add-one i, ← k.first) (drop-first-cons e.axes r k.room i no_axis b)

  -- at the end
  pub axes-end : r ≤ i → drop i (axes_of e) ≡ []
  axes-end b = drop_of_length-le (axes_of e) {i = i} (omega (arith, k.number))

  -- the axis there, and no axis past the end
  pub axis-first : i < r → axis_no e i ≡ get_or (axes_of e) i no_axis
  axis-first b = rw (← k.first) (sym (get_or-take r e.axes i no_axis b))

  pub axis-past : r ≤ i → no_axis ≡ get_or (axes_of e) i no_axis
  axis-past b = sym (get_or-eq_default (axes_of e) no_axis {n = i} (omega (arith, k.number)))
