-- A step result's maximum, `*` for every limit: as many of the range as there are axes.
use Rattle.std.specs.Prelude.{ℕ, suc, zero, ◌≤◌, ◌≡◌, refl, List, [], ◌∷◌, map, length, take, replicate}
use Rattle.std.proofs.Common.{ap, arith}
use Rattle.paper.specs.declared.Axis.{Axis}
use Rattle.paper.specs.declared.Extent.{Extent}
use Rattle.paper.specs.Limits.{most_axes}
use Rattle.paper.specs.Axes.{no_axis, star}
use Rattle.paper.specs.Answers.{axis_count, axes_of}
use Rattle.laws.specs.Answers.{count-few}

first-stars : (n m : ℕ) (l : List Axis) → n ≤ m → n ≤ length l → take n (replicate m (star no_axis)) ≡ map star (take n l)
first-stars zero m l h k = refl
first-stars (suc n) zero l h k = absurd (omega arith)
first-stars (suc n) (suc m) [] h k = absurd (omega arith)
first-stars (suc n) (suc m) (a ∷ l) h k = ap (λ (x : List Axis). star no_axis ∷ x) (first-stars n m l (omega arith) (omega arith))

-- an extent with room for all
pub starred-axes : (e : Extent) → length e.axes ≡ most_axes
    → axes_of (record { rank = e.rank; axes = replicate most_axes (star no_axis) }) ≡ map star (axes_of e)
unfolding axes_of
starred-axes e n =
    let f = count-few e.rank in
    first-stars (axis_count e.rank) most_axes e.axes f (omega (arith, f, n))
