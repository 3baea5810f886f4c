-- A coordinate's positions beside an extent's axes, and an ordinality in range. The three cases of a place, each by its tests: inside
-- the extent, inside the maximum, neither.
use Rattle.std.specs.Prelude.{ℕ, ◌≤◌, ◌≡◌, refl, Bool, true, false, List, length, take}
use Rattle.std.proofs.Common.{ap}
use Rattle.paper.specs.declared.Name.{Name}
use Rattle.paper.specs.declared.Axis.{Axis}
use Rattle.paper.specs.declared.Place.{Place}
use Rattle.paper.specs.declared.Place.TheVariants.{At, InMaximum, Beyond}
use Rattle.paper.specs.Axes.{cells, inside, ordinality, place_of, shaped}
use Rattle.laws.specs.Places.{inside-true, inside-length}
use Rattle.paper.specs.declared.Extent.{Extent}
use Rattle.paper.specs.Answers.{axes_of}
use Rattle.extent.specs.Rank.{Rank}
use Rattle.place.specs.declared.Coordinate.{Coordinate}

-- the positions of a coordinate, as many as there are axes
abbrev pub positions_of : List Axis → Coordinate → List ℕ
positions_of E p = take (length E) p.at

pub first-positions : (e : Extent) (r : ℕ) (p : Coordinate) → Rank e r → take r p.at ≡ positions_of (axes_of e) p
first-positions e r p k = ap (λ (n : ℕ). take n p.at) k.number

-- o is the ordinality of a cell
pub record Counted (E : List Axis) (o : ℕ) : Type 0 where
  pub one : 1 ≤ o
  pub last : o ≤ cells E

-- another number of positions than axes
pub inside-other : (E : List Axis) (p : List ℕ) → (length p ≡ length E → ⊥) → inside E p ≡ false
inside-other E p h = by (inside E p) refl
  where
    by : (b : Bool) → inside E p ≡ b → b ≡ false
    by true e = absurd (h (inside-length E p (inside-true E p e)))
    by false e = refl

-- ---- the cases

module _ (t : ℕ) (N : List Name) (E M : List Axis) (p : List ℕ) where
  pub at-ordinality : (o : ℕ) → inside E p ≡ true → o ≡ ordinality E p → At (record { 0 = o }) ≡ place_of (shaped t N E M) p
  unfolding place_of
  at-ordinality o e f = rw e (ap {B = Place} (λ (n : ℕ). At (record { 0 = n })) f)

  pub in-maximum : inside E p ≡ false → inside M p ≡ true → InMaximum ≡ place_of (shaped t N E M) p
  unfolding place_of
  in-maximum e f = rw (e, f)

  pub beyond : inside E p ≡ false → inside M p ≡ false → Beyond ≡ place_of (shaped t N E M) p
  unfolding place_of
  beyond e f = rw (e, f)
