-- The paper's tests of an extent, at the axes left, with one axis more and at the end: a loop over the axes keeps the test of the axes
-- left equal to the whole test.
use Rattle.std.specs.Prelude.{ℕ, zero, suc, ◌+◌, ◌*◌, ◌≤◌, ◌<◌, ◌≡◌, refl, Bool, true, false, not, ◌&&◌, List, [], ◌∷◌, leb, length, take, drop, get_or}
use Rattle.std.specs.List.{list_all, list_any}
use borrow.Author.Tests.{eqb-true, eqb-false}
use Rattle.std.proofs.Math.Path.{sym}
use Rattle.std.proofs.Common.{add-one, arith, drop_of_length-le, eqb, eq-eqb, length-take-le, ne_eqb}
use Rattle.paper.specs.Numbers.{zeros}
use Rattle.paper.specs.Bundle.{names_fit}
use Rattle.laws.specs.Loops.{drop-first-cons}
use Rattle.paper.specs.declared.Sizes.{Sizes}
use Rattle.paper.specs.declared.Name.{Name}
use Rattle.paper.specs.declared.Axis.{Axis}
use Rattle.paper.specs.Limits.{reach}
use Rattle.paper.specs.Axes.{letters_of, good_name, named, good_names, no_name, good_limits, no_axis}
use Rattle.laws.specs.Limits.{Sound}

-- ---- one axis

-- its limits are in range, lower at most upper
abbrev pub in_range : Axis → Bool
in_range a = leb a.lo a.hi && leb a.hi (2 * reach)

-- the same as a fact
abbrev pub Ranged : Axis → Type 0
Ranged a = (a.lo ≤ a.hi) × (a.hi ≤ 2 * reach)

-- of each axis of an extent, and of none past the end
pub sound-axis : (E : List Axis) (i : ℕ) → Sound E → Ranged (get_or E i no_axis)
sound-axis [] i s = omega arith
sound-axis (a ∷ E) zero s = (s.0, s.1)
sound-axis (a ∷ E) (suc i) s = sound-axis E i s.2

pub and-and : (x y z : Bool) → (x && (y && z)) ≡ ((x && y) && z)
and-and true y z = refl
and-and false y z = refl

-- ---- every name

swapped : (a b : ℕ) → eqb a b ≡ eqb b a
swapped a b = by (eqb a b) refl
  where
    by : (t : Bool) → eqb a b ≡ t → t ≡ eqb b a
    by true e = let h : b ≡ a = sym (eqb-true a b e) in sym (eq-eqb b a h)
    by false e = sym (ne_eqb b a (λ h. eqb-false a b e (sym h)))

-- the name is among them, as the derived equality has it
pub named-any : (n : Name) (N : List Name) → named n N ≡ list_any (λ m. eqb m.first n.first && eqb m.last n.last) N
unfolding named
named-any n [] = refl
named-any n (m ∷ N) = rw (named-any n N, swapped n.first m.first, swapped n.last m.last)

module _ (N : List Name) (r : ℕ) (h : r ≤ length N) (i : ℕ) where
  pub names-up : i < r → good_names (drop i (take r N))
      ≡ (good_name (get_or N i no_name) && (not (named (get_or N i no_name) (drop (i + 1) (take r N))) && good_names (drop (i + 1) (take r N))))
  unfolding good_names
  names-up b = rw (add-one i, drop-first-cons N r h i no_name b)

  pub names-end : r ≤ i → true ≡ good_names (drop i (take r N))
  unfolding good_names
  names-end b = rw (drop_of_length-le (take r N) {i = i} (omega (arith, length-take-le r N h)))

-- each no longer than a version's names
pub fit-all : (z : Sizes) (N : List Name) → names_fit z N ≡ list_all (λ n. zeros (drop z.name (letters_of n))) N
unfolding names_fit
fit-all z [] = refl
fit-all z (n ∷ N) = rw (fit-all z N)

-- ---- every axis

pub limits-all : (E : List Axis) → good_limits E ≡ list_all in_range E
unfolding good_limits
limits-all [] = refl
limits-all (a ∷ E) = rw (limits-all E) (and-and (leb a.lo a.hi) (leb a.hi (2 * reach)) _)
