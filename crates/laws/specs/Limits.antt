-- An extent's limits as facts: in range and not crossed, within those of another extent, and covered by it. What the paper tests
-- says them, and they say what the paper tests; with them every axis has a position, and every array a cell.
use Rattle.std.specs.Prelude.{ℕ, zero, suc, ◌*◌, ◌≤◌, ◌<◌, ◌≡◌, refl, true, List, [], ◌∷◌, leb, length, get_or, take, drop}
use Rattle.std.proofs.Common.{sym, not-suc-le-zero, le_of_suc-le-suc, mul-le-mul_right, one-mul, le_refl, le_trans, le_of_eq, arith, leb-true, le-leb}
use Rattle.paper.specs.Numbers.{alike}
use Rattle.paper.specs.declared.Name.{Name}
use Rattle.paper.specs.declared.Axis.{Axis}
use Rattle.paper.specs.Limits.{reach, most_cells}
use Rattle.paper.specs.Axes.{cells, good_names, good_limits, good_extent, within}
use Rattle.laws.specs.Tests.{and_left, and_right, and_both}

-- ---- in range, and lower at most upper

abbrev pub Sound : List Axis → Type 0
Sound [] = Unit {0}
Sound (a ∷ E) = (a.lo ≤ a.hi) × (a.hi ≤ 2 * reach) × Sound E

pub limits-true : (E : List Axis) → good_limits E ≡ true → Sound E
unfolding good_limits
limits-true [] e = tt
limits-true (a ∷ E) e =
    let r = and_right (leb a.lo a.hi) _ e in
    (leb-true _ _ (and_left (leb a.lo a.hi) _ e), leb-true _ _ (and_left (leb a.hi (2 * reach)) _ r), limits-true E (and_right (leb a.hi (2 * reach)) _ r))

-- a good extent
pub extent-true : (N : List Name) (E : List Axis) → good_extent N E ≡ true → Sound E × (cells E ≤ most_cells)
extent-true N E e =
    let r = and_right (good_names N) _ e in
    (limits-true E (and_left (good_limits E) _ r), leb-true _ _ (and_right (good_limits E) _ r))

pub sound-take : (E : List Axis) (i : ℕ) → Sound E → Sound (take i E)
sound-take E zero h = tt
sound-take [] (suc i) h = tt
sound-take (a ∷ E) (suc i) h = (h.0, h.1, sound-take E i h.2)

pub sound-drop : (E : List Axis) (i : ℕ) → Sound E → Sound (drop i E)
sound-drop E zero h = h
sound-drop [] (suc i) h = tt
sound-drop (a ∷ E) (suc i) h = sound-drop E i h.2

pub sound-at : (E : List Axis) (i : ℕ) (d : Axis) → Sound E → i < length E
    → ((get_or E i d).lo ≤ (get_or E i d).hi) × ((get_or E i d).hi ≤ 2 * reach)
sound-at [] i d h k = absurd (not-suc-le-zero k)
sound-at (a ∷ E) zero d h k = (h.0, h.1)
sound-at (a ∷ E) (suc i) d h k = sound-at E i d h.2 (le_of_suc-le-suc k)

-- ---- the number of cells

pub cells-more : (a : Axis) (E : List Axis) → a.lo ≤ a.hi → cells E ≤ cells (a ∷ E)
unfolding cells
cells-more a E h = le_trans (le_of_eq (sym (one-mul (cells E)))) (mul-le-mul_right (cells E) (omega arith))

pub cells-pos : (E : List Axis) → Sound E → 1 ≤ cells E
unfolding cells
cells-pos [] h = omega arith
cells-pos (a ∷ E) h = le_trans (cells-pos E h.2) (cells-more a E h.0)

pub cells-drop : (E : List Axis) (i : ℕ) → Sound E → cells (drop i E) ≤ cells E
cells-drop E zero h = le_refl (cells E)
cells-drop [] (suc i) h = le_refl (cells [])
cells-drop (a ∷ E) (suc i) h = le_trans (cells-drop E i h.2) (cells-more a E h.0)

-- ---- one extent within another, axis by axis

abbrev pub Within : List Axis → List Axis → Type 0
Within [] [] = Unit {0}
Within [] (m ∷ M) = ⊥
Within (a ∷ E) [] = ⊥
Within (a ∷ E) (m ∷ M) = (m.lo ≤ a.lo) × (a.hi ≤ m.hi) × Within E M

pub true-within : (E M : List Axis) → Within E M → Sound M → within E M ≡ true
unfolding alike
true-within [] [] w s = refl
true-within [] (m ∷ M) w s = absurd w
true-within (a ∷ E) [] w s = absurd w
true-within (a ∷ E) (m ∷ M) w s =
    and_both (and_both (le-leb _ _ w.0) (and_both (le-leb _ _ w.1) (le-leb _ _ s.1))) (true-within E M w.2 s.2)
