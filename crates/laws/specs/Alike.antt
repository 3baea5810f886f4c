-- Two extents with the same limits, whatever their names, have the same cells: as many, at the same coordinates, in the same order.
use Rattle.std.specs.Prelude.{ℕ, suc, ◌+◌, ◌/◌, ◌%◌, ◌≡◌, refl, Bool, true, ◌&&◌, List, [], ◌∷◌, ◌++◌, eqb, length}
use Rattle.std.proofs.Common.{sym, ap, ap₂, ◌∙◌, arith}
use Rattle.paper.specs.Numbers.{alike}
use Rattle.paper.specs.declared.Axis.{Axis}
use Rattle.paper.specs.Axes.{cells, inside, offset, at_offset}
use Rattle.laws.specs.Tests.{and_right}
use Rattle.laws.specs.Places.{Inside, inside-true, true-inside}

-- two axes have the same limits
abbrev pub same_limits : Axis → Axis → Bool
same_limits a b = eqb a.lo b.lo && eqb a.hi b.hi

abbrev pub SameLimits : List Axis → List Axis → Type 0
SameLimits [] [] = Unit {0}
SameLimits [] (b ∷ F) = ⊥
SameLimits (a ∷ E) [] = ⊥
SameLimits (a ∷ E) (b ∷ F) = (a.lo ≡ b.lo) × (a.hi ≡ b.hi) × SameLimits E F

-- as many axes, whatever else is alike
pub alike-length : (f : Axis → Axis → Bool) (E F : List Axis) → alike f E F ≡ true → length E ≡ length F
unfolding alike
alike-length f [] [] e = refl
alike-length f [] (b ∷ F) e = let z : ◌≡◌ {A = ℕ} 0 1 = cc in absurd (omega arith)
alike-length f (a ∷ E) [] e = let z : ◌≡◌ {A = ℕ} 0 1 = cc in absurd (omega arith)
alike-length f (a ∷ E) (b ∷ F) e = ap suc (alike-length f E F (and_right (f a b) (alike f E F) e))

pub alike-back : (E F : List Axis) → SameLimits E F → SameLimits F E
alike-back [] [] s = tt
alike-back [] (b ∷ F) s = absurd s
alike-back (a ∷ E) [] s = absurd s
alike-back (a ∷ E) (b ∷ F) s = (sym s.0, sym s.1, alike-back E F s.2)

pub alike-append : (E F G H : List Axis) → SameLimits E F → SameLimits G H → SameLimits (E ++ G) (F ++ H)
alike-append [] [] G H s t = t
alike-append [] (b ∷ F) G H s t = absurd s
alike-append (a ∷ E) [] G H s t = absurd s
alike-append (a ∷ E) (b ∷ F) G H s t = (s.0, s.1, alike-append E F G H s.2 t)

pub alike-split : (E F G H : List Axis) → length E ≡ length F → SameLimits (E ++ G) (F ++ H) → SameLimits E F × SameLimits G H
alike-split [] [] G H e s = (tt, s)
alike-split [] (b ∷ F) G H e s = absurd (omega arith)
alike-split (a ∷ E) [] G H e s = absurd (omega arith)
alike-split (a ∷ E) (b ∷ F) G H e s = let r = alike-split E F G H (omega arith) s.2 in ((s.0, s.1, r.0), r.1)

-- ---- the same places

pub cells-alike : (E F : List Axis) → SameLimits E F → cells E ≡ cells F
unfolding cells
cells-alike [] [] s = refl
cells-alike [] (b ∷ F) s = absurd s
cells-alike (a ∷ E) [] s = absurd s
cells-alike (a ∷ E) (b ∷ F) s = rw (s.0, s.1, cells-alike E F s.2)

pub inside-alike : (E F : List Axis) (p : List ℕ) → SameLimits E F → inside E p ≡ inside F p
unfolding alike
inside-alike [] [] p s = refl
inside-alike [] (b ∷ F) p s = absurd s
inside-alike (a ∷ E) [] p s = absurd s
inside-alike (a ∷ E) (b ∷ F) [] s = refl
inside-alike (a ∷ E) (b ∷ F) (x ∷ p) s = rw (s.0, s.1, inside-alike E F p s.2)

pub alike-inside : (E F : List Axis) (p : List ℕ) → SameLimits E F → Inside E p → Inside F p
alike-inside E F p s h = inside-true F p (sym (inside-alike E F p s) ∙ true-inside E p h)

pub offset-alike : (E F : List Axis) (p : List ℕ) → SameLimits E F → offset E p ≡ offset F p
unfolding offset
offset-alike [] [] p s = refl
offset-alike [] (b ∷ F) p s = absurd s
offset-alike (a ∷ E) [] p s = absurd s
offset-alike (a ∷ E) (b ∷ F) [] s = refl
offset-alike (a ∷ E) (b ∷ F) (x ∷ p) s = rw (s.0, cells-alike E F s.2, offset-alike E F p s.2)

pub at_offset-alike : (E F : List Axis) (k : ℕ) → SameLimits E F → at_offset E k ≡ at_offset F k
unfolding at_offset
at_offset-alike [] [] k s = refl
at_offset-alike [] (b ∷ F) k s = absurd s
at_offset-alike (a ∷ E) [] k s = absurd s
at_offset-alike (a ∷ E) (b ∷ F) k s =
    ap₂ (λ (x n : ℕ). (x + k / n) ∷ at_offset E (k % n)) s.0 (cells-alike E F s.2) ∙ ap (λ (q : List ℕ). (b.lo + k / cells F) ∷ q) (at_offset-alike E F (k % cells F) s.2)
