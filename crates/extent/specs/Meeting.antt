-- Two extents compared axis by axis, as a chain over both has it; and the axes covered, as the paper asks it.
use Rattle.std.specs.Prelude.{ℕ, Bool, false, ◌&&◌, List, [], ◌∷◌, map, ◌≡◌, refl, length}
use Rattle.std.specs.List.{list_all, zip}
use Rattle.std.proofs.Common.{sym, ◌∙◌, ap, arith}
use Rattle.paper.specs.Numbers.{alike}
use Rattle.paper.specs.declared.Axis.{Axis}
use Rattle.paper.specs.Axes.{on_axis, inside}
use Rattle.paper.specs.Recipe.{covers}
use Rattle.laws.specs.Tests.{and_none, and-crossed}

-- both limits of the second axis lie on the first
abbrev pub axis_covers : Axis → Axis → Bool
axis_covers a b = on_axis a b.lo && on_axis a b.hi

-- as many of the one as of the other: each two are met side by side
pub alike-zip : {A B : Type 0} (m : A → B → Bool) (E : List A) (F : List B) → length F ≡ length E → alike m E F ≡ list_all (λ p. m p.0 p.1) (zip E F)
unfolding alike
alike-zip m [] [] h = refl
alike-zip m [] (b ∷ F) h = absurd (omega arith)
alike-zip m (a ∷ E) [] h = absurd (omega arith)
alike-zip m (a ∷ E) (b ∷ F) h = rw (alike-zip m E F (omega arith))

-- another number of axes
pub alike-other : (m : Axis → Axis → Bool) (E F : List Axis) → (length F ≡ length E → ⊥) → false ≡ alike m E F
unfolding alike
alike-other m [] [] h = absurd (h refl)
alike-other m [] (b ∷ F) h = refl
alike-other m (a ∷ E) [] h = refl
alike-other m (a ∷ E) (b ∷ F) h = rw (← alike-other m E F (λ e. h (omega arith))) (sym (and_none (m a b)))

-- ---- what the paper asks

-- two tests of each axis, the one after the other or all of the one first
alike_both : (f g : Axis → Axis → Bool) (E F : List Axis) → alike (λ a b. f a b && g a b) E F ≡ (alike f E F && alike g E F)
unfolding alike
alike_both f g [] [] = refl
alike_both f g [] (b ∷ F) = refl
alike_both f g (a ∷ E) [] = refl
alike_both f g (a ∷ E) (b ∷ F) =
    ap (λ (t : Bool). (f a b && g a b) && t) (alike_both f g E F) ∙ and-crossed (f a b) (g a b) (alike f E F) (alike g E F)

inside-each : (f : Axis → ℕ) (E F : List Axis) → alike (λ a b. on_axis a (f b)) E F ≡ inside E (map f F)
unfolding alike
inside-each f [] [] = refl
inside-each f [] (b ∷ F) = refl
inside-each f (a ∷ E) [] = refl
inside-each f (a ∷ E) (b ∷ F) = ap (λ (t : Bool). on_axis a (f b) && t) (inside-each f E F)

pub by-covers : (E F : List Axis) → alike axis_covers E F ≡ covers E F
by-covers E F =
    alike_both (λ a b. on_axis a b.lo) (λ a b. on_axis a b.hi) E F
    ∙ (λ j. inside-each (λ a. a.lo) E F j && inside-each (λ a. a.hi) E F j)
