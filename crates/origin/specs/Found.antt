-- A coordinate found in two extents put together: found in the first and in the second, or else outside.
use Rattle.std.specs.Prelude.{ℕ, ◌+◌, ◌*◌, ◌≡◌, refl, Bool, true, false, ◌&&◌, List, [], ◌∷◌, ◌++◌, length, if◌then◌else◌, Some, None, Option}
use Rattle.std.proofs.Common.{ap, ◌∙◌, arith}
use Rattle.paper.specs.declared.Axis.{Axis}
use Rattle.paper.specs.Numbers.{alike}
use Rattle.paper.specs.Axes.{cells, on_axis, inside, offset}
use Rattle.laws.specs.Joins.{offset-append}
use Rattle.origin.specs.Origins.{found_in}

and-more : (x y z : Bool) → (x && (y && z)) ≡ ((x && y) && z)
and-more true y z = refl
and-more false y z = refl

pub inside_both : (E F : List Axis) (p q : List ℕ) → length p ≡ length E → inside (E ++ F) (p ++ q) ≡ (inside E p && inside F q)
unfolding alike
inside_both [] F [] q h = refl
inside_both [] F (x ∷ p) q h = absurd (omega arith)
inside_both (a ∷ E) F [] q h = absurd (omega arith)
inside_both (a ∷ E) F (x ∷ p) q h =
    ap (λ (b : Bool). on_axis a x && b) (inside_both E F p q (omega arith)) ∙ and-more (on_axis a x) (inside E p) (inside F q)

-- found so many cells after the first of the axes before, of n cells each, and so many in the axes after
abbrev pub joined : ℕ → Option ℕ → Option ℕ → Option ℕ
joined n (Some i) (Some j) = Some (i * n + j)
joined n (Some i) None = None
joined n None f = None

pub found-both : (E F : List Axis) (p q : List ℕ) → length p ≡ length E
    → found_in (E ++ F) (p ++ q) ≡ joined (cells F) (found_in E p) (found_in F q)
unfolding found_in
found-both E F p q h = rw (inside_both E F p q h, offset-append E F p q h) (by (inside E p) (inside F q))
  where
    by : (b c : Bool) → (if b && c then Some (offset E p * cells F + offset F q) else None)
        ≡ joined (cells F) (if b then Some (offset E p) else None) (if c then Some (offset F q) else None)
    by true true = refl
    by true false = refl
    by false c = refl
