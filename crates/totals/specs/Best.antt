-- The best of the filled cells, the first of equals: the best so far, empty where nothing was filled, and the cells left.
use Rattle.std.specs.Prelude.{ℕ, ◌+◌, ◌≡◌, refl, Bool, List, [], ◌∷◌, if◌then◌else◌}
use Rattle.std.specs.List.{FoldsTo}
use Rattle.std.proofs.Common.{◌∙◌}
use Rattle.std.proofs.Math.Bool.{true, false}
use Rattle.paper.specs.declared.Cell.{Cell}
use Rattle.paper.specs.declared.Cell.TheVariants.{Empty, Int, Float, Truth}
use Rattle.paper.specs.Operators.{empty_cell}
use Rattle.paper.specs.Totals.{Numbered, filled_from, below, best, best_of}
use Rattle.totals.specs.Cells.{in_front}

-- smaller, or larger where the largest is asked for
abbrev pub beats_of : Bool → Cell → Cell → Bool
beats_of largest c b = if largest then below b c else below c b

-- the best of the cells before, b, or c where it is filled and beats it
abbrev pub better_of : Bool → Cell → Cell → Cell
better_of largest c b = if empty_cell c then b else (if empty_cell b then c else (if beats_of largest c b then c else b))

-- the best of b, if it is filled, and of the cells to come
unfoldable pub best_on : Bool → Cell → List Numbered → Cell
best_on largest b cs = if empty_cell b then best_of (beats_of largest) cs else best (beats_of largest) b cs

pub best-start : (largest : Bool) (cs : List Numbered) → best_on largest Empty cs ≡ best_of (beats_of largest) cs
unfolding best_on
best-start largest cs = refl

best-end : (largest : Bool) (b : Cell) → best_on largest b [] ≡ b
unfolding best_on best_of best
best-end largest Empty = refl
best-end largest (Int z) = refl
best-end largest (Float x) = refl
best-end largest (Truth v) = refl

-- by what c, b and their comparison are
module _ (largest : Bool) (c b : Cell) (o : ℕ) (cs : List Numbered) where
  either : empty_cell c ≡ false → empty_cell b ≡ false → (z : Bool)
      → best (beats_of largest) (if z then c else b) cs ≡ best_on largest (if z then c else b) cs
  unfolding best_on
  either p q true = rw p
  either p q false = rw q

  turned : (x y : Bool) → empty_cell c ≡ x → empty_cell b ≡ y → best_on largest b (in_front c o cs) ≡ best_on largest (better_of largest c b) cs
  unfolding best_on best_of best
  turned true y p q = rw p
  turned false true p q = rw (p, q, p)
  turned false false p q = rw (p, q) (either p q (beats_of largest c b))

-- going over the cells, each in its turn
pub best-folds : (largest : Bool) (o : ℕ) (cs : List Cell) (b r : Cell) → FoldsTo (λ b c r. r ≡ better_of largest c b) b cs r
    → best_on largest b (filled_from o cs) ≡ r
unfolding filled_from
best-folds largest o [] b r f = best-end largest b ∙ f
best-folds largest o (c ∷ cs) b r f =
    turned largest c b o (filled_from (o + 1) cs) _ _ refl refl
    ∙ rw (← f.1) (best-folds largest (o + 1) cs f.0 r f.2)
