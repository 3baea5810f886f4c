-- Smallest and largest compare filled cells alone: whatever a comparison with an empty cell gives, they are the same, and so is the first
-- of equals.
use Rattle.std.specs.Prelude.{ℕ, ◌+◌, ◌≡◌, Bool, ◌||◌, if◌then◌else◌}
use Rattle.std.proofs.Math.Path.{refl}
use Rattle.std.proofs.Math.Bool.{true, false}
use mathlib.Core.List.{List, [], ◌∷◌}
use Rattle.paper.specs.declared.Cell.{Cell}
use Rattle.paper.specs.Operators.{empty_cell}
use Rattle.paper.specs.Totals.{Numbered, filled_from, best, best_of}
use Rattle.totals.specs.Best.{beats_of}

-- a comparison that gives v where one of the two is empty
abbrev pub empty_as : Bool → (Cell → Cell → Bool) → Cell → Cell → Bool
empty_as v beats c b = if empty_cell c || empty_cell b then v else beats c b

module _ (v : Bool) (beats : Cell → Cell → Bool) where
  -- the best of these cells is the same, and so from a filled cell on
  abbrev Same : List Numbered → Type 0
  Same later =
      ((b : Cell) → empty_cell b ≡ false → best (empty_as v beats) b later ≡ best beats b later)
      × (best_of (empty_as v beats) later ≡ best_of beats later)

  front : (e : Bool) (d : Numbered) (later : List Numbered) → empty_cell d.cell ≡ e → Same later → Same (if e then later else d ∷ later)
  unfolding best best_of
  front true d later p s = s
  front false d later p s = (λ b q. by b q (beats d.cell b) (empty_as v beats d.cell b) (rw (p, q)), s.0 d.cell p)
    where
      by : (b : Cell) → empty_cell b ≡ false → (z e : Bool) → e ≡ z
          → best (empty_as v beats) (if e then d.cell else b) later ≡ best beats (if z then d.cell else b) later
      by b q true e r = rw r (s.0 d.cell p)
      by b q false e r = rw r (s.0 b q)

  same : (o : ℕ) (cs : List Cell) → Same (filled_from o cs)
  unfolding filled_from best best_of
  same o [] = (λ b q. refl, refl)
  same o (c ∷ cs) = front (empty_cell c) _ (filled_from (o + 1) cs) refl (same (o + 1) cs)

-- the smallest, or the largest, of an array's cells
pub filled-alone : (v largest : Bool) (cs : List Cell)
    → best_of (empty_as v (beats_of largest)) (filled_from 1 cs) ≡ best_of (beats_of largest) (filled_from 1 cs)
filled-alone v largest cs = (same v (beats_of largest) 1 cs).1
