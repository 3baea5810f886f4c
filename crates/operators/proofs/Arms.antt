-- What the paper says of two cells: in the arm of a `match both(a, b)`, and with the two cells exchanged. Assumes nothing.
use Rattle.std.specs.Prelude.{Ok}
use mathlib.Core.Bool.{Bool}
use mathlib.Core.List.{[], ◌∷◌}
use mathlib.Core.Path.{◌≡◌, refl, sym, ap, ap₂, ◌∙◌}
use lib.Ieee as Ieee
use lib.IntN.{ℤ}
use mir.Syntax.{w64}
use mir.Val.{SFits, to_z, of_z}
use mir.Facts.{to_z-of_z}
use denote.Enum.Declared.{tag_of}
use types.Run.{OneOf, miss}
use Rattle.paper.specs.Operators.{two, worked, compared, signed, applied, pair_cell, Answer}
use Rattle.paper.specs.declared.Cell.{Cell}
use Rattle.paper.specs.declared.Cell.TheVariants.{Empty, Int, Float, Truth}
use Rattle.paper.specs.declared.Two.{Two}
use Rattle.paper.specs.declared.Two.TheVariants.{Ints, Floats, Truths, OneEmpty, Unlike}
use Rattle.paper.specs.contracts.Cell as Cell'
use Rattle.paper.specs.contracts.Two as Two'
use Rattle.paper.specs.declared.PairOp.{PairOp}
use Rattle.paper.specs.declared.PairOp.TheVariants.{Lt, Le, Gt, Ge}

-- the arm of two numbers or two truth values, of which an operator's part gave n
module _ {X : Type 0} (made : Two → X) {r t : Two} where
  pub arm : {n : X} {u : Two} → n ≡ made u → r ≡ u → r ≡ t → n ≡ made t
  arm g h e = g ∙ ap made (sym h ∙ e)

  -- of two INT cells, whose numbers the code has from their bits
  pub ints-arm : {n : X} {x y : ℤ} → n ≡ made (Ints (to_z w64 (of_z w64 x)) (to_z w64 (of_z w64 y))) → r ≡ Ints x y → r ≡ t
      → SFits w64 x → SFits w64 y → n ≡ made t
  ints-arm g h e f k = g ∙ ap₂ (λ (x y : ℤ). made (Ints x y)) (to_z-of_z f) (to_z-of_z k) ∙ ap made (sym h ∙ e)

-- the last arm, of all kinds of two cells that no arm before it has
module _ (f : ℤ → ℤ → Answer) where
  pub worked-last : (g : Ieee.Float → Ieee.Float → Answer) (t : Two) → OneOf (2 ∷ 3 ∷ 4 ∷ []) (tag_of Two'.the_type t)
      → Ok Empty ≡ worked f g t
  unfolding worked
  worked-last g (Ints x y) k = absurd (miss (2 ∷ 3 ∷ 4 ∷ []) 0 tt k)
  worked-last g (Floats x y) k = absurd (miss (2 ∷ 3 ∷ 4 ∷ []) 1 tt k)
  worked-last g (Truths x y) k = refl
  worked-last g OneEmpty k = refl
  worked-last g Unlike k = refl

pub compared-last : (f : ℤ → ℤ → Bool) (g : Ieee.Float → Ieee.Float → Bool) (h : Bool → Bool → Bool) (t : Two)
    → OneOf (3 ∷ 4 ∷ []) (tag_of Two'.the_type t) → Ok Empty ≡ compared f g h t
unfolding compared
compared-last f g h (Ints x y) k = absurd (miss (3 ∷ 4 ∷ []) 0 tt k)
compared-last f g h (Floats x y) k = absurd (miss (3 ∷ 4 ∷ []) 1 tt k)
compared-last f g h (Truths x y) k = absurd (miss (3 ∷ 4 ∷ []) 2 tt k)
compared-last f g h OneEmpty k = refl
compared-last f g h Unlike k = refl

-- and of one cell
pub signed-last : (f : ℤ → ℤ) (g : Ieee.Float → Ieee.Float) (c : Cell) → OneOf (0 ∷ 3 ∷ []) (tag_of Cell'.the_type c)
    → Ok Empty ≡ signed f g c
unfolding signed
signed-last f g Empty k = refl
signed-last f g (Int x) k = absurd (miss (0 ∷ 3 ∷ []) 1 tt k)
signed-last f g (Float x) k = absurd (miss (0 ∷ 3 ∷ []) 2 tt k)
signed-last f g (Truth x) k = refl

abbrev Exchanged : Cell → Cell → Type 0
Exchanged a b = (pair_cell Lt b a ≡ pair_cell Gt a b) × (pair_cell Le b a ≡ pair_cell Ge a b)

-- > is < with the cells exchanged, and >= is <=
pub exchanged : (a b : Cell) → Exchanged a b
unfolding two applied compared
exchanged Empty Empty = (refl, refl)
exchanged Empty (Int y) = (refl, refl)
exchanged Empty (Float y) = (refl, refl)
exchanged Empty (Truth y) = (refl, refl)
exchanged (Int x) Empty = (refl, refl)
exchanged (Int x) (Int y) = (refl, refl)
exchanged (Int x) (Float y) = (refl, refl)
exchanged (Int x) (Truth y) = (refl, refl)
exchanged (Float x) Empty = (refl, refl)
exchanged (Float x) (Int y) = (refl, refl)
exchanged (Float x) (Float y) = (refl, refl)
exchanged (Float x) (Truth y) = (refl, refl)
exchanged (Truth x) Empty = (refl, refl)
exchanged (Truth x) (Int y) = (refl, refl)
exchanged (Truth x) (Float y) = (refl, refl)
exchanged (Truth x) (Truth y) = (refl, refl)
