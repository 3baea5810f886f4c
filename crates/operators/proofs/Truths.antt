-- The ways out of the logic of truth values, each by the tests that lead to it. Assumes nothing.
use Rattle.std.specs.Prelude.{if◌then◌else◌}
use Prim.Native.Nat.{ℕ}
use mathlib.Core.Path.{◌≡◌, refl, sym, ◌∙◌}
use mathlib.Core.Bool.{Bool, true, false, not, ◌&&◌, ◌||◌, beq}
use native.Mathlib.Omega.{arith}
use Rattle.paper.specs.Cells.{is_truth}
use Rattle.paper.specs.Operators.{not_cell}
use Rattle.paper.specs.declared.Cell.{Cell}
use Rattle.paper.specs.declared.Cell.TheVariants.{Empty, Truth}
use Rattle.operators.specs.Logic.{decided_by}

-- x: one of the two is v; y: both are its opposite
known : (v x y : Bool) → (x || y) ≡ true → Truth (beq x v) ≡ (if x then Truth v else (if y then Truth (not v) else Empty))
known true true y e = refl
known true false true e = refl
known true false false e = let z : ◌≡◌ {A = ℕ} 0 1 = cc in absurd (omega arith)
known false true y e = refl
known false false true e = refl
known false false false e = let z : ◌≡◌ {A = ℕ} 0 1 = cc in absurd (omega arith)

unknown : (v x y : Bool) → (x || y) ≡ false → Empty ≡ (if x then Truth v else (if y then Truth (not v) else Empty))
unknown v true y e = let z : ◌≡◌ {A = ℕ} 0 1 = cc in absurd (omega arith)
unknown v false true e = let z : ◌≡◌ {A = ℕ} 0 1 = cc in absurd (omega arith)
unknown v false false e = refl

-- where none of the two is v, a known one is its opposite
same_tests : (p q r s : Bool) → ((p || q) || ((p || r) && (q || s))) ≡ ((p || q) || (r && s))
same_tests true q r s = refl
same_tests false true r s = refl
same_tests false false r s = refl

either_way : (x y : Bool) → (x || y) ≡ (y || x)
either_way true true = refl
either_way true false = refl
either_way false true = refl
either_way false false = refl

known_by : (v : Bool) (c : Cell) → (is_truth true c || is_truth false c) ≡ (is_truth v c || is_truth (not v) c)
known_by true c = refl
known_by false c = either_way (is_truth true c) (is_truth false c)

-- by what was read of the two: whether each is v, and whether each is known
module _ (v : Bool) (a b : Cell) (p q k l : Bool) (ep : p ≡ is_truth v a) (eq : q ≡ is_truth v b) (ek : k ≡ (is_truth true a || is_truth false a)) (el : l ≡ (is_truth true b || is_truth false b)) where
  tests : ((p || q) || (k && l)) ≡ ((is_truth v a || is_truth v b) || (is_truth (not v) a && is_truth (not v) b))
  tests =
      (λ i. (ep i || eq i) || ((ek ∙ known_by v a) i && (el ∙ known_by v b) i))
      ∙ same_tests (is_truth v a) (is_truth v b) (is_truth (not v) a) (is_truth (not v) b)

  pub decided : ((p || q) || (k && l)) ≡ true → Truth (beq (p || q) v) ≡ decided_by v a b
  unfolding decided_by
  decided e =
      (λ i. Truth (beq (ep i || eq i) v))
      ∙ known v (is_truth v a || is_truth v b) (is_truth (not v) a && is_truth (not v) b) (sym tests ∙ e)

  pub undecided : ((p || q) || (k && l)) ≡ false → Empty ≡ decided_by v a b
  unfolding decided_by
  undecided e = unknown v (is_truth v a || is_truth v b) (is_truth (not v) a && is_truth (not v) b) (sym tests ∙ e)

module _ (c : Cell) where
  pub not-true : is_truth true c ≡ true → Truth false ≡ not_cell c
  unfolding not_cell
  not-true e = simp e

  pub not-false : is_truth true c ≡ false → is_truth false c ≡ true → Truth true ≡ not_cell c
  unfolding not_cell
  not-false e f = simp (e, f)

  pub not-unknown : is_truth true c ≡ false → is_truth false c ≡ false → Empty ≡ not_cell c
  unfolding not_cell
  not-unknown e f = simp (e, f)
