-- When a result is empty. Arithmetic and comparisons: where they don't refuse, exactly if an operand is empty. AND and OR are not among
-- them: FALSE AND empty is FALSE. Is-empty, is-true, is-false and is-unknown: never.
use Rattle.std.specs.Prelude.{ℕ, ◌≡◌, true, ◌||◌, Ok}
use Rattle.std.proofs.Common.{subst}
use Rattle.paper.specs.Operators.{takes, pair_cell, empty_cell}
use Rattle.paper.specs.declared.Cell.{Cell}
use Rattle.paper.specs.declared.PairOp.{PairOp}
use Rattle.laws.specs.Cells.{OfKind}
use Rattle.laws.specs.Empties.{not_logic, EmptyIf, empty-pair}

-- arithmetic or a comparison of two cells of a type that it takes: where it gives a cell, that is empty exactly if one of the two is
pub pair-empty : (o : PairOp) (kind : ℕ) (a b c : Cell) → not_logic o ≡ true → takes o kind ≡ true → OfKind kind a → OfKind kind b
    → pair_cell o a b ≡ Ok c → empty_cell c ≡ (empty_cell a || empty_cell b)
pair-empty o kind a b c n t h k e = subst (EmptyIf (empty_cell a || empty_cell b)) e (empty-pair o kind a b n t h k)
