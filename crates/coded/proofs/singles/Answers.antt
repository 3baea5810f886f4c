-- `coded::singles` meets its contract: each arm is its code's row, and the last has no code. Assumes nothing.
use Rattle.std.proofs.Common.{refl}
use Rattle.paper.specs.declared.SingleOp.TheVariants.{Negate, Absolute, Not, IsEmpty, IsTrue, IsFalse, IsUnknown}
use Rattle.coded.specs.Codes.{code_cell}
use Rattle.coded.proofs.Rows.{single-row, judged, no-single}
use Rattle.coded.proofs.singles.Goals as goal

pub float_cell-requires : goal.float_cell-requires
unfolding code_cell
float_cell-requires c = (judged 54 c.in-54.is _ _ c.requires.judged refl).0

pub float_cell-requires-in-58 : goal.float_cell-requires-in-58
unfolding code_cell
float_cell-requires-in-58 c = (judged 58 c.in-58.is _ _ c.requires.judged refl).0

pub float_cell-requires-in-66 : goal.float_cell-requires-in-66
unfolding code_cell
float_cell-requires-in-66 c = (judged 66 c.in-66.is _ _ c.requires.judged refl).0

pub returns-in-53 : goal.returns-in-53
unfolding code_cell
returns-in-53 c = single-row _ _ _ _ 53 c.in-53.is Negate (λ a b. refl) c.negate.ensures c.int_cell.ensures

pub returns-in-54 : goal.returns-in-54
unfolding code_cell
returns-in-54 c = single-row _ _ _ _ 54 c.in-54.is Negate (λ a b. refl) c.negate-in-54.ensures c.float_cell.ensures

pub returns-in-57 : goal.returns-in-57
unfolding code_cell
returns-in-57 c = single-row _ _ _ _ 57 c.in-57.is Absolute (λ a b. refl) c.absolute.ensures c.int_cell-in-57.ensures

pub returns-in-58 : goal.returns-in-58
unfolding code_cell
returns-in-58 c = single-row _ _ _ _ 58 c.in-58.is Absolute (λ a b. refl) c.absolute-in-58.ensures c.float_cell-in-58.ensures

pub returns-in-63 : goal.returns-in-63
unfolding code_cell
returns-in-63 c = single-row _ _ _ _ 63 c.in-63.is Not (λ a b. refl) c.negation.ensures c.truth_cell.ensures

pub returns-in-65 : goal.returns-in-65
unfolding code_cell
returns-in-65 c = single-row _ _ _ _ 65 c.in-65.is IsEmpty (λ a b. refl) c.emptiness.ensures c.int_cell-in-65.ensures

pub returns-in-66 : goal.returns-in-66
unfolding code_cell
returns-in-66 c = single-row _ _ _ _ 66 c.in-66.is IsEmpty (λ a b. refl) c.emptiness-in-66.ensures c.float_cell-in-66.ensures

pub returns-in-67 : goal.returns-in-67
unfolding code_cell
returns-in-67 c = single-row _ _ _ _ 67 c.in-67.is IsEmpty (λ a b. refl) c.emptiness-in-67.ensures c.truth_cell-in-67.ensures

pub returns-in-71 : goal.returns-in-71
unfolding code_cell
returns-in-71 c = single-row _ _ _ _ 71 c.in-71.is IsTrue (λ a b. refl) c.trueness.ensures c.truth_cell-in-71.ensures

pub returns-in-75 : goal.returns-in-75
unfolding code_cell
returns-in-75 c = single-row _ _ _ _ 75 c.in-75.is IsFalse (λ a b. refl) c.falseness.ensures c.truth_cell-in-75.ensures

pub returns-in-79 : goal.returns-in-79
unfolding code_cell
returns-in-79 c = single-row _ _ _ _ 79 c.in-79.is IsUnknown (λ a b. refl) c.unknownness.ensures c.truth_cell-in-79.ensures

pub returns-in_default : goal.returns-in_default
unfolding code_cell
returns-in_default c = no-single _ _ _ _ _ c.requires.le_code c.in_default.in_default-own.rest
