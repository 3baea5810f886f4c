-- `coded::truths` meets its contract: each arm is its code's row, and the last has no code. Assumes nothing.
use Rattle.std.proofs.Common.{refl}
use Rattle.paper.specs.declared.PairOp.TheVariants.{Eq, Ne, And, Or}
use Rattle.coded.specs.Codes.{code_cell}
use Rattle.coded.proofs.Rows.{pair_row, no_truth}
use Rattle.coded.proofs.truths.Goals as goal

pub returns-in-38 : goal.returns-in-38
unfolding code_cell
returns-in-38 c = pair_row _ _ _ _ 38 c.in-38.is Eq (λ a b. refl) c.eq.ensures c.truth_cell-a.ensures c.truth_cell-b.ensures

pub returns-in-39 : goal.returns-in-39
unfolding code_cell
returns-in-39 c = pair_row _ _ _ _ 39 c.in-39.is Ne (λ a b. refl) c.ne.ensures c.truth_cell-a.ensures c.truth_cell-b.ensures

pub returns-in-44 : goal.returns-in-44
unfolding code_cell
returns-in-44 c = pair_row _ _ _ _ 44 c.in-44.is And (λ a b. refl) c.and.ensures c.truth_cell-a.ensures c.truth_cell-b.ensures

pub returns-in-45 : goal.returns-in-45
unfolding code_cell
returns-in-45 c = pair_row _ _ _ _ 45 c.in-45.is Or (λ a b. refl) c.or.ensures c.truth_cell-a.ensures c.truth_cell-b.ensures

pub returns-in_default : goal.returns-in_default
unfolding code_cell
returns-in_default c = no_truth _ _ _ _ _ c.requires.le_code.0 c.requires.le_code.1 c.in_default.in_default-own.rest
