-- `coded::ints` meets its contract: each arm is its code's row, and the last has no code. Assumes nothing.
use Rattle.std.proofs.Common.{refl}
use Rattle.paper.specs.declared.PairOp.TheVariants.{Add, Sub, Mul, Div, Mod, Eq, Ne, Lt, Le, Gt, Ge}
use Rattle.coded.specs.Codes.{code_cell}
use Rattle.coded.proofs.Rows.{pair_row, no-int}
use Rattle.coded.proofs.ints.Goals as goal

pub returns-in-1 : goal.returns-in-1
unfolding code_cell
returns-in-1 c = pair_row _ _ _ _ 1 c.in-1.is Add (λ a b. refl) c.add.ensures c.int_cell-a.ensures c.int_cell-b.ensures

pub returns-in-2 : goal.returns-in-2
unfolding code_cell
returns-in-2 c = pair_row _ _ _ _ 2 c.in-2.is Sub (λ a b. refl) c.sub.ensures c.int_cell-a.ensures c.int_cell-b.ensures

pub returns-in-3 : goal.returns-in-3
unfolding code_cell
returns-in-3 c = pair_row _ _ _ _ 3 c.in-3.is Mul (λ a b. refl) c.mul.ensures c.int_cell-a.ensures c.int_cell-b.ensures

pub returns-in-4 : goal.returns-in-4
unfolding code_cell
returns-in-4 c = pair_row _ _ _ _ 4 c.in-4.is Div (λ a b. refl) c.div.ensures c.int_cell-a.ensures c.int_cell-b.ensures

pub returns-in-5 : goal.returns-in-5
unfolding code_cell
returns-in-5 c = pair_row _ _ _ _ 5 c.in-5.is Mod (λ a b. refl) c.modulo.ensures c.int_cell-a.ensures c.int_cell-b.ensures

pub returns-in-6 : goal.returns-in-6
unfolding code_cell
returns-in-6 c = pair_row _ _ _ _ 6 c.in-6.is Eq (λ a b. refl) c.eq.ensures c.int_cell-a.ensures c.int_cell-b.ensures

pub returns-in-7 : goal.returns-in-7
unfolding code_cell
returns-in-7 c = pair_row _ _ _ _ 7 c.in-7.is Ne (λ a b. refl) c.ne.ensures c.int_cell-a.ensures c.int_cell-b.ensures

pub returns-in-8 : goal.returns-in-8
unfolding code_cell
returns-in-8 c = pair_row _ _ _ _ 8 c.in-8.is Lt (λ a b. refl) c.lt.ensures c.int_cell-a.ensures c.int_cell-b.ensures

pub returns-in-9 : goal.returns-in-9
unfolding code_cell
returns-in-9 c = pair_row _ _ _ _ 9 c.in-9.is Le (λ a b. refl) c.le.ensures c.int_cell-a.ensures c.int_cell-b.ensures

pub returns-in-10 : goal.returns-in-10
unfolding code_cell
returns-in-10 c = pair_row _ _ _ _ 10 c.in-10.is Gt (λ a b. refl) c.gt.ensures c.int_cell-a.ensures c.int_cell-b.ensures

pub returns-in-11 : goal.returns-in-11
unfolding code_cell
returns-in-11 c = pair_row _ _ _ _ 11 c.in-11.is Ge (λ a b. refl) c.ge.ensures c.int_cell-a.ensures c.int_cell-b.ensures

pub returns-in_default : goal.returns-in_default
unfolding code_cell
returns-in_default c = no-int _ _ _ _ _ c.requires.code_bound c.in_default.in_default-own.rest
