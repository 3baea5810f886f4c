-- `coded::floats` meets its contract: each arm is its code's row, and the last has no code. Assumes nothing.
use Rattle.std.proofs.Common.{refl}
use Rattle.paper.specs.declared.PairOp.TheVariants.{Add, Sub, Mul, Div, Eq, Ne, Lt, Le, Gt, Ge}
use Rattle.coded.specs.Codes.{code_cell}
use Rattle.coded.proofs.Rows.{pair_row, judged, no-float}
use Rattle.coded.proofs.floats.Goals as goal

pub float_cell-requires : goal.float_cell-requires
unfolding code_cell
float_cell-requires c = (judged 17 c.in-17.is _ _ c.requires.judged refl).0

pub float_cell-requires-in-17 : goal.float_cell-requires-in-17
unfolding code_cell
float_cell-requires-in-17 c = (judged 17 c.in-17.is _ _ c.requires.judged refl).1

pub float_cell-requires-in-18 : goal.float_cell-requires-in-18
unfolding code_cell
float_cell-requires-in-18 c = (judged 18 c.in-18.is _ _ c.requires.judged refl).0

pub float_cell-requires-in-18-2 : goal.float_cell-requires-in-18-2
unfolding code_cell
float_cell-requires-in-18-2 c = (judged 18 c.in-18.is _ _ c.requires.judged refl).1

pub float_cell-requires-in-19 : goal.float_cell-requires-in-19
unfolding code_cell
float_cell-requires-in-19 c = (judged 19 c.in-19.is _ _ c.requires.judged refl).0

pub float_cell-requires-in-19-2 : goal.float_cell-requires-in-19-2
unfolding code_cell
float_cell-requires-in-19-2 c = (judged 19 c.in-19.is _ _ c.requires.judged refl).1

pub float_cell-requires-in-20 : goal.float_cell-requires-in-20
unfolding code_cell
float_cell-requires-in-20 c = (judged 20 c.in-20.is _ _ c.requires.judged refl).0

pub float_cell-requires-in-20-2 : goal.float_cell-requires-in-20-2
unfolding code_cell
float_cell-requires-in-20-2 c = (judged 20 c.in-20.is _ _ c.requires.judged refl).1

pub float_cell-requires-in-22 : goal.float_cell-requires-in-22
unfolding code_cell
float_cell-requires-in-22 c = (judged 22 c.in-22.is _ _ c.requires.judged refl).0

pub float_cell-requires-in-22-2 : goal.float_cell-requires-in-22-2
unfolding code_cell
float_cell-requires-in-22-2 c = (judged 22 c.in-22.is _ _ c.requires.judged refl).1

pub float_cell-requires-in-23 : goal.float_cell-requires-in-23
unfolding code_cell
float_cell-requires-in-23 c = (judged 23 c.in-23.is _ _ c.requires.judged refl).0

pub float_cell-requires-in-23-2 : goal.float_cell-requires-in-23-2
unfolding code_cell
float_cell-requires-in-23-2 c = (judged 23 c.in-23.is _ _ c.requires.judged refl).1

pub float_cell-requires-in-24 : goal.float_cell-requires-in-24
unfolding code_cell
float_cell-requires-in-24 c = (judged 24 c.in-24.is _ _ c.requires.judged refl).0

pub float_cell-requires-in-24-2 : goal.float_cell-requires-in-24-2
unfolding code_cell
float_cell-requires-in-24-2 c = (judged 24 c.in-24.is _ _ c.requires.judged refl).1

pub float_cell-requires-in-25 : goal.float_cell-requires-in-25
unfolding code_cell
float_cell-requires-in-25 c = (judged 25 c.in-25.is _ _ c.requires.judged refl).0

pub float_cell-requires-in-25-2 : goal.float_cell-requires-in-25-2
unfolding code_cell
float_cell-requires-in-25-2 c = (judged 25 c.in-25.is _ _ c.requires.judged refl).1

pub float_cell-requires-in-26 : goal.float_cell-requires-in-26
unfolding code_cell
float_cell-requires-in-26 c = (judged 26 c.in-26.is _ _ c.requires.judged refl).0

pub float_cell-requires-in-26-2 : goal.float_cell-requires-in-26-2
unfolding code_cell
float_cell-requires-in-26-2 c = (judged 26 c.in-26.is _ _ c.requires.judged refl).1

pub float_cell-requires-in-27 : goal.float_cell-requires-in-27
unfolding code_cell
float_cell-requires-in-27 c = (judged 27 c.in-27.is _ _ c.requires.judged refl).0

pub float_cell-requires-in-27-2 : goal.float_cell-requires-in-27-2
unfolding code_cell
float_cell-requires-in-27-2 c = (judged 27 c.in-27.is _ _ c.requires.judged refl).1

pub returns-in-17 : goal.returns-in-17
unfolding code_cell
returns-in-17 c = pair_row _ _ _ _ 17 c.in-17.is Add (λ a b. refl) c.add.ensures c.float_cell.ensures c.float_cell-in-17.ensures

pub returns-in-18 : goal.returns-in-18
unfolding code_cell
returns-in-18 c = pair_row _ _ _ _ 18 c.in-18.is Sub (λ a b. refl) c.sub.ensures c.float_cell-in-18.ensures c.float_cell-in-18-2.ensures

pub returns-in-19 : goal.returns-in-19
unfolding code_cell
returns-in-19 c = pair_row _ _ _ _ 19 c.in-19.is Mul (λ a b. refl) c.mul.ensures c.float_cell-in-19.ensures c.float_cell-in-19-2.ensures

pub returns-in-20 : goal.returns-in-20
unfolding code_cell
returns-in-20 c = pair_row _ _ _ _ 20 c.in-20.is Div (λ a b. refl) c.div.ensures c.float_cell-in-20.ensures c.float_cell-in-20-2.ensures

pub returns-in-22 : goal.returns-in-22
unfolding code_cell
returns-in-22 c = pair_row _ _ _ _ 22 c.in-22.is Eq (λ a b. refl) c.eq.ensures c.float_cell-in-22.ensures c.float_cell-in-22-2.ensures

pub returns-in-23 : goal.returns-in-23
unfolding code_cell
returns-in-23 c = pair_row _ _ _ _ 23 c.in-23.is Ne (λ a b. refl) c.ne.ensures c.float_cell-in-23.ensures c.float_cell-in-23-2.ensures

pub returns-in-24 : goal.returns-in-24
unfolding code_cell
returns-in-24 c = pair_row _ _ _ _ 24 c.in-24.is Lt (λ a b. refl) c.lt.ensures c.float_cell-in-24.ensures c.float_cell-in-24-2.ensures

pub returns-in-25 : goal.returns-in-25
unfolding code_cell
returns-in-25 c = pair_row _ _ _ _ 25 c.in-25.is Le (λ a b. refl) c.le.ensures c.float_cell-in-25.ensures c.float_cell-in-25-2.ensures

pub returns-in-26 : goal.returns-in-26
unfolding code_cell
returns-in-26 c = pair_row _ _ _ _ 26 c.in-26.is Gt (λ a b. refl) c.gt.ensures c.float_cell-in-26.ensures c.float_cell-in-26-2.ensures

pub returns-in-27 : goal.returns-in-27
unfolding code_cell
returns-in-27 c = pair_row _ _ _ _ 27 c.in-27.is Ge (λ a b. refl) c.ge.ensures c.float_cell-in-27.ensures c.float_cell-in-27-2.ensures

pub returns-in_default : goal.returns-in_default
unfolding code_cell
returns-in_default c = no-float _ _ _ _ _ c.requires.le_code.0 c.requires.le_code.1 c.in_default.in_default-own.rest
