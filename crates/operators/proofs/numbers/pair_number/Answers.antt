-- `operators::numbers::pair_number` meets its contract: each arm is given which operator it is. Assumes nothing.
use Rattle.std.proofs.Common.{sym, ap}
use Rattle.paper.specs.Operators.{pair_no}
use Rattle.operators.proofs.numbers.pair_number.Goals as goal

pub returns-in-Add : goal.returns-in-Add
returns-in-Add c = sym (ap pair_no c.in-Add.is)

pub returns-in-Sub : goal.returns-in-Sub
returns-in-Sub c = sym (ap pair_no c.in-Sub.is)

pub returns-in-Mul : goal.returns-in-Mul
returns-in-Mul c = sym (ap pair_no c.in-Mul.is)

pub returns-in-Div : goal.returns-in-Div
returns-in-Div c = sym (ap pair_no c.in-Div.is)

pub returns-in-Mod : goal.returns-in-Mod
returns-in-Mod c = sym (ap pair_no c.in-Mod.is)

pub returns-in-Eq : goal.returns-in-Eq
returns-in-Eq c = sym (ap pair_no c.in-Eq.is)

pub returns-in-Ne : goal.returns-in-Ne
returns-in-Ne c = sym (ap pair_no c.in-Ne.is)

pub returns-in-Lt : goal.returns-in-Lt
returns-in-Lt c = sym (ap pair_no c.in-Lt.is)

pub returns-in-Le : goal.returns-in-Le
returns-in-Le c = sym (ap pair_no c.in-Le.is)

pub returns-in-Gt : goal.returns-in-Gt
returns-in-Gt c = sym (ap pair_no c.in-Gt.is)

pub returns-in-Ge : goal.returns-in-Ge
returns-in-Ge c = sym (ap pair_no c.in-Ge.is)

pub returns-in-And : goal.returns-in-And
returns-in-And c = sym (ap pair_no c.in-And.is)

pub returns-in-Or : goal.returns-in-Or
returns-in-Or c = sym (ap pair_no c.in-Or.is)
