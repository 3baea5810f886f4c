-- `judged::ahead` meets its contract: each loop is its type's own.
use Rattle.judged.specs.Looks.{none_ahead}
use Rattle.judged.proofs.ahead.Goals as goal

pub returns-in-1 : goal.returns-in-1
returns-in-1 c = rw c.in-1.is c.eights_ahead.ensures

pub returns-in-2 : goal.returns-in-2
returns-in-2 c = rw c.in-2.is c.eights_ahead-in-2.ensures

pub returns-in-3 : goal.returns-in-3
returns-in-3 c = rw c.in-3.is c.eights_ahead-in-3.ensures

pub returns-in_default : goal.returns-in_default
returns-in_default c = let a = c.args in none_ahead a.kind a.s.now a.at a.n
