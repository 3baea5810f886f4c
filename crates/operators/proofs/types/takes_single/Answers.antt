-- `operators::types::takes_single` meets its contract: each arm is its operator's row. Assumes nothing.
use Rattle.std.proofs.Common.{◌≡◌, sym, ap}
use Rattle.paper.specs.Operators.{takes_one}
use Rattle.paper.specs.declared.SingleOp.{SingleOp}
use Rattle.operators.proofs.types.takes_single.Goals as goal
use Rattle.operators.proofs.types.takes_single.Goals.{Start}

taken : (s : Start) {o : SingleOp} → s.args.op ≡ o → takes_one o s.args.kind ≡ takes_one s.args.op s.args.kind
taken s h = sym (ap (λ (o : SingleOp). takes_one o s.args.kind) h)

pub returns-in-Negate : goal.returns-in-Negate
unfolding takes_one
returns-in-Negate c = taken (goal.at.returns-in-Negate c).Start c.in-Negate.is

pub returns-in-Absolute : goal.returns-in-Absolute
unfolding takes_one
returns-in-Absolute c = taken (goal.at.returns-in-Absolute c).Start c.in-Absolute.is

pub returns-in-Not : goal.returns-in-Not
unfolding takes_one
returns-in-Not c = taken (goal.at.returns-in-Not c).Start c.in-Not.is

pub returns-in-IsEmpty : goal.returns-in-IsEmpty
unfolding takes_one
returns-in-IsEmpty c = taken (goal.at.returns-in-IsEmpty c).Start c.in-IsEmpty.is

pub returns-in-IsTrue : goal.returns-in-IsTrue
unfolding takes_one
returns-in-IsTrue c = taken (goal.at.returns-in-IsTrue c).Start c.in-IsTrue.is

pub returns-in-IsFalse : goal.returns-in-IsFalse
unfolding takes_one
returns-in-IsFalse c = taken (goal.at.returns-in-IsFalse c).Start c.in-IsFalse.is

pub returns-in-IsUnknown : goal.returns-in-IsUnknown
unfolding takes_one
returns-in-IsUnknown c = taken (goal.at.returns-in-IsUnknown c).Start c.in-IsUnknown.is
