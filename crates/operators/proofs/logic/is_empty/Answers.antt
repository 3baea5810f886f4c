-- `operators::logic::is_empty` meets its contract. Assumes nothing.
use Rattle.std.proofs.Common.{ℕ, eqb, ap}
use Rattle.operators.proofs.logic.is_empty.Goals as goal

pub returns : goal.returns
returns c = ap (λ (n : ℕ). eqb n 0) c.mark_of.ensures
