-- `step::unused::used_or_zero` meets its contract.
use Rattle.step.proofs.unused.used_or_zero.Goals as goal

pub returns : goal.returns
returns c = rw c.if-used.false
