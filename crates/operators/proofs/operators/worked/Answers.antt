-- `operators::operators::worked` meets its contract: each arm is what the paper says of two such cells.
use Rattle.std.proofs.Common.{rules, ap, ◌∙◌}
use borrow.Author.Rules.{sfits_of}
use borrow.Enum.Refused.{opened}
use Rattle.operators.proofs.Arms.{arm, ints-arm, worked-last}
use Rattle.paper.specs.Operators.{worked}
use Rattle.operators.proofs.operators.worked.Goals as goal

pub returns-in-Ints : goal.returns-in-Ints
unfolding worked
returns-in-Ints g c f h p q =
    ints-arm (worked f h) (p _ _ _ c.ints.ensures) c.in-Ints.is c.both.ensures (sfits_of (search rules)) (sfits_of (search rules))

pub returns-in-Floats : goal.returns-in-Floats
unfolding worked
returns-in-Floats g c f h p q = arm (worked f h) (q _ _ _ c.floats.ensures) c.in-Floats.is c.both.ensures

pub returns-in_default : goal.returns-in_default
returns-in_default g c f h p q = worked-last f h c.both.result (opened c.in_default.in_default-own.keys3) ∙ ap (worked f h) c.both.ensures
