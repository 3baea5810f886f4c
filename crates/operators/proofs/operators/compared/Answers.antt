-- `operators::operators::compared` meets its contract: each arm is what the paper says of two such cells.
use Rattle.std.specs.Prelude.{Bool, Ok}
use Rattle.std.proofs.Common.{rules, ap, ◌∙◌}
use borrow.Author.Rules.{sfits_of}
use Rattle.paper.specs.declared.Cell.TheVariants.{Truth}
use Rattle.paper.specs.Operators.{compared}
use Rattle.operators.proofs.Arms.{arm, ints-arm, compared-last}
use Rattle.operators.proofs.operators.compared.Goals as goal

pub returns-in-Ints : goal.returns-in-Ints
unfolding compared
returns-in-Ints g c f h k p q s =
    ints-arm (compared f h k) (ap (λ (b : Bool). Ok (Truth b)) (p _ _ _ c.ints.ensures)) c.in-Ints.is c.both.ensures
    (sfits_of (search rules)) (sfits_of (search rules))

pub returns-in-Floats : goal.returns-in-Floats
unfolding compared
returns-in-Floats g c f h k p q s =
    arm (compared f h k) (ap (λ (b : Bool). Ok (Truth b)) (q _ _ _ c.floats.ensures)) c.in-Floats.is c.both.ensures

pub returns-in-Truths : goal.returns-in-Truths
unfolding compared
returns-in-Truths g c f h k p q s =
    arm (compared f h k) (ap (λ (b : Bool). Ok (Truth b)) (s _ _ _ c.truths.ensures)) c.in-Truths.is c.both.ensures

pub returns-in_default : goal.returns-in_default
returns-in_default g c f h k p q s =
    compared-last f h k c.both.result c.in_default.in_default-own.keys4 ∙ ap (compared f h k) c.both.ensures
