-- `operators::operators::lt` meets its contract: each arm is what the paper says of two such cells. Assumes nothing.
use Rattle.std.proofs.Common.{rules, refl, ap, ◌∙◌}
use borrow.Author.Rules.{sfits_of}
use Rattle.operators.proofs.Arms.{arm, ints-arm, compared-last}
use Rattle.paper.specs.Operators.{compared, applied}
use Rattle.paper.specs.declared.Two.{Two}
use Rattle.paper.specs.declared.PairOp.TheVariants.{Lt}
use Rattle.operators.proofs.operators.lt.Goals as goal

pub returns-in-Ints : goal.returns-in-Ints
unfolding applied compared
returns-in-Ints c =
    ints-arm (λ (t : Two). applied Lt t c.args.a c.args.b) refl c.in-Ints.is c.both.ensures
    (sfits_of (search rules)) (sfits_of (search rules))

pub returns-in-Floats : goal.returns-in-Floats
unfolding applied compared
returns-in-Floats c = arm (λ (t : Two). applied Lt t c.args.a c.args.b) refl c.in-Floats.is c.both.ensures

pub returns-in-Truths : goal.returns-in-Truths
unfolding applied compared
returns-in-Truths c = arm (λ (t : Two). applied Lt t c.args.a c.args.b) refl c.in-Truths.is c.both.ensures

pub returns-in_default : goal.returns-in_default
unfolding applied compared
returns-in_default c =
    compared-last _ _ _ c.both.result c.in_default.in_default-own.keys4 ∙ ap (λ (t : Two). applied Lt t c.args.a c.args.b) c.both.ensures
