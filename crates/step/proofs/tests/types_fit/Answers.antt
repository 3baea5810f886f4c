-- `step::tests::types_fit` meets its contract: one type, and what the operator takes.
use Rattle.std.proofs.Common.{◌≡◌, sym, ap, ◌∙◌, Bool, not, ◌||◌, eqb}
use borrow.Author.Tests.{not-true, not-false}
use Rattle.paper.specs.declared.Operation.{Operation}
use Rattle.paper.specs.Recipe.{uses, types_fit}
use Rattle.laws.specs.Tests.{and_no, and_yes}
use Rattle.step.specs.Steps.{step_in}
use Rattle.step.proofs.tests.types_fit.Goals as goal
use Rattle.step.proofs.tests.types_fit.Goals.{After-one_type-one}

module _ (c : After-one_type-one) where
  abbrev asks : Operation → Bool
  asks op = types_fit op (step_in c.args.s.now c.args.step) c.args.t c.args.u

  told : (op : Operation) → c.args.step.operation ≡ op → asks op ≡ asks c.args.step.operation
  told op e = ap asks (sym e)

  one : (op : Operation) → c.args.step.operation ≡ op → c.one_type-one.result ≡ (not (uses op).b || eqb c.args.t c.args.u)
  one op e = c.one_type-one.ensures ∙ ap (λ (b : Bool). not b || eqb c.args.t c.args.u) (c.requires.b_value ∙ ap (λ (op : Operation). (uses op).b) e)

pub returns-in-Moves : goal.returns-in-Moves
unfolding types_fit
returns-in-Moves c =
    let s = (goal.at.returns-in-Moves c).After-one_type-one in
    one s _ c.in-Moves.is ∙ told s _ c.in-Moves.is

pub returns-then-not-one : goal.returns-then-not-one
unfolding types_fit
returns-then-not-one c =
    let s = (goal.at.returns-then-not-one c).After-one_type-one in
    let e = c.in-Works.is in
    and_no _ _ (sym (one s _ e) ∙ not-true _ c.if-not-one.true-raw) ∙ told s _ e

pub returns-else-not-one : goal.returns-else-not-one
unfolding types_fit
returns-else-not-one c =
    let s = (goal.at.returns-else-not-one c).After-one_type-one in
    let e = c.in-Works.is in
    c.takes_type.ensures ∙ and_yes _ _ (sym (one s _ e) ∙ not-false _ c.if-not-one.false-raw) ∙ told s _ e
