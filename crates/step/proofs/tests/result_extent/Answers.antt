-- `step::tests::result_extent` meets its contract: a move's, or A's.
use Rattle.std.proofs.Common.{◌≡◌, sym, ap, subst, ◌∙◌, true, List, length}
use Rattle.paper.specs.declared.Axis.{Axis}
use Rattle.paper.specs.declared.Operation.{Operation}
use Rattle.paper.specs.Answers.{axes_of}
use Rattle.paper.specs.Recipe.{uses, axis_in, result_axes}
use Rattle.step.specs.Steps.{step_in}
use Rattle.step.proofs.tests.result_extent.Goals as goal
use Rattle.step.proofs.tests.result_extent.Goals.{Start}

module _ (c : Start) where
  abbrev asks : Operation → List Axis
  asks op = result_axes op (step_in c.args.s.now c.args.step) (axes_of c.args.e) (axes_of c.args.f)

  told : (op : Operation) → c.args.step.operation ≡ op → asks op ≡ asks c.args.step.operation
  told op e = ap asks (sym e)

  axis-there : (op : Operation) → c.args.step.operation ≡ op → axis_in (uses op) (length (axes_of c.args.e)) c.args.step.axis ≡ true
  axis-there op e =
      subst (λ (op : Operation). axis_in (uses op) (length (axes_of c.args.e)) c.args.step.axis ≡ true) e c.requires.axis_value

pub moved_extent-requires : goal.moved_extent-requires
moved_extent-requires c =
    record { small = c.requires.small; small_2 = c.requires.small_2; detailed = c.requires.detailed; axis_value = axis-there (goal.at.moved_extent-requires c).Start _ c.in-Moves.is }

pub returns-in-Moves : goal.returns-in-Moves
returns-in-Moves c = c.moved_extent.ensures ∙ told (goal.at.returns-in-Moves c).Start _ c.in-Moves.is

pub returns-in-Works : goal.returns-in-Works
unfolding result_axes
returns-in-Works c = told (goal.at.returns-in-Works c).Start _ c.in-Works.is
