-- `step::tests::fits_in` meets its contract: a move or a work.
use Rattle.std.proofs.Common.{◌≡◌, sym, ap, ◌∙◌, Bool}
use Rattle.paper.specs.declared.Operation.{Operation}
use Rattle.paper.specs.Answers.{shape_of}
use Rattle.paper.specs.Recipe.{fits_in}
use Rattle.step.specs.Steps.{step_in}
use Rattle.step.proofs.tests.fits_in.Goals as goal
use Rattle.step.proofs.tests.fits_in.Goals.{Start}

module _ (c : Start) where
  abbrev asks : Operation → Bool
  asks op = fits_in op (step_in c.args.s.now c.args.step) (shape_of c.args.a) (shape_of c.args.b)

  told : (op : Operation) → c.args.step.operation ≡ op → asks op ≡ asks c.args.step.operation
  told op e = ap asks (sym e)

pub returns-in-Moves : goal.returns-in-Moves
returns-in-Moves c = c.move_fits.ensures ∙ told (goal.at.returns-in-Moves c).Start _ c.in-Moves.is

pub returns-in-Works : goal.returns-in-Works
unfolding fits_in
returns-in-Works c = told (goal.at.returns-in-Works c).Start _ c.in-Works.is
