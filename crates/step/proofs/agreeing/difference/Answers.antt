-- `step::agreeing::difference` meets its contract: a move or a work.
use Rattle.std.proofs.Common.{true, ◌≡◌, subst, length}
use Rattle.paper.specs.declared.Operation.{Operation}
use Rattle.paper.specs.Recipe.{uses, axis_in}
use Rattle.paper.specs.Answers.{axes_of}
use Rattle.step.proofs.agreeing.difference.Goals as goal

pub moves_differ-requires : goal.moves_differ-requires
moves_differ-requires c =
    subst (λ (o : Operation). axis_in (uses o) (length (axes_of c.args.e)) c.args.k.0 ≡ true) c.in-Moves.is c.requires

pub returns-in-Moves : goal.returns-in-Moves
returns-in-Moves c = rw c.in-Moves.is c.moves_differ.ensures

pub returns-in-Works : goal.returns-in-Works
returns-in-Works c = rw c.in-Works.is c.works_differ.ensures
