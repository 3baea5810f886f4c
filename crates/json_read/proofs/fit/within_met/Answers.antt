-- `json_read::fit::within_met` meets its contract: by what is due.
use Rattle.paper.specs.Answers.{axes_of}
use Rattle.json_read.specs.Fit.{nothing-due, opening-due, closing-due}
use Rattle.json_read.proofs.fit.within_met.Goals as goal

pub returns-in-Nothing : goal.returns-in-Nothing
returns-in-Nothing c = nothing-due c.args.kind (axes_of c.args.e) c.args.s.now c.args.at c.args.fit c.args.out.now c.requires.1.ready c.requires.1.stage c.in-Nothing.is

pub returns-in-Opening : goal.returns-in-Opening
returns-in-Opening c = opening-due c.args.kind (axes_of c.args.e) c.args.s.now c.args.at c.requires.0 c.args.fit c.args.out.now c.requires.1 c.in-Opening.is _ c.bracket_met.ensures

pub returns-in-Closing : goal.returns-in-Closing
returns-in-Closing c = closing-due c.args.kind (axes_of c.args.e) c.args.s.now c.args.at c.requires.0 c.args.fit c.args.out.now c.requires.1 c.in-Closing.is _ c.bracket_met-in-Closing.ensures
