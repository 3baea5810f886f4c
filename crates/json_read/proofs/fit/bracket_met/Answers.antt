-- `json_read::fit::bracket_met` meets its contract: it is there or not.
use Rattle.paper.specs.Answers.{axes_of}
use Rattle.json_read.specs.Fit.{bracket-is, bracket-not}
use Rattle.json_read.proofs.fit.bracket_met.Goals as goal

pub returns-then-s-at : goal.returns-then-s-at
returns-then-s-at c = bracket-is (axes_of c.args.e) c.args.s.now c.args.at c.args.bracket c.args.fit _ c.if-s-at.true c.fitting.ensures

pub returns : goal.returns
returns c = bracket-not (axes_of c.args.e) c.args.s.now c.args.at c.args.bracket c.args.fit _ c.if-s-at.false c.misfit.ensures
