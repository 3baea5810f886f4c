-- `json_read::fit::other_met` meets its contract: by the stage.
use Rattle.std.proofs.Common.{inl, inr}
use Rattle.paper.specs.Answers.{axes_of}
use Rattle.json_read.specs.Fit.{before-met, wrong-met, stopped-met}
use Rattle.json_read.proofs.fit.other_met.Goals as goal

pub returns-in-Before : goal.returns-in-Before
returns-in-Before c =
    elim c.in-Before.is [
      | inl e ↦ before-met c.args.kind (axes_of c.args.e) c.args.s.now c.args.at c.args.fit c.args.out.now c.requires.1 e
      | inr o ↦
          elim o [
            | inl p ↦ wrong-met c.args.kind (axes_of c.args.e) c.args.s.now c.args.at c.args.fit c.args.out.now c.requires.1 p.0 p.1
            | inr p ↦ stopped-met c.args.kind (axes_of c.args.e) c.args.s.now c.args.at c.args.fit c.args.out.now c.requires.1 p.0 p.1
          ]
    ]
