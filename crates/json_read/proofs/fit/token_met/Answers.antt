-- `json_read::fit::token_met` meets its contract: by its sign.
use Rattle.std.proofs.Common.{◌∙◌, subst, sym}
use Rattle.paper.specs.Answers.{axes_of}
use Rattle.json_read.specs.declared.fit.Fit.{Fit}
use Rattle.json_read.specs.Fit.{TokenMet, nothing-met, comma-met, other-met}
use Rattle.json_read.proofs.Data.{data-met}
use Rattle.json_read.proofs.fit.token_met.Goals as goal

pub returns-in-Nothing : goal.returns-in-Nothing
returns-in-Nothing c = subst (λ (r : Fit). TokenMet c.args.kind (axes_of c.args.e) c.args.s.now c.args.at c.args.begun c.args.depth c.args.fit c.args.out.now r c.args.out.now) (sym c.stop.ensures) (nothing-met c.args.kind (axes_of c.args.e) c.args.s.now c.args.at c.args.begun c.args.depth c.args.fit c.args.out.now c.requires.1 (sym c.sign_of.ensures ∙ c.in-Nothing.is))

pub returns-in-Comma : goal.returns-in-Comma
returns-in-Comma c = comma-met c.args.kind (axes_of c.args.e) c.args.s.now c.args.at c.args.begun c.args.depth c.args.fit c.args.out.now c.requires.1 (sym c.sign_of.ensures ∙ c.in-Comma.is)

pub returns-in-Data : goal.returns-in-Data
returns-in-Data c = data-met c.args.kind (axes_of c.args.e) c.args.s.now c.args.at c.args.begun c.args.depth c.args.fit c.args.out.now c.requires.1 (sym c.sign_of.ensures ∙ c.in-Data.is) _ c.data_met.ensures

pub returns-in-Other : goal.returns-in-Other
returns-in-Other c = other-met c.args.kind (axes_of c.args.e) c.args.s.now c.args.at c.args.begun c.args.depth c.args.fit c.args.out.now c.requires.1 (sym c.sign_of.ensures ∙ c.in-Other.is) _ _ c.other_met.ensures
