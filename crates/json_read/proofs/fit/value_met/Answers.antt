-- `json_read::fit::value_met` meets its contract: a cell that is stored, or a misfit.
use Rattle.std.proofs.Common.{subst, sym}
use Rattle.paper.specs.Answers.{axes_of}
use Rattle.json_read.specs.declared.fit.Fit.{Fit}
use Rattle.json_read.specs.Fit.{Met, value_room, value-fits, value-misfit}
use Rattle.json_read.proofs.fit.value_met.Goals as goal

pub write_cell-requires : goal.write_cell-requires
write_cell-requires c = value_room c.args.kind (axes_of c.args.e) c.args.s.now c.args.at c.args.fit c.args.out.now c.requires.1

pub returns-in-Some : goal.returns-in-Some
returns-in-Some c = value-fits c.args.kind (axes_of c.args.e) c.args.s.now c.args.at c.args.fit c.args.out.now c.requires.1 _ _ c.write_cell.ensures _ c.cell_at.ensures c.in-Some.is _ c.fitting.ensures

pub returns-in-None : goal.returns-in-None
returns-in-None c = subst (λ (r : Fit). Met c.args.kind (axes_of c.args.e) c.args.s.now c.args.at c.args.fit c.args.out.now r c.args.out.now) (sym c.misfit.ensures) (value-misfit c.args.kind (axes_of c.args.e) c.args.s.now c.args.at c.args.fit c.args.out.now c.requires.1 _ c.cell_at.ensures c.in-None.is)
