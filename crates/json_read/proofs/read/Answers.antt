-- `json_read::read` meets its contract: in the version told, or a version that is none is refused.
use Rattle.std.proofs.Common.{sym, ap, ◌∙◌}
use Rattle.std.proofs.lemmas.Result.{err_from_is_err_and}
use Rattle.std.specs.Prelude.{Err}
use Rattle.paper.specs.Answers.{axes_of, names_for}
use Rattle.json_read.specs.Read.{told-said, unknown-said}
use Rattle.json_read.proofs.read.Goals as goal

pub returns : goal.returns
returns c =
    let a = c.args in
    told-said a.version _ a.kind (names_for (axes_of a.extent) a.names) (axes_of a.extent) a.text.now a.cells.now c.read_as.result _
    (sym c.in_ok-v.ensures) c.read_as.ensures

pub returns-in_err-v : goal.returns-in_err-v
returns-in_err-v c =
    let a = c.args in
    let p = err_from_is_err_and c.from_residual.result c.from_residual.ensures.1 in
    unknown-said a.version a.kind (names_for (axes_of a.extent) a.names) (axes_of a.extent) a.text.now a.cells.now _
    (sym c.in_err-v.ensures) (p.1 ∙ ap Err p.2)
