-- `rma::json_by_head` meets its contract: the text is read into the array that the head describes in the version told.
use Rattle.std.proofs.Common.{sym}
use Rattle.std.proofs.lemmas.Result.{err_from_is_err_and}
use Rattle.rma.specs.Versions.{json-told, json-untold}
use Rattle.rma.proofs.json_by_head.Goals as goal

pub returns : goal.returns
returns c =
    let e = c.read_as.ensures in
    json-told _ (sym c.in_ok-v.ensures) c.side_form-form.ensures e.0 e.1

pub returns-in_err-v : goal.returns-in_err-v
returns-in_err-v c =
    let p = err_from_is_err_and c.from_residual.result c.from_residual.ensures.1 in
    rw (p.1, p.2) (json-untold (sym c.in_err-v.ensures))
