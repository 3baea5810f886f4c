-- `rma::stretch_heads` meets its contract: the sides are those that the heads describe in the version told.
use Rattle.std.proofs.Common.{sym}
use Rattle.std.proofs.lemmas.Result.{err_from_is_err_and}
use Rattle.rma.specs.Versions.{stretch-told, stretch-untold}
use Rattle.rma.proofs.stretch_heads.Goals as goal

pub returns : goal.returns
returns c =
    stretch-told _ (sym c.in_ok-v.ensures) c.side_form-l.ensures c.side_form-r.ensures c.plan_as.ensures

pub returns-in_err-v : goal.returns-in_err-v
returns-in_err-v c =
    let p = err_from_is_err_and c.from_residual.result c.from_residual.ensures.1 in
    rw (p.1, p.2) (stretch-untold (sym c.in_err-v.ensures))
