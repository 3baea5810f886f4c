-- `rma::pack_heads` meets its contract: the forms have the heads' shapes in the version told.
use Rattle.std.proofs.Common.{sym}
use Rattle.std.proofs.lemmas.Result.{err_from_is_err_and}
use Rattle.rma.specs.Versions.{pack-told, pack-untold}
use Rattle.rma.proofs.pack_heads.Goals as goal

pub returns : goal.returns
returns c = pack-told _ (sym c.in_ok-v.ensures) c.forms_in-asked.ensures c.pack_as.ensures

pub returns-in_err-v : goal.returns-in_err-v
returns-in_err-v c =
    let p = err_from_is_err_and c.from_residual.result c.from_residual.ensures.1 in
    rw (p.1, p.2) (pack-untold (sym c.in_err-v.ensures))
