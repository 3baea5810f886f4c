-- `c_asked::no_total` meets its contract: the array's own refusal, else the number is unknown.
use Rattle.std.proofs.lemmas.Result.{err_from_is_err_and}
use Rattle.c_asked.specs.Pieces.{no-total-refused, no-total-known}
use Rattle.c_asked.proofs.no_total.Goals as goal

pub returns-in_err-choose : goal.returns-in_err-choose
returns-in_err-choose c =
    let p = err_from_is_err_and c.from_residual.result c.from_residual.ensures.1 in
    rw (p.1, p.2) (no-total-refused _ _ c.in_err-choose.ensures.0)

pub returns : goal.returns
returns c = rw c.refuse.ensures (no-total-known _ _ c.in_ok-choose.ensures.said)
