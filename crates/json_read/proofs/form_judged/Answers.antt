-- `json_read::form_judged` meets its contract: each way out by the paper's tests up to it.
use Rattle.std.proofs.Common.{sym, eq-eqb, ne_eqb}
use Rattle.std.proofs.lemmas.Result.{err_from_is_err_and}
use Rattle.paper.specs.Limits.{FLOAT}
use Rattle.json_read.specs.Read.{form_tests}
use Rattle.json_read.proofs.form_judged.Goals as goal

pub returns-in_err-form_cells : goal.returns-in_err-form_cells
unfolding form_tests
returns-in_err-form_cells c =
    let p = err_from_is_err_and c.from_residual.result c.from_residual.ensures.1 in
    rw (p.1, p.2, sym c.in_err-form_cells.ensures)

pub returns-then-kind-eq-FLOAT : goal.returns-then-kind-eq-FLOAT
unfolding form_tests
returns-then-kind-eq-FLOAT c = rw (c.refuse.ensures, sym c.in_ok-form_cells.ensures, eq-eqb _ FLOAT c.if-kind-eq-FLOAT.true)

pub returns : goal.returns
unfolding form_tests
returns c = rw (sym c.in_ok-form_cells.ensures, ne_eqb _ FLOAT c.if-kind-eq-FLOAT.false)
