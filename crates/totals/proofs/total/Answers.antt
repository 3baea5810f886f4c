-- `totals::total` meets its contract: each way out by the law of its test.
use Rattle.std.proofs.Common.{sym, ◌∙◌}
use Rattle.std.proofs.lemmas.Result.{err_from_is_err_and}
use borrow.Author.Tests.{not-false, not-true}
use Rattle.totals.specs.Whole.{total-refused, total-unfit, lying, total-is}
use Rattle.totals.proofs.total.Goals as goal

pub returns-in_err-head : goal.returns-in_err-head
returns-in_err-head c =
    let p = err_from_is_err_and c.from_residual.result c.from_residual.ensures.1 in
    rw (p.1, p.2) (total-refused _ _ c.args.which c.in_err-head.ensures.0)

pub returns-then-not-has_total : goal.returns-then-not-has_total
returns-then-not-has_total c =
    rw c.refuse.ensures
    (total-unfit c.in_ok-head.ensures c.args.which (sym c.has_total.ensures ∙ not-true _ c.if-not-has_total.true-raw))

pub total_of-requires : goal.total_of-requires
total_of-requires c = lying c.in_ok-head.ensures c.args.which

pub returns : goal.returns
returns c =
    c.total_of.ensures
    ∙ total-is c.in_ok-head.ensures c.args.which (sym c.has_total.ensures ∙ not-false _ c.if-not-has_total.false-raw)
