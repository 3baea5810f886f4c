-- `step::unused::detail_zero` meets its contract.
use Rattle.std.proofs.Common.{sym, ◌∙◌}
use borrow.Author.Tests.{not-true, not-false}
use Rattle.step.specs.Using.{rest-used, no-scalar, by_scalar}
use Rattle.step.proofs.unused.detail_zero.Goals as goal

pub returns-then-not-zero_between : goal.returns-then-not-zero_between
returns-then-not-zero_between c = rest-used c.args.used c.args.s.now c.args.at c.args.detail
    c.requires.from_le_detail.0 c.requires.from_le_detail.1 (sym c.zero_between.ensures ∙ not-true _ c.if-not-zero_between.true-raw)

pub returns-then-not-used : goal.returns-then-not-used
returns-then-not-used c = no-scalar c.args.used c.args.s.now c.args.at
    c.args.detail c.requires.from_le_detail.0 c.requires.from_le_detail.1
    (sym c.zero_between.ensures ∙ not-false _ c.if-not-zero_between.false-raw) (not-true _ c.if-not-used.true)

pub returns : goal.returns
returns c = c.zero_between-2.ensures
    ∙ by_scalar c.args.used c.args.s.now c.args.at c.args.detail c.requires.from_le_detail.0 c.requires.from_le_detail.1
    (sym c.zero_between.ensures ∙ not-false _ c.if-not-zero_between.false-raw)
    (not-false _ c.if-not-used.false)
