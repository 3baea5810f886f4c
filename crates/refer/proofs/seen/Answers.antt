-- `refer::seen` meets its contract: each way out by where the ordinality lies among the cells.
use Rattle.std.proofs.Common.{sym, ◌∙◌, arith}
use Rattle.std.proofs.lemmas.Result.{err_from_is_err_and}
use borrow.Author.Tests.{not-true, not-false}
use Rattle.refer.specs.Places.{seen-refused, seen-outside, seen-end, seen-cell, its-place}
use Rattle.refer.proofs.seen.Goals as goal

pub returns-in_err-head : goal.returns-in_err-head
returns-in_err-head c =
    let p = err_from_is_err_and c.from_residual.result c.from_residual.ensures.1 in
    rw (p.1, p.2) (seen-refused _ _ _ c.in_err-head.ensures.0, tt)

pub returns-then-not-in_range : goal.returns-then-not-in_range
returns-then-not-in_range c =
    rw c.refuse.ensures (seen-outside _ _ _ c.in_ok-head.ensures (sym c.in_range.ensures ∙ not-true _ c.if-not-in_range.true-raw), tt)

pub returns-then-o-end : goal.returns-then-o-end
returns-then-o-end c =
    let b = sym c.in_range.ensures ∙ not-false _ c.if-not-in_range.false-raw in
    (seen-end _ _ _ c.in_ok-head.ensures b c.if-o-end.true, tt)

pub returns : goal.returns
returns c =
    let b = sym c.in_range.ensures ∙ not-false _ c.if-not-in_range.false-raw in
    let p = its-place _ _ _ c.in_ok-head.ensures b c.if-o-end.false in
    rw c.held_cell.ensures (seen-cell _ _ _ c.in_ok-head.ensures b c.if-o-end.false, omega (arith, p))

pub held_cell-requires : goal.held_cell-requires
held_cell-requires c =
    let b = sym c.in_range.ensures ∙ not-false _ c.if-not-in_range.false-raw in
    let p = its-place _ _ _ c.in_ok-head.ensures b c.if-o-end.false in
    omega (arith, p)
