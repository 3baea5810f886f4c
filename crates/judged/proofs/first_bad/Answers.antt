-- `judged::first_bad` meets its contract.
use Rattle.std.proofs.Common.{sym, ◌∙◌, arith}
use borrow.Author.Tests.{not-true, not-false}
use Rattle.laws.specs.Judged.{bad_more, bad-here, bad-none}
use Rattle.judged.proofs.first_bad.Goals as goal

pub returns-then-not-cell_at : goal.returns-then-not-cell_at
returns-then-not-cell_at c =
    let a = c.args in
    let l = c.loop-i in
    let e = sym c.cell_at.ensures ∙ not-true _ c.if-not-cell_at.true-raw in
    (bad-here a.s.now a.at a.kind a.n l.i c.loop-i-test.true e ∙ l.invariant.left, omega arith)

pub loop-i-preserved : goal.loop-i-preserved
loop-i-preserved c =
    let a = c.args in
    let l = c.loop-i in
    let e = sym c.cell_at.ensures ∙ not-false _ c.if-not-cell_at.false-raw in
    record {
      few = omega arith;
      left = bad_more a.s.now a.at a.kind a.n l.i c.loop-i-test.true e ∙ l.invariant.left;
    }

pub returns : goal.returns
returns c =
    let a = c.args in
    let l = c.loop-i in
    (bad-none a.s.now a.at a.kind a.n l.i c.loop-i-test.false ∙ l.invariant.left, omega arith)

pub loop-i-init : goal.loop-i-init
loop-i-init c = c.ahead-i.ensures
