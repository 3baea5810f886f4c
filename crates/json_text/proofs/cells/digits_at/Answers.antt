-- `json_text::cells::digits_at` meets its contract: digit by digit, what the digits left make of the number so far is the number.
use Rattle.std.proofs.Common.{sym, ◌∙◌}
use borrow.Author.Tests.{not-true, not-false}
use Rattle.json_text.specs.Kinds.{digit-from}
use Rattle.json_text.specs.Whole.{counting, text-over, no_more, one_more}
use Rattle.json_text.proofs.cells.digits_at.Goals as goal

pub loop-i-init : goal.loop-i-init
loop-i-init c = counting c.args.s.now c.args.at c.requires

pub returns-then-not-is_digit : goal.returns-then-not-is_digit
returns-then-not-is_digit c =
    let d = c.is_digit in
    no_more c.args.s.now c.args.at c.loop-i.i c.loop-i.n c.loop-i.invariant c.loop-i-test.true
    (sym d.ensures ∙ not-true d.result c.if-not-is_digit.true-raw)

pub overflow_sub-b : goal.overflow_sub-b
overflow_sub-b c = let d = c.is_digit in digit-from _ (sym d.ensures ∙ not-false d.result c.if-not-is_digit.false-raw)

pub loop-i-preserved : goal.loop-i-preserved
loop-i-preserved c =
    let d = c.is_digit in
    one_more c.args.s.now c.args.at c.loop-i.i c.loop-i.n c.loop-i.invariant
    c.loop-i-test.true (sym d.ensures ∙ not-false d.result c.if-not-is_digit.false-raw)
    c.with_digit-n.result c.with_digit-n.ensures

pub returns : goal.returns
returns c =
    text-over c.args.s.now c.args.at c.loop-i.i c.loop-i.n c.loop-i.invariant c.loop-i-test.false
