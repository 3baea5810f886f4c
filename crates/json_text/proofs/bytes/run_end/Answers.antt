-- `json_text::bytes::run_end` meets its contract: byte by byte, what is left stays what it was.
use Rattle.std.proofs.Common.{get_or, sym, ◌∙◌}
use Rattle.json_text.specs.Numbers.{passing, passed-end, passed-other, passed_on}
use Rattle.json_text.proofs.bytes.run_end.Goals as goal

pub loop-i-init : goal.loop-i-init
loop-i-init g c = λ k t. passing k c.args.s.now c.args.at c.requires.room

pub returns-then-not-is : goal.returns-then-not-is
returns-then-not-is g c =
    λ k t. passed-other k c.args.s.now c.args.at c.loop-i.i (c.loop-i.invariant k t) c.loop-i-test.true
    (sym (t (get_or c.args.s.now c.loop-i.i 0) c.is.result c.is.ensures) ∙ c.if-not-is.true)

pub loop-i-preserved : goal.loop-i-preserved
loop-i-preserved g c =
    λ k t. passed_on k c.args.s.now c.args.at c.loop-i.i (c.loop-i.invariant k t) c.loop-i-test.true
    (sym (t (get_or c.args.s.now c.loop-i.i 0) c.is.result c.is.ensures) ∙ c.if-not-is.false)

pub returns : goal.returns
returns g c = λ k t. passed-end k c.args.s.now c.args.at c.loop-i.i (c.loop-i.invariant k t) c.loop-i-test.false
