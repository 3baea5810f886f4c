-- `bundle::mark::version_in` meets its contract: each way out by the law of its test.
use Rattle.bundle.specs.Axes.{names-other, names-larger, names-two}
use Rattle.bundle.proofs.mark.version_in.Goals as goal

pub returns-then-low-ne2 : goal.returns-then-low-ne2
returns-then-low-ne2 c =
    names-other c.args.s.now _ _ c.byte_at-low.ensures c.byte_at-high.ensures c.if-low-ne2.true

pub returns-then-high-ne0 : goal.returns-then-high-ne0
returns-then-high-ne0 c =
    names-larger c.args.s.now _ _ c.byte_at-low.ensures c.byte_at-high.ensures
    c.if-low-ne2.false c.if-high-ne0.true

pub returns : goal.returns
returns c =
    names-two c.args.s.now _ _ c.byte_at-low.ensures c.byte_at-high.ensures c.if-low-ne2.false
    c.if-high-ne0.false
