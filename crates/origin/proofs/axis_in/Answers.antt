-- `origin::axis_in` meets its contract: before the axis put in, at it, and behind it.
use Rattle.std.proofs.Common.{◌∙◌, arith}
use Rattle.origin.specs.Patches.{axis-before, axis-here, axis-behind}
use Rattle.origin.proofs.axis_in.Goals as goal

pub returns-then-j-k : goal.returns-then-j-k
returns-then-j-k c =
    c.axis_of.ensures ∙ axis-before c.requires.insertable c.args.a c.args.j.0 c.requires.le_j c.if-j-k.true

pub returns-then-j-k-2 : goal.returns-then-j-k-2
returns-then-j-k-2 c =
    axis-here c.requires.insertable c.args.a c.args.j.0 c.requires.le_j c.if-j-k-2.true

pub returns : goal.returns
returns c =
    c.axis_of-2.ensures ∙ axis-behind c.requires.insertable c.args.a c.args.j.0 c.requires.le_j
    (omega (arith, c.if-j-k-2.false, c.if-j-k.false))
