-- `cell::floats::float_div` meets its contract. Assumes nothing.
use Rattle.std.proofs.Common.{◌∙◌}
use lib.Ieee.{of_bits}
use Rattle.cell.proofs.Number.{div-zero, div-other}
use Rattle.cell.proofs.floats.float_div.Goals as goal

pub returns-then-b : goal.returns-then-b
unfolding of_bits
returns-then-b c = div-zero c.args.a c.args.b c.if-b.true

pub returns : goal.returns
unfolding of_bits
returns c =
    let o = c.args in
    c.fit_float.ensures ∙ div-other o.a o.b c.if-b.false
