-- `recipe::good_length` meets its contract.
use Rattle.std.proofs.Common.{eq-eqb, ne_eqb, arith}
use Rattle.recipe.proofs.good_length.Goals as goal

pub returns-then-n-step-ne0 : goal.returns-then-n-step-ne0
returns-then-n-step-ne0 c = rw (ne_eqb _ 0 c.if-n-step-ne0.true)

pub returns : goal.returns
returns c = rw (eq-eqb _ 0 c.if-n-step-ne0.false) c.in_range.ensures

pub nonzero_rem-n : goal.nonzero_rem-n
nonzero_rem-n c = omega (arith, c.requires)

pub nonzero_div-n : goal.nonzero_div-n
nonzero_div-n c = omega (arith, c.requires)
