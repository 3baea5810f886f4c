-- `cell::ints::int_abs` meets its contract. Assumes nothing.
use Rattle.std.proofs.Common.{pos, neg_ℤ, nat_abs, sym, ap, ◌∙◌, arith, to_z-of_z}
use lib.Signed.{pos-nat_abs}
use Rattle.laws.specs.Parts.{neg-parts, abs-parts, one-part, le_yes, le-no, parts-eq, nonneg-parts}
use Rattle.paper.specs.Operators.{fit_int}
use Rattle.cell.proofs.Fit.{fit-back}
use Rattle.cell.proofs.ints.int_abs.Goals as goal

pub returns-then-a-ge0 : goal.returns-then-a-ge0
returns-then-a-ge0 c =
    let a = c.args.a in
    let f = c.ranges.a in
    let h = simp (to_z-of_z f) at c.if-a-ge0.true in
    fit-back a f ∙ ap fit_int (sym (pos-nat_abs a (nonneg-parts a (omega (arith, one-part a, le_yes (pos 0) a h)))))

pub returns-else-a-ge0 : goal.returns-else-a-ge0
returns-else-a-ge0 c =
    let a = c.args.a in
    let f = c.ranges.a in
    let h = simp (to_z-of_z f) at c.if-a-ge0.false in
    c.int_neg.ensures ∙ simp (to_z-of_z f) (ap fit_int (parts-eq (neg_ℤ a) (pos (nat_abs a)) (omega (arith, neg-parts a, abs-parts a, one-part a, le-no (pos 0) a h))))
