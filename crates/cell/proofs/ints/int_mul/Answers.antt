-- `cell::ints::int_mul` meets its contract. Assumes nothing.
use Rattle.std.proofs.Common.{◌≡◌, ℕ, ◌*◌, ◌^◌, ◌≤◌, true, ◌&&◌, ltb, leb, ℤ, ◌*ℤ◌, nat_abs, sym, ap, ◌∙◌, mul-le-mul_right, arith, to_z-of_z, w64, SFits, ltb-true, leb-false, leb-true}
use mir.Facts.{sfits_lit}
use Rattle.laws.specs.Tests.{and_left, and_right}
use Rattle.laws.specs.Parts.{up, dn, one-part, abs-parts, parts-eq, abs-mul, small-fits, neg-flag, same-signs, unlike-signs}
use Rattle.paper.specs.Operators.{fit_int}
use Rattle.paper.specs.Limits.{smallest_int}
use Rattle.cell.proofs.Fit.{fit-yes, fit-back, fit-high, fit-over}
use Rattle.cell.proofs.ints.int_mul.Goals as goal
use Rattle.cell.proofs.ints.int_mul.Goals.{After-product_over}

-- the number of the machine's product, by the magnitudes
prod : (a b : ℤ) (m n : ℕ) → m ≡ nat_abs a → n ≡ nat_abs b → nat_abs (a *ℤ b) ≡ m * n
prod a b m n e f = abs-mul a b ∙ sym (rw (e, f))

-- a number of 32 bits is at most 2 ^ 31 in magnitude, and the product of two is far below 2 ^ 63
of-32 : (a : ℤ) → (leb (dn a) (2 ^ 31) && ltb (up a) (2 ^ 31)) ≡ true → nat_abs a ≤ 2 ^ 31
of-32 a e =
    let d = leb-true (dn a) (2 ^ 31) (and_left (leb (dn a) (2 ^ 31)) _ e) in
    let u = ltb-true (up a) (2 ^ 31) (and_right (leb (dn a) (2 ^ 31)) _ e) in
    omega (arith, abs-parts a, one-part a)

product-fits : (a b : ℤ) → nat_abs a ≤ 2 ^ 31 → nat_abs b ≤ 2 ^ 31 → SFits w64 (a *ℤ b)
product-fits a b f g = small-fits (a *ℤ b) (omega (arith, abs-mul a b, mul-le-mul_right (nat_abs b) f))

-- both are of 32 bits
pub overflow_mul-result : goal.overflow_mul-result
overflow_mul-result c =
    let o = c in
    let f = of-32 o.args.a (sym (simp (to_z-of_z o.ranges.a) at c.small.ensures) ∙ c.if-small.true) in
    let g = of-32 o.args.b (sym (simp (to_z-of_z o.ranges.b) at c.small-then-small.ensures) ∙ c.if-small-2.true) in
    simp (to_z-of_z o.ranges.a, to_z-of_z o.ranges.b) (product-fits o.args.a o.args.b f g)

pub returns-then-small-2 : goal.returns-then-small-2
returns-then-small-2 c =
    let o = c in
    simp (to_z-of_z o.ranges.a, to_z-of_z o.ranges.b) (fit-back _ (simp (to_z-of_z o.ranges.a, to_z-of_z o.ranges.b) at (overflow_mul-result c)))

-- what is known after the three calls: p, the product of the two magnitudes, is the product's
size : (c : After-product_over) → nat_abs (c.args.a *ℤ c.args.b) ≡ c.magnitude-m.result * c.magnitude-n.result
size c =
    let o = c in
    prod o.args.a o.args.b _ _ (simp (to_z-of_z o.ranges.a) at c.magnitude-m.ensures) (simp (to_z-of_z o.ranges.b) at c.magnitude-n.ensures)

pub returns-then-product_over : goal.returns-then-product_over
returns-then-product_over c =
    let o = c in
    sym (fit-over (o.args.a *ℤ o.args.b) (omega (arith, size c.before, leb-true (2 ^ 64) (c.magnitude-m.result * c.magnitude-n.result) (sym c.product_over.ensures ∙ c.if-product_over.true))))

pub overflow_mul-p : goal.overflow_mul-p
overflow_mul-p c = omega (arith, leb-false (2 ^ 64) (c.magnitude-m.result * c.magnitude-n.result) (sym c.product_over.ensures ∙ c.if-product_over.false))

pub overflow_mul-result-then-p-lt9223372036854775808 : goal.overflow_mul-result-then-p-lt9223372036854775808
overflow_mul-result-then-p-lt9223372036854775808 c =
    let o = c in
    simp (to_z-of_z o.ranges.a, to_z-of_z o.ranges.b) (small-fits (o.args.a *ℤ o.args.b) (omega (arith, size c.before.before, c.if-p-lt9223372036854775808.true)))

pub returns-then-p-lt9223372036854775808 : goal.returns-then-p-lt9223372036854775808
returns-then-p-lt9223372036854775808 c =
    let o = c in
    simp (to_z-of_z o.ranges.a, to_z-of_z o.ranges.b) (fit-back _ (simp (to_z-of_z o.ranges.a, to_z-of_z o.ranges.b) at (overflow_mul-result-then-p-lt9223372036854775808 c)))

pub returns-then-a-b : goal.returns-then-a-b
returns-then-a-b c =
    let o = c in
    let z = o.args.a *ℤ o.args.b in
    let s = simp (to_z-of_z o.ranges.a, to_z-of_z o.ranges.b, neg-flag) at c.if-a-b.true in
    sym (fit-high z (omega (arith, size c.before.before.before.before, c.if-p.true, same-signs o.args.a o.args.b s)))

pub returns-else-a-b : goal.returns-else-a-b
returns-else-a-b c =
    let o = c in
    let z = o.args.a *ℤ o.args.b in
    let s = simp (to_z-of_z o.ranges.a, to_z-of_z o.ranges.b, neg-flag) at c.if-a-b.false in
    let e : z ≡ smallest_int = parts-eq z smallest_int (omega (arith, one-part z, size c.before.before.before.before, c.if-p.true, unlike-signs o.args.a o.args.b s)) in
    sym (ap fit_int e ∙ fit-yes smallest_int (sfits_lit tt))

pub returns-else-p : goal.returns-else-p
returns-else-p c =
    let o = c in
    sym (fit-over (o.args.a *ℤ o.args.b) (omega (arith, size c.before.before.before, c.if-p-lt9223372036854775808.false, c.if-p.false)))
