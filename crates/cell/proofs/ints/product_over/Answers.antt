-- `cell::ints::product_over` meets its contract. Assumes nothing.
use Rattle.std.proofs.Common.{ℕ, suc, ◌*◌, ◌/◌, sym, ap, div-lt_iff_lt-mul, arith}
use borrow.Author.Tests.{lt-leb}
use Rattle.laws.specs.Parts.{leb-iff}
use Rattle.cell.proofs.ints.product_over.Goals as goal

pub returns-then-m-eq0 : goal.returns-then-m-eq0
returns-then-m-eq0 c =
    let m = c.args.m in
    let n = c.args.n in
    sym (lt-leb 18446744073709551616 (m * n) (omega (arith, ap (λ (k : ℕ). k * n) c.if-m-eq0.true)))

pub returns-else-m-eq0 : goal.returns-else-m-eq0
returns-else-m-eq0 c =
    let m = c.args.m in
    let n = c.args.n in
    let both = div-lt_iff_lt-mul {k = m} {x = 18446744073709551615} {y = n} (omega (arith, c.if-m-eq0.false)) in
    leb-iff (suc (18446744073709551615 / m)) n 18446744073709551616 (m * n)
    (λ h. omega (arith, both.0 h)) (λ h. both.1 (omega arith))
