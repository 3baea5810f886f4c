-- `listing::left_on` meets its contract.
use Rattle.std.proofs.Common.{arith}
use Rattle.listing.proofs.left_on.Goals as goal

pub overflow_sub-result-2 : goal.overflow_sub-result-2
overflow_sub-result-2 c = omega (arith, c.requires.last (omega (arith, c.if-rank-eq0.false)))

pub returns : goal.returns
returns c =
    let h = c.requires.last (omega (arith, c.if-rank-eq0.false)) in
    record { some = omega arith; upto = omega arith; last = λ b. omega arith }
