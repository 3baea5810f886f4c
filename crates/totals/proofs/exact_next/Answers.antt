-- `totals::exact_next` meets its contract.
use Rattle.std.proofs.Common.{w64, SFits, rules, to_z-of_z, refl}
use borrow.Author.Rules.{sfits_of}
use Rattle.totals.specs.Sums.{exact-empty, exact-filled}
use Rattle.paper.specs.declared.Cell.TheVariants.{Int, Float, Truth}
use Rattle.paper.specs.Totals.{int}
use Rattle.totals.proofs.exact_next.Goals as goal

pub returns-in-Int : goal.returns-in-Int
unfolding int
returns-in-Int c =
    let z : SFits w64 c.in-Int.z = sfits_of (search rules) in
    rw c.in-Int.is (exact-filled (Int _) refl (rw (to_z-of_z z) at c.exact_with.ensures))

pub exact_with-requires : goal.exact_with-requires
unfolding int
exact_with-requires c = search rules

pub exact_with-requires-in-Float : goal.exact_with-requires-in-Float
unfolding int
exact_with-requires-in-Float c = search rules

pub exact_with-requires-in-Truth : goal.exact_with-requires-in-Truth
unfolding int
exact_with-requires-in-Truth c = search rules

pub returns-in-Empty : goal.returns-in-Empty
unfolding int
returns-in-Empty c = rw c.in-Empty.is (exact-empty _)

pub returns-in-Float : goal.returns-in-Float
unfolding int
returns-in-Float c = rw c.in-Float.is (exact-filled (Float _) refl c.exact_with-in-Float.ensures)

pub returns-in-Truth : goal.returns-in-Truth
unfolding int
returns-in-Truth c = rw c.in-Truth.is (exact-filled (Truth _) refl c.exact_with-in-Truth.ensures)
