-- `totals::mean_next` meets its contract.
use Rattle.std.proofs.Common.{refl, sym, rules}
use Rattle.totals.specs.Sums.{mean-empty, mean-filled}
use Rattle.paper.specs.Totals.{float}
use Rattle.totals.proofs.mean_next.Goals as goal

pub no_number-requires : goal.no_number-requires
unfolding float
no_number-requires c = search rules

pub mean_with-requires : goal.mean_with-requires
unfolding float
mean_with-requires c = search rules

pub mean_with-requires-in-Float : goal.mean_with-requires-in-Float
unfolding float
mean_with-requires-in-Float c = search rules

pub no_number-requires-in-Truth : goal.no_number-requires-in-Truth
unfolding float
no_number-requires-in-Truth c = search rules

pub mean_with-requires-in-Truth : goal.mean_with-requires-in-Truth
unfolding float
mean_with-requires-in-Truth c = search rules

pub returns-in-Empty : goal.returns-in-Empty
unfolding float
returns-in-Empty c = rw c.in-Empty.is (mean-empty _)

pub returns-in-Int : goal.returns-in-Int
unfolding float
returns-in-Int c = rw c.in-Int.is (mean-filled refl (sym c.no_number.ensures) c.mean_with.ensures)

pub returns-in-Float : goal.returns-in-Float
unfolding float
returns-in-Float c = rw c.in-Float.is (mean-filled refl refl c.mean_with-in-Float.ensures)

pub returns-in-Truth : goal.returns-in-Truth
unfolding float
returns-in-Truth c = rw c.in-Truth.is (mean-filled refl (sym c.no_number-in-Truth.ensures) c.mean_with-in-Truth.ensures)
