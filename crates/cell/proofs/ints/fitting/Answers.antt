-- `cell::ints::fitting` meets its contract: what was checked fits, or it doesn't. Assumes nothing.
use Rattle.std.proofs.Common.{FitsSigned, SomeIff, subst}
use Rattle.std.specs.Int.{w64}
use Rattle.cell.proofs.Fit.{checked-some, checked_none}
use Rattle.cell.proofs.ints.fitting.Goals as goal

pub returns-in-Some : goal.returns-in-Some
returns-in-Some c = λ z s. checked-some z _ (subst (λ o. SomeIff o (FitsSigned w64 z) z) c.in-Some.is s)

pub returns-in-None : goal.returns-in-None
returns-in-None c = λ z s. checked_none z (subst (λ o. SomeIff o (FitsSigned w64 z) z) c.in-None.is s)
