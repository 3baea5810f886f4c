-- `cell::ints::int_eq` meets its contract. Assumes nothing.
use Rattle.std.proofs.Common.{◌≡◌, Bool, true, false, eqb, ℤ, sym, refl, ap, w64, SFits, of_z, eqb-true}
use borrow.Author.Tests.{eqb-false}
use Rattle.laws.specs.Parts.{bits-eq}
use Rattle.paper.specs.Operators.{eq_z}
use Rattle.cell.proofs.Fit.{eq_z-yes, eq_z-no}
use Rattle.cell.proofs.ints.int_eq.Goals as goal

eq-bits : (p : Bool) (a b : ℤ) → SFits w64 a → SFits w64 b → eqb (of_z w64 a) (of_z w64 b) ≡ p → p ≡ eq_z a b
eq-bits true a b fa fb e = sym (eq_z-yes a b (bits-eq a b fa fb (eqb-true _ _ e)))
eq-bits false a b fa fb e = sym (eq_z-no a b (λ k. eqb-false _ _ e (ap (of_z w64) k)))

pub returns : goal.returns
returns c = eq-bits _ c.args.a c.args.b c.ranges.a c.ranges.b refl
