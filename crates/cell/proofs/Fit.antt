-- The laws of `fit_int`, `eq_z` and `int_by`: a value that fits an i64 is itself, one above or below is refusal 12. Assumes nothing.
use Rattle.std.proofs.Common.{◌≡◌, ◌^◌, ◌<◌, ◌≤◌, Bool, true, false, ◌&&◌, ℤ, pos, negsuc, nat_abs, sym, refl, ap, ◌∙◌, arith, to_z-of_z, w64, SFits, to_z, of_z}
use lib.Signed.{le_z}
use Rattle.std.specs.Prelude.{FitsSigned, SomeIff, int_div, Ok, Err}
use Rattle.paper.specs.declared.Fault.TheVariants.{ByZero, NoFit}
use Rattle.std.proofs.Common.{Option, Some, None}
use Rattle.std.specs.Int.{IsNonZero, CanDivide}
use Rattle.laws.specs.Parts.{up, dn, one-part, le_yes, yes_le, no_le, fit_parts, parts-eq}
use Rattle.paper.specs.declared.Cell.TheVariants.{Int}
use Rattle.paper.specs.Limits.{smallest_int, largest_int}
use Rattle.paper.specs.Operators.{fit_int, int_by, eq_z}

pub fit-yes : (z : ℤ) → SFits w64 z → fit_int z ≡ Ok (Int z)
unfolding fit_int
fit-yes z f = simp (yes_le smallest_int z (omega (arith, fit_parts f)), yes_le z largest_int (omega (arith, fit_parts f)))

pub fit-high : (z : ℤ) → 2 ^ 63 ≤ up z → fit_int z ≡ Err NoFit
unfolding fit_int
fit-high z h = simp (yes_le smallest_int z (omega (arith, one-part z)), no_le z largest_int (omega (arith, one-part z)))

pub fit_low : (z : ℤ) → 2 ^ 63 < dn z → fit_int z ≡ Err NoFit
unfolding fit_int
fit_low z h = simp (no_le smallest_int z (omega (arith, one-part z)))

-- the value that the machine hands back, read from its bits
pub fit-back : (z : ℤ) → SFits w64 z → Ok (Int (to_z w64 (of_z w64 z))) ≡ fit_int z
fit-back z f = ap (λ (y : ℤ). Ok (Int y)) (to_z-of_z f) ∙ sym (fit-yes z f)

-- by the magnitude alone
pub fit-over : (z : ℤ) → 2 ^ 63 < nat_abs z → fit_int z ≡ Err NoFit
fit-over (pos n) h = fit-high (pos n) (omega arith)
fit-over (negsuc n) h = fit_low (negsuc n) (omega arith)

-- one that doesn't fit
fit-not : (z : ℤ) → (SFits w64 z → ⊥) → fit_int z ≡ Err NoFit
fit-not (pos n) f = fit-high (pos n) (omega (arith, λ (h : n < 2 ^ 63). f (record { sfits = h })))
fit-not (negsuc n) f = fit_low (negsuc n) (omega (arith, λ (h : n < 2 ^ 63). f (record { sfits = h })))

-- a number that was checked: it is there exactly if it fits
pub checked-some : (z y : ℤ) → SomeIff (Some y) (FitsSigned w64 z) z → Ok (Int (to_z w64 (of_z w64 y))) ≡ fit_int z
checked-some z y s = ap (λ (x : ℤ). Ok (Int (to_z w64 (of_z w64 x)))) s.1 ∙ fit-back z s.0

pub checked_none : (z : ℤ) → SomeIff None (FitsSigned w64 z) z → Err NoFit ≡ fit_int z
checked_none z s = sym (fit-not z s)

-- a quotient that was checked, by a number other than 0
pub divided : (a b : ℤ) (o : Option ℤ) → IsNonZero w64 b → SomeIff o (CanDivide w64 a b) (int_div a b) → SomeIff o (FitsSigned w64 (int_div a b)) (int_div a b)
divided a b None n s = λ f. s (n, f)
divided a b (Some z) n s = (s.0.1, s.1)

-- ---- `eq_z`

eq-by : (a b : ℤ) (p q : Bool) → le_z a b ≡ p → le_z b a ≡ q → (a ≡ b → ⊥) → (p && q) ≡ false
eq-by a b true true e f n = absurd (n (parts-eq a b (omega (arith, le_yes a b e, le_yes b a f))))
eq-by a b true false e f n = refl
eq-by a b false q e f n = refl

pub eq_z-no : (a b : ℤ) → (a ≡ b → ⊥) → eq_z a b ≡ false
eq_z-no a b n = eq-by a b (le_z a b) (le_z b a) refl refl n

pub eq_z-yes : (a b : ℤ) → a ≡ b → eq_z a b ≡ true
eq_z-yes a b e = simp (yes_le a b (omega (arith, ap up e, ap dn e)), yes_le b a (omega (arith, ap up e, ap dn e)))

-- ---- `int_by`: division and MOD

module _ (f : ℤ → ℤ → ℤ) (a b : ℤ) where
  pub by_zero : b ≡ pos 0 → Err ByZero ≡ int_by f a b
  unfolding int_by
  by_zero e = simp (eq_z-yes b (pos 0) e)

  pub by-other : (b ≡ pos 0 → ⊥) → fit_int (f a b) ≡ int_by f a b
  unfolding int_by
  by-other n = simp (eq_z-no b (pos 0) n)
