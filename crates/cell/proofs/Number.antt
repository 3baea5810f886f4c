-- FLOAT's tests: that a float is finite, and its sign. Assumes nothing.
use Rattle.std.specs.Prelude.{Ok, Err}
use Rattle.paper.specs.declared.Fault.TheVariants.{ByZero, NoFit}
use Rattle.std.proofs.Common.{◌≡◌, true, false, T, pos, sym, refl, subst}
use lib.Ieee.{Float, nan, inf, fin, binary64, eq, to_bits, is_nan, div}
use Rattle.std.specs.Float.{float_is_finite, float_with_sign}
use Rattle.paper.specs.Cells.{finite}
use Rattle.paper.specs.Operators.{fit_float, float_div, abs_float}
use Rattle.paper.specs.declared.Cell.TheVariants.{Float as Number}

-- the FLOAT zero that the code compares with
abbrev zero_float : Float
zero_float = fin false 0 (pos 0)

never : {X : Type 0} → false ≡ true → X
never e = absurd (subst T (sym e) tt)

-- the library's test is that of `paper`
pub finite-told : (x : Float) → float_is_finite x ≡ finite x
unfolding float_is_finite finite
finite-told nan = refl
finite-told (inf s) = refl
finite-told (fin s m k) = refl

-- the pattern that stands for a NaN
pub nan-word : (x : Float) → is_nan x ≡ true → 0x7ff8_0000_0000_0000 ≡ to_bits binary64 x
unfolding is_nan to_bits
nan-word nan e = refl
nan-word (inf s) e = never e
nan-word (fin s m k) e = never e

-- ---- the sign

pub abs-told : (x : Float) → float_with_sign false x ≡ abs_float x
unfolding float_with_sign abs_float
abs-told nan = refl
abs-told (inf s) = refl
abs-told (fin s m k) = refl

-- ---- the laws of `fit_float`

pub fit-yes : (x : Float) → finite x ≡ true → Ok (Number x) ≡ fit_float x
unfolding fit_float
fit-yes x e = simp e

pub fit-no : (x : Float) → finite x ≡ false → Err NoFit ≡ fit_float x
unfolding fit_float
fit-no x e = simp e

-- ---- `float_div`

pub div-zero : (a b : Float) → eq b zero_float ≡ true → Err ByZero ≡ float_div a b
unfolding float_div
div-zero a b e = simp e

pub div-other : (a b : Float) → eq b zero_float ≡ false → fit_float (div binary64 a b) ≡ float_div a b
unfolding float_div
div-other a b e = simp e
