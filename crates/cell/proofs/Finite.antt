-- Which bit patterns of binary64 are a finite number's: with the sign bit taken off, those below the infinity's. Assumes nothing.
use Rattle.std.proofs.Common.{◌≡◌, ℕ, zero, suc, ◌+◌, ◌/◌, ◌%◌, ◌<◌, ◌≤◌, Bool, true, false, cond, not, ◌&&◌, T, eqb, sym, refl, ap, ◌∙◌, subst, arith, eq-eqb, ne_eqb}
use lib.Ieee.{Float, nan, inf, binary64, odd, of_fields, of_bits, nan_bits}
use Rattle.paper.specs.Cells.{finite}

odd-finite : (d : ℕ) (s : Bool) (q k l : ℕ) → finite (odd d s q k l) ≡ true
unfolding odd finite
odd-finite d s zero k l = refl
odd-finite d s (suc q) k l = refl

by_tests : (a b s : Bool) (v : Float) → finite v ≡ true → finite (cond a (cond b (inf s) nan) v) ≡ not a
unfolding finite
by_tests true true s v h = refl
by_tests true false s v h = refl
by_tests false b s v h = h

fields-finite : (s : Bool) (x t : ℕ) → finite (of_fields binary64 s x t) ≡ not (eqb x 2047)
unfolding of_fields
fields-finite s zero t = odd-finite 53 s t 0 1074
fields-finite s (suc x) t = by_tests (eqb (suc x) 2047) (eqb t 0) s _ (odd-finite 53 s (0x10_0000_0000_0000 + t) x 1074)

-- by the exponent's field
exponent : (n : ℕ) → finite (of_bits binary64 n) ≡ not (eqb (n % 0x8000_0000_0000_0000 / 0x10_0000_0000_0000) 2047)
unfolding of_bits
exponent n = fields-finite _ (n % 0x8000_0000_0000_0000 / 0x10_0000_0000_0000) (n % 0x10_0000_0000_0000)

low : (n : ℕ) → n % 0x8000_0000_0000_0000 < 0x7ff0_0000_0000_0000 → eqb (n % 0x8000_0000_0000_0000 / 0x10_0000_0000_0000) 2047 ≡ false
low n h = ne_eqb (n % 0x8000_0000_0000_0000 / 0x10_0000_0000_0000) 2047 (λ e. omega arith)

high : (n : ℕ) → 0x7ff0_0000_0000_0000 ≤ n % 0x8000_0000_0000_0000 → eqb (n % 0x8000_0000_0000_0000 / 0x10_0000_0000_0000) 2047 ≡ true
high n h = eq-eqb (n % 0x8000_0000_0000_0000 / 0x10_0000_0000_0000) 2047 (omega arith)

pub finite-below : (n : ℕ) → n % 0x8000_0000_0000_0000 < 0x7ff0_0000_0000_0000 → finite (of_bits binary64 n) ≡ true
finite-below n h = exponent n ∙ ap not (low n h)

pub finite-above : (n : ℕ) → 0x7ff0_0000_0000_0000 ≤ n % 0x8000_0000_0000_0000 → finite (of_bits binary64 n) ≡ false
finite-above n h = exponent n ∙ ap not (high n h)

-- what `f64::from_bits` asks
pub no-nan-bits : (n : ℕ) → n % 0x8000_0000_0000_0000 < 0x7ff0_0000_0000_0000 → T (not (nan_bits binary64 n))
unfolding nan_bits
no-nan-bits n h = subst (λ (b : Bool). T (not (b && not (eqb (n % 0x10_0000_0000_0000) 0)))) (sym (low n h)) tt
