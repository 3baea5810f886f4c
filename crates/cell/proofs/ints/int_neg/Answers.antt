-- `cell::ints::int_neg` meets its contract. Assumes nothing.
use Rattle.std.proofs.Common.{◌≡◌, ◌^◌, ◌<◌, ℤ, pos, negsuc, neg_ℤ, sym, refl, ap, ◌∙◌, subst, arith, to_z-of_z, w64, SFits, of_z}
use native.Mathlib.Decide.{ℕ_discrete}
use lib.IntN.{+ℤ_idl}
use mir.Facts.{sfits_lit}
use Rattle.laws.specs.Parts.{dn, minus-parts, one-part, fit_parts, parts-fit, bits-eq}
use Rattle.paper.specs.Operators.{fit_int}
use Rattle.paper.specs.Limits.{smallest_int}
use Rattle.std.specs.Prelude.{Err}
use Rattle.paper.specs.declared.Fault.TheVariants.{NoFit}
use Rattle.cell.proofs.Fit.{fit-back}
use Rattle.cell.proofs.ints.int_neg.Goals as goal

pub overflow_sub-result : goal.overflow_sub-result
overflow_sub-result c =
    let a = c.args.a in
    let f = c.ranges.a in
    simp (to_z-of_z f)
    (parts-fit w64 _ (omega (arith, minus-parts (pos 0) a, one-part a, fit_parts f, above a f (λ e. c.if-a-eq-SMALLEST.false (ap (of_z w64) e)))))
  where
    -- a number that fits and is not the smallest is above it
    above : (a : ℤ) → SFits w64 a → (a ≡ smallest_int → ⊥) → dn a < 2 ^ 63
    above (pos n) f k = omega arith
    above (negsuc n) f k = by (ℕ_discrete n 9223372036854775807)
      where
        by : Dec (n ≡ 9223372036854775807) → dn (negsuc n) < 2 ^ 63
        by (yes e) = absurd (k (ap negsuc e))
        by (no e) = omega (arith, f.sfits)

pub returns-then-a-eq-SMALLEST : goal.returns-then-a-eq-SMALLEST
unfolding fit_int
returns-then-a-eq-SMALLEST c =
    subst (λ (z : ℤ). Err NoFit ≡ fit_int (neg_ℤ z)) (sym (bits-eq {w = w64} c.args.a smallest_int c.ranges.a (sfits_lit tt) c.if-a-eq-SMALLEST.true)) refl

pub returns-else-a-eq-SMALLEST : goal.returns-else-a-eq-SMALLEST
returns-else-a-eq-SMALLEST c =
    let f = c.ranges.a in
    simp (to_z-of_z f) (fit-back _ (simp (to_z-of_z f) at (overflow_sub-result c)) ∙ ap fit_int (+ℤ_idl (neg_ℤ c.args.a)))
