-- The cases of `filled` and of `cell_from`, each from the tests that lead to it. Assumes nothing.
use Rattle.std.specs.Prelude.{None, Some}
use Rattle.std.proofs.Common.{◌≡◌, ℕ, ◌%◌, ◌<◌, ◌≤◌, eqb, ap, ◌∙◌, w64, to_z, eq-eqb, ne_eqb, le-leb}
use borrow.Author.Tests.{lt-leb}
use lib.Ieee.{binary64, of_bits}
use Rattle.paper.specs.Limits.{INT, FLOAT}
use Rattle.paper.specs.Cells.{filled, cell_from}
use Rattle.paper.specs.declared.Cell.TheVariants.{Empty, Int, Float, Truth}
use Rattle.cell.proofs.Finite.{finite-below, finite-above}

module _ (kind n : ℕ) where
  pub filled-int : kind ≡ INT → filled kind n ≡ Some (Int (to_z w64 n))
  unfolding filled
  filled-int e = ap (λ (k : ℕ). filled k n) e

  pub filled-float : kind ≡ FLOAT → n % 0x8000_0000_0000_0000 < 0x7ff0_0000_0000_0000 → filled kind n ≡ Some (Float (of_bits binary64 n))
  unfolding filled
  filled-float e h = ap (λ (k : ℕ). filled k n) e ∙ simp (finite-below n h)

  pub filled-float-bad : kind ≡ FLOAT → 0x7ff0_0000_0000_0000 ≤ n % 0x8000_0000_0000_0000 → filled kind n ≡ None
  unfolding filled
  filled-float-bad e h = ap (λ (k : ℕ). filled k n) e ∙ simp (finite-above n h)

  pub filled-truth : (kind ≡ INT → ⊥) → (kind ≡ FLOAT → ⊥) → n ≤ 1 → filled kind n ≡ Some (Truth (eqb n 1))
  unfolding filled
  filled-truth a b h = simp (ne_eqb kind INT a, ne_eqb kind FLOAT b, le-leb n 1 h)

  pub filled-truth-bad : (kind ≡ INT → ⊥) → (kind ≡ FLOAT → ⊥) → 1 < n → filled kind n ≡ None
  unfolding filled
  filled-truth-bad a b h = simp (ne_eqb kind INT a, ne_eqb kind FLOAT b, lt-leb n 1 h)

  module _ (mark : ℕ) where
    pub from-filled : mark ≡ 1 → cell_from kind mark n ≡ filled kind n
    unfolding cell_from
    from-filled e = ap (λ (m : ℕ). cell_from kind m n) e

    pub from_empty : mark ≡ 0 → n ≡ 0 → cell_from kind mark n ≡ Some Empty
    unfolding cell_from
    from_empty e z = ap (λ (m : ℕ). cell_from kind m n) e ∙ simp (eq-eqb n 0 z)

    pub from-empty-bad : mark ≡ 0 → (n ≡ 0 → ⊥) → cell_from kind mark n ≡ None
    unfolding cell_from
    from-empty-bad e z = ap (λ (m : ℕ). cell_from kind m n) e ∙ simp (ne_eqb n 0 z)

    pub from-none : (mark ≡ 1 → ⊥) → (mark ≡ 0 → ⊥) → cell_from kind mark n ≡ None
    unfolding cell_from
    from-none a b = simp (ne_eqb mark 1 a, ne_eqb mark 0 b)
