-- The arms of the matches on a code: each calls what its code says, and the last has no code. Assumes nothing.
use Rattle.std.specs.Prelude.{Ok}
use Prim.Native.Nat.{ℕ, ◌≤◌, ◌<◌}
use mathlib.Core.Path.{◌≡◌, refl, sym, ap, ap₂, ◌∙◌}
use mathlib.Core.Bool.{false}
use mathlib.Core.List.{List, [], ◌∷◌}
use native.Mathlib.Omega.{arith}
use lib.Dec.{eqb}
use borrow.Author.Tests.{ne_eqb, le-leb, lt-leb}
use Rattle.paper.specs.Limits.{FLOAT}
use Rattle.paper.specs.Operators.{pair_cell, single_cell, Answer}
use Rattle.paper.specs.declared.Cell.{Cell}
use Rattle.paper.specs.declared.Cell.TheVariants.{Empty}
use Rattle.paper.specs.declared.PairOp.{PairOp}
use Rattle.paper.specs.declared.SingleOp.{SingleOp}
use Rattle.operators.proofs.Beyond.{Differs}
use Rattle.coded.specs.Codes.{standing, NoNan, kind_of, among, known, code_cell, int_codes, float_codes, truth_codes, single_codes, Judged, answered}

-- ---- an arm

module _ (i x j y : ℕ) {code : ℕ} (k : ℕ) (e : code ≡ k) where
  pub pair_row : {r : Answer} {a b : Cell} (o : PairOp) → ((a b : Cell) → pair_cell o a b ≡ code_cell k a b) → r ≡ pair_cell o a b → a ≡ standing (kind_of k) i x
      → b ≡ standing (kind_of k) j y → r ≡ answered code i x j y
  pair_row o row h p q = h ∙ ap₂ (pair_cell o) p q ∙ row _ _ ∙ sym (ap (λ (n : ℕ). answered n i x j y) e)

  pub single-row : {r : Answer} {a : Cell} (o : SingleOp) → ((a b : Cell) → single_cell o a ≡ code_cell k a b) → r ≡ single_cell o a → a ≡ standing (kind_of k) i x
      → r ≡ answered code i x j y
  single-row o row h p = h ∙ ap (single_cell o) p ∙ row _ _ ∙ sym (ap (λ (n : ℕ). answered n i x j y) e)

-- the words of a FLOAT code
pub judged : {code : ℕ} (k : ℕ) → code ≡ k → (x y : ℕ) → Judged code x y → kind_of k ≡ FLOAT → NoNan x × NoNan y
judged k e x y g h = g (ap kind_of e ∙ h)

-- ---- no code

none-among : (k : ℕ) (ks : List ℕ) → Differs k ks → among k ks ≡ false
none-among k [] d = refl
none-among k (x ∷ xs) d = let h : eqb k x ≡ false = ne_eqb k x d.1 in simp h (none-among k xs d.0)

module _ (i x j y k : ℕ) where
  no_code : known k ≡ false → Ok Empty ≡ answered k i x j y
  unfolding code_cell
  no_code h = let z : known k ≡ false = h in simp z

  pub no-int : k < 16 → Differs k int_codes → Ok Empty ≡ answered k i x j y
  no-int l d = no_code (simp (lt-leb 48 k (omega arith), lt-leb 32 k (omega arith), lt-leb 16 k l) (none-among k int_codes d))

  pub no-float : 16 ≤ k → k < 32 → Differs k float_codes → Ok Empty ≡ answered k i x j y
  no-float f l d = no_code (simp (lt-leb 48 k (omega arith), lt-leb 32 k l, le-leb 16 k f) (none-among k float_codes d))

  pub no_truth : 32 ≤ k → k < 48 → Differs k truth_codes → Ok Empty ≡ answered k i x j y
  no_truth f l d = no_code (simp (lt-leb 48 k l, le-leb 32 k f) (none-among k truth_codes d))

  pub no-single : 48 ≤ k → Differs k single_codes → Ok Empty ≡ answered k i x j y
  no-single f d = no_code (simp (le-leb 48 k f) (none-among k single_codes d))
