-- What a mark and a word stand for: the cases, and, where they are a cell's, that cell, whose bytes they are. A FLOAT cell's word, an empty
-- one's too, is no NaN's; so the loop over cells need not judge again. Assumes nothing.
use Rattle.std.specs.Prelude.{Some}
use Prim.Native.Nat.{ℕ, ◌%◌, ◌^◌, ◌<◌}
use mathlib.Core.Path.{◌≡◌, sym, ap, ap₂, ◌∙◌, subst}
use lib.Dec.{eqb, T, leb}
use lib.Ieee.{binary64, of_bits, nan_bits}
use mir.Syntax.{w64}
use mir.Val.{to_z}
use borrow.Author.Tests.{eq-eqb, ne_eqb, eqb-true, leb-true}
use mathlib.Core.Bool.{Bool, true, not, ◌&&◌}
use mathlib.Core.List.{◌∷◌}
use native.Mathlib.Omega.{arith}
use lib.Ieee.Bits.{nan_bits_is}
use Rattle.paper.specs.Limits.{INT, FLOAT, BOOLEAN, word_bytes}
use Rattle.paper.specs.declared.Cell.TheVariants.{Empty, Int, Float, Truth}
use Rattle.paper.specs.Numbers.{le_bytes}
use Rattle.paper.specs.Cells.{finite, filled, cell_from, encode}
use Rattle.paper.specs.declared.Cell.{Cell}
use Rattle.coded.specs.Codes.{standing, NoNan}
use Rattle.laws.specs.Tests.{and_left, and_right}
use Rattle.laws.specs.Cells.{inj, bad, either, no_nan, from_back}

pub standing-empty : (kind mark n : ℕ) → mark % 2 ≡ 0 → standing kind mark n ≡ Empty
unfolding standing
standing-empty kind mark n e = simp (eq-eqb (mark % 2) 0 e)

module _ (mark n : ℕ) (h : mark % 2 ≡ 0 → ⊥) where
  pub standing-int : standing INT mark n ≡ Int (to_z w64 n)
  unfolding standing
  standing-int = simp (ne_eqb (mark % 2) 0 h)

  pub standing-float : standing FLOAT mark n ≡ Float (of_bits binary64 n)
  unfolding standing
  standing-float = simp (ne_eqb (mark % 2) 0 h)

  pub standing-truth : standing BOOLEAN mark n ≡ Truth (eqb (n % 2) 1)
  unfolding standing
  standing-truth = simp (ne_eqb (mark % 2) 0 h)

-- ---- what they stand for

odd : (mark : ℕ) → mark ≡ 1 → mark % 2 ≡ 0 → ⊥
odd mark e z = omega arith

even : (mark : ℕ) → mark ≡ 0 → mark % 2 ≡ 0
even mark e = omega arith

-- a truth value's word is 0 or 1
low_bit : (n : ℕ) → leb n 1 ≡ true → eqb (n % 2) 1 ≡ eqb n 1
low_bit n e = let l = leb-true n 1 e in let m : n % 2 ≡ n = omega arith in ap (λ (x : ℕ). eqb x 1) m

filled_is : (kind mark n : ℕ) (c : Cell) → (mark % 2 ≡ 0 → ⊥) → filled kind n ≡ Some c → standing kind mark n ≡ c
unfolding filled standing
filled_is kind mark n c h =
    either (eqb kind INT) _ _ (Some c) (standing kind mark n ≡ c)
    (λ k e. let s : standing kind mark n ≡ Int (to_z w64 n) = simp (ne_eqb (mark % 2) 0 h, k) in s ∙ inj (Int (to_z w64 n)) c e)
    (λ a. either (eqb kind FLOAT) _ _ (Some c) (standing kind mark n ≡ c)
    (λ k. either (finite (of_bits binary64 n)) _ _ (Some c) (standing kind mark n ≡ c)
    (λ f e. let s : standing kind mark n ≡ Float (of_bits binary64 n) = simp (ne_eqb (mark % 2) 0 h, a, k) in s ∙ inj (Float (of_bits binary64 n)) c e)
    (λ f e. absurd (bad c e)))
    (λ b. either (leb n 1) _ _ (Some c) (standing kind mark n ≡ c)
    (λ f e. let s : standing kind mark n ≡ Truth (eqb (n % 2) 1) = simp (ne_eqb (mark % 2) 0 h, a, b) in s ∙ ap Truth (low_bit n f) ∙ inj (Truth (eqb n 1)) c e)
    (λ f e. absurd (bad c e))))

-- a mark and a word that are a cell's stand for it
pub standing-is : (kind mark n : ℕ) (c : Cell) → cell_from kind mark n ≡ Some c → standing kind mark n ≡ c
unfolding cell_from
standing-is kind mark n c =
    either (eqb mark 1) _ _ (Some c) (standing kind mark n ≡ c)
    (λ m. filled_is kind mark n c (odd mark (eqb-true mark 1 m)))
    (λ _. either (eqb mark 0 && eqb n 0) _ _ (Some c) (standing kind mark n ≡ c)
    (λ z e. standing-empty kind mark n (even mark (eqb-true mark 0 (and_left (eqb mark 0) _ z))) ∙ inj Empty c e)
    (λ _ e. absurd (bad c e)))

-- ---- no NaN

finite-word : (n : ℕ) → finite (of_bits binary64 n) ≡ true → NoNan n
finite-word n f =
    subst (λ (b : Bool). T (not b)) (sym (nan_bits_is binary64 n)) (no_nan (of_bits binary64 n) (subst T (sym f) tt))

zero_word : NoNan 0
unfolding nan_bits
zero_word = tt

float_word : (n : ℕ) (c : Cell) → filled FLOAT n ≡ Some c → NoNan n
unfolding filled
float_word n c = either (finite (of_bits binary64 n)) _ _ (Some c) (NoNan n) (λ f e. finite-word n f) (λ f e. absurd (bad c e))

-- no FLOAT scalar is a NaN
pub scalar-no-nan : (kind n : ℕ) (c : Cell) → kind ≡ FLOAT → filled kind n ≡ Some c → NoNan n
scalar-no-nan kind n c k e = float_word n c (sym (ap (λ (t : ℕ). filled t n) k) ∙ e)

-- no FLOAT cell's word is a NaN's
pub no-nan-from : (kind mark n : ℕ) (c : Cell) → kind ≡ FLOAT → cell_from kind mark n ≡ Some c → NoNan n
unfolding cell_from
no-nan-from kind mark n c k =
    either (eqb mark 1) _ _ (Some c) (NoNan n) (λ m. scalar-no-nan kind n c k)
    (λ _. either (eqb mark 0 && eqb n 0) _ _ (Some c) (NoNan n)
    (λ z e. subst NoNan (sym (eqb-true n 0 (and_right (eqb mark 0) (eqb n 0) z))) zero_word)
    (λ _ e. absurd (bad c e)))

-- ---- as bytes

-- mark and word of what was read are the cell's own: for moving nine bytes as they are
pub written : (kind mark n : ℕ) (c : Cell) → n < 2 ^ 64 → cell_from kind mark n ≡ Some c → mark ∷ le_bytes word_bytes n ≡ encode c
unfolding encode
written kind mark n c h e =
    let s = from_back kind mark n c h e in
    sym (ap₂ (λ (x y : ℕ). x ∷ le_bytes word_bytes y) s.0 s.1)
