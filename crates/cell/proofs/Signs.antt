-- The top bits of words, compared by `^` and `&`. Assumes nothing.
use Rattle.std.proofs.Common.{◌≡◌, ℕ, zero, suc, ◌+◌, ◌/◌, ◌^◌, ◌<◌, ◌≤◌, Bool, true, false, not, ◌&&◌, eqb, ltb, leb, sym, refl, ap, ◌∙◌, ap₂, arith, ltb-false, ltb-true, eqb-true, le-leb}
use lib.Bits.{bit_and, bit_xor, and_shr, xor_shr}
use borrow.Author.Tests.{lt-leb, eqb-false}
use Rattle.cell.specs.Signs.{signs_apart}

-- a bit of each
bits : (p q r : ℕ) → p < 2 → q < 2 → r < 2 → leb 1 (bit_and (bit_xor p r) (bit_xor q r)) ≡ (not (eqb p r) && not (eqb q r))
bits zero zero zero a b c = refl
bits zero zero (suc zero) a b c = refl
bits zero zero (suc (suc r)) a b c = absurd (omega arith)
bits zero (suc zero) zero a b c = refl
bits zero (suc zero) (suc zero) a b c = refl
bits zero (suc zero) (suc (suc r)) a b c = absurd (omega arith)
bits zero (suc (suc q)) r a b c = absurd (omega arith)
bits (suc zero) zero zero a b c = refl
bits (suc zero) zero (suc zero) a b c = refl
bits (suc zero) zero (suc (suc r)) a b c = absurd (omega arith)
bits (suc zero) (suc zero) zero a b c = refl
bits (suc zero) (suc zero) (suc zero) a b c = refl
bits (suc zero) (suc zero) (suc (suc r)) a b c = absurd (omega arith)
bits (suc zero) (suc (suc q)) r a b c = absurd (omega arith)
bits (suc (suc p)) q r a b c = absurd (omega arith)

-- the top bit of t
top : (t : ℕ) → leb (2 ^ 63) t ≡ leb 1 (t / 2 ^ 63)
top t = go (ltb t (2 ^ 63)) refl
  where
    go : (b : Bool) → ltb t (2 ^ 63) ≡ b → leb (2 ^ 63) t ≡ leb 1 (t / 2 ^ 63)
    go true e = let l : t < 2 ^ 63 = ltb-true t (2 ^ 63) e in lt-leb (2 ^ 63) t l ∙ sym (lt-leb 1 (t / 2 ^ 63) (omega arith))
    go false e = let l : 2 ^ 63 ≤ t = ltb-false t (2 ^ 63) e in le-leb (2 ^ 63) t l ∙ sym (le-leb 1 (t / 2 ^ 63) (omega arith))

pub signs-by : (x y z : ℕ) → x < 2 ^ 64 → y < 2 ^ 64 → z < 2 ^ 64 → leb (2 ^ 63) (bit_and (bit_xor x z) (bit_xor y z)) ≡ signs_apart x y z
unfolding signs_apart
signs-by x y z f g h =
    top (bit_and (bit_xor x z) (bit_xor y z))
    ∙ ap (leb 1) (and_shr (bit_xor x z) (bit_xor y z) 63 ∙ ap₂ bit_and (xor_shr x z 63) (xor_shr y z 63))
    ∙ bits (x / 2 ^ 63) (y / 2 ^ 63) (z / 2 ^ 63) (omega arith) (omega arith) (omega arith)

-- two bits that differ
other : (p r : ℕ) → p < 2 → r < 2 → (p ≡ r → ⊥) → p + r ≡ 1
other p r a b h = omega (arith, h)

-- what it tells
pub signs-yes : (x y z : ℕ) → x < 2 ^ 64 → y < 2 ^ 64 → z < 2 ^ 64 → signs_apart x y z ≡ true → (x / 2 ^ 63 + z / 2 ^ 63 ≡ 1) × (y / 2 ^ 63 + z / 2 ^ 63 ≡ 1)
unfolding signs_apart
signs-yes x y z a b c = go (eqb (x / 2 ^ 63) (z / 2 ^ 63)) (eqb (y / 2 ^ 63) (z / 2 ^ 63)) refl refl
  where
    go : (p q : Bool) → eqb (x / 2 ^ 63) (z / 2 ^ 63) ≡ p → eqb (y / 2 ^ 63) (z / 2 ^ 63) ≡ q → (not p && not q) ≡ true → (x / 2 ^ 63 + z / 2 ^ 63 ≡ 1) × (y / 2 ^ 63 + z / 2 ^ 63 ≡ 1)
    go true q e f h = let k : ◌≡◌ {A = ℕ} 0 1 = cc in absurd (omega arith)
    go false true e f h = let k : ◌≡◌ {A = ℕ} 0 1 = cc in absurd (omega arith)
    go false false e f h = (
      other (x / 2 ^ 63) (z / 2 ^ 63) (omega arith) (omega arith) (eqb-false (x / 2 ^ 63) (z / 2 ^ 63) e),
      other (y / 2 ^ 63) (z / 2 ^ 63) (omega arith) (omega arith) (eqb-false (y / 2 ^ 63) (z / 2 ^ 63) f),
    )

pub signs-no : (x y z : ℕ) (A : Type 0) → signs_apart x y z ≡ false → (x / 2 ^ 63 ≡ z / 2 ^ 63 → A) → (y / 2 ^ 63 ≡ z / 2 ^ 63 → A) → A
unfolding signs_apart
signs-no x y z A = go (eqb (x / 2 ^ 63) (z / 2 ^ 63)) (eqb (y / 2 ^ 63) (z / 2 ^ 63)) refl refl
  where
    go : (p q : Bool) → eqb (x / 2 ^ 63) (z / 2 ^ 63) ≡ p → eqb (y / 2 ^ 63) (z / 2 ^ 63) ≡ q → (not p && not q) ≡ false → (x / 2 ^ 63 ≡ z / 2 ^ 63 → A) → (y / 2 ^ 63 ≡ z / 2 ^ 63 → A) → A
    go true q e f h a b = a (eqb-true (x / 2 ^ 63) (z / 2 ^ 63) e)
    go false true e f h a b = b (eqb-true (y / 2 ^ 63) (z / 2 ^ 63) f)
    go false false e f h a b = let k : ◌≡◌ {A = ℕ} 0 1 = cc in absurd (omega arith)
