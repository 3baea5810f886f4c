-- Whole numbers in decimal: the sign, and the digits of the magnitude.
use Rattle.std.specs.Prelude.{ℕ, ◌+◌, ◌≤◌, true, false, ◌≡◌, refl, List, [], ◌++◌, ℤ, pos, negsuc, nat_abs, length, set}
use Prim.Native.Char.{code}
use Rattle.std.proofs.Common.{ap, ◌∙◌, arith, ltb-true, length-append}
use Rattle.std.specs.Int.Signed.{lt_z}
use Rattle.paper.specs.Numbers.{text}
use Rattle.paper.specs.Rests.{digits, decimal}
use Rattle.laws.specs.Put.{put_byte}
use Rattle.decimal.specs.Wrote.{Wrote, wrote-both, wrote-over}
use Rattle.decimal.specs.Digits.{digits-some}

-- `-` where negative
abbrev pub sign : ℤ → List ℕ
sign (pos x) = []
sign (negsuc x) = text "-"

pub sign_below : (z : ℤ) → lt_z z (pos 0) ≡ true → sign z ≡ text "-"
sign_below (pos x) e = absurd (omega (arith, ltb-true x 0 e))
sign_below (negsuc x) e = refl

pub sign-from : (z : ℤ) → lt_z z (pos 0) ≡ false → sign z ≡ []
sign-from (pos x) e = refl
sign-from (negsuc x) e = let n : ◌≡◌ {A = ℕ} 0 1 = cc in absurd (omega arith)

signed : (z : ℤ) → decimal z ≡ sign z ++ digits 19 (nat_abs z)
unfolding decimal
signed (pos x) = refl
signed (negsuc x) = refl

-- of a number whose magnitude is m
module _ (z : ℤ) (m : ℕ) (e : m ≡ nat_abs z) where
  decimal-sign : decimal z ≡ sign z ++ digits 19 m
  decimal-sign = rw e (signed z)

  pub decimal-long : length (decimal z) ≡ length (sign z) + length (digits 19 m)
  decimal-long = ap length decimal-sign ∙ length-append (sign z) (digits 19 m)

-- the digits after `-`, or where there is no sign over it: k bytes from it on
pub signed-wrote : (z : ℤ) {m k : ℕ} → m ≡ nat_abs z → k ≡ length (sign z) → (d : List ℕ) (at : ℕ) {r : ℕ} {y : List ℕ}
    → at + length (decimal z) ≤ length d → Wrote (set d at (code "-")) (at + k) (digits 19 m) r y → Wrote d at (decimal z) r y
signed-wrote (pos x) {m} {k} e f d at h p =
    let n : at + k ≡ at = omega arith in
    rw (decimal-sign (pos x) m e) (wrote-over d at (code "-") (digits 19 m) (digits-some 19 m) (rw n at p))
signed-wrote (negsuc x) {m} {k} e f d at h p =
    let l = decimal-long (negsuc x) m e in
    wrote-both d at (text "-") (digits 19 m) (decimal (negsuc x)) (decimal-sign (negsuc x) m e) h
    (omega arith, put_byte d at (code "-") (omega arith)) p
