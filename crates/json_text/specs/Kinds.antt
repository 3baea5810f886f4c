-- Digits, and bytes that are none.
use Rattle.std.specs.Prelude.{◌≡◌, ℕ, ◌≤◌, Bool, true, false, ◌&&◌, ◌||◌, T, [], ◌∷◌, nat_le, refl}
use Rattle.std.specs.Char.{is_ascii_digit}
use Rattle.std.proofs.Common.{sym, ◌∙◌, subst, arith, leb-true}
use Rattle.paper.specs.Grammar.{among, digit}
use Rattle.laws.specs.Tests.{and_left, and_right}
use Rattle.json_text.specs.Bytes.{in-range}

-- false is not true
pub no_true : {A : Type 0} → false ≡ true → A
no_true e = absurd (subst T (sym e) tt)

pub is-digit : (b : ℕ) → is_ascii_digit b ≡ among digit b
unfolding among
is-digit b = sym (or-false (is_ascii_digit b))
  where
    or-false : (c : Bool) → (c || false) ≡ c
    or-false true = refl
    or-false false = refl

pub digit-from : (b : ℕ) → among digit b ≡ true → 48 ≤ b
digit-from b e = leb-true 48 b (and_left (nat_le 48 b) (nat_le b 57) (is-digit b ∙ e))

pub digit-to : (b : ℕ) → among digit b ≡ true → b ≤ 57
digit-to b e = leb-true b 57 (and_right (nat_le 48 b) (nat_le b 57) (is-digit b ∙ e))

-- no digit lies below or above them
pub digit_not : (b : ℕ) → among digit b ≡ false → (l h : ℕ) → 48 ≤ l → h ≤ 57 → among ((l, h) ∷ []) b ≡ false
unfolding among
digit_not b e l h i j = by-test (nat_le l b) refl (nat_le b h) refl
  where
    by-test : (p : Bool) → nat_le l b ≡ p → (q : Bool) → nat_le b h ≡ q → ((nat_le l b && nat_le b h) || false) ≡ false
    by-test false f q g = rw f
    by-test true f false g = rw (f, g)
    by-test true f true g =
        (no_true (sym e ∙ in-range 48 57 b [] (omega (arith, leb-true l b f)) (omega (arith, leb-true b h g))))
