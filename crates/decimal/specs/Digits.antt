-- Numbers and positions in decimal: a number below 2 ^ 64 is the number without its last digit, and that digit; and how many bytes a
-- number takes at most.
use Rattle.std.specs.Prelude.{ℕ, zero, suc, ◌+◌, ◌-◌, ◌/◌, ◌%◌, ◌^◌, ◌≤◌, ◌<◌, ◌≡◌, Bool, true, false, List, [], ◌∷◌, ◌++◌, ltb, ℤ, pos, negsuc, length, if◌then◌else◌}
use Prim.Native.Char.{code}
use Rattle.std.proofs.Common.{ap, arith, lt-ltb, le-ltb, length-append}
use Rattle.paper.specs.Limits.{reach}
use Rattle.paper.specs.Numbers.{text, position}
use Rattle.paper.specs.Rests.{digits, decimal}
use Rattle.laws.specs.Parts.{parts-eq}
use Rattle.laws.specs.Positions.{position-parts}

-- the last digit
abbrev pub digit : ℕ → ℕ
digit x = code "0" + x % 10

-- the bytes that a number takes at most, and one with its sign
abbrev pub most_digits : ℕ
most_digits = 20

abbrev pub most_signed : ℕ
most_signed = 1 + most_digits

-- ---- one digit more

-- more digits than a number has change nothing
enough : (k x : ℕ) → x < 10 ^ suc k → digits k x ≡ digits (suc k) x
unfolding digits
enough zero x h = rw (lt-ltb x 10 h)
enough (suc k) x h =
    ap (λ (l : List ℕ). (if ltb x 10 then [] else l) ++ (digit x ∷ [])) (enough k (x / 10) (omega arith))

-- a number of one digit
pub digits-one : (x : ℕ) → x < 10 → digits 19 x ≡ digit x ∷ []
unfolding digits
digits-one x h = rw (lt-ltb x 10 h)

-- a number of more
pub digits_more : (x : ℕ) → 10 ≤ x → x < 2 ^ 64 → digits 19 x ≡ digits 19 (x / 10) ++ (digit x ∷ [])
unfolding digits
digits_more x h l = rw (le-ltb x 10 h, enough 18 (x / 10) (omega arith))

-- ---- how many

at_most : (b : Bool) (l : List ℕ) (d k : ℕ) → length l ≤ k + 1 → length ((if b then [] else l) ++ (d ∷ [])) ≤ suc k + 1
at_most true l d k h = omega arith
at_most false l d k h = omega (arith, length-append l (d ∷ []))

pub digits-most : (k x : ℕ) → length (digits k x) ≤ k + 1
unfolding digits
digits-most zero x = omega arith
digits-most (suc k) x = at_most (ltb x 10) (digits k (x / 10)) (digit x) k (digits-most k (x / 10))

pub digits-some : (k x : ℕ) → 1 ≤ length (digits k x)
unfolding digits
digits-some zero x = omega arith
digits-some (suc k) x = omega (arith, length-append (if ltb x 10 then [] else digits k (x / 10)) (digit x ∷ []))

-- a number below 10 ^ 19 has a digit fewer
pub digits-fewer : (x : ℕ) → x < 10 ^ 19 → length (digits 19 x) ≤ 19
digits-fewer x h = omega (arith, ap length (enough 18 x h), digits-most 18 x)

-- ---- positions

pub decimal-below : (d : ℕ) → d < reach → decimal (position d) ≡ text "-" ++ digits 19 (reach - d)
unfolding decimal
decimal-below d h =
    let e : suc (reach - d - 1) ≡ reach - d = omega arith in
    rw (parts-eq (position d) (negsuc (reach - d - 1)) (omega (arith, position-parts d)), e)

pub decimal-from : (d : ℕ) → reach ≤ d → decimal (position d) ≡ digits 19 (d - reach)
unfolding decimal
decimal-from d h = rw (parts-eq (position d) (pos (d - reach)) (omega (arith, position-parts d)))

pub decimal-most : (z : ℤ) → length (decimal z) ≤ most_signed
unfolding decimal
decimal-most (pos x) = omega (arith, digits-most 19 x)
decimal-most (negsuc x) = omega (arith, digits-most 19 (suc x))
