-- How many digits a number has, from how many bits it has: of b bits it has b * 1233 / 4096 digits, or one more.
use Rattle.std.specs.Prelude.{ℕ, zero, suc, ◌+◌, ◌-◌, ◌*◌, ◌/◌, ◌^◌, ◌≤◌, ◌<◌, Bool, true, ◌&&◌, ◌≡◌, refl, leb, length}
use Rattle.std.proofs.Common.{ap, pow-suc, arith, leb-true, length-append}
use Rattle.std.proofs.Math.Nat.{one-le-pow}
use Rattle.std.specs.Int.Count.{count_leading_zeros}
use Rattle.std.proofs.lemmas.Nat.{leading_top}
use Rattle.paper.specs.Rests.{digits}
use Rattle.laws.specs.Tests.{and_left, and_right}
use Rattle.decimal.specs.Digits.{digits-one, digits_more}

-- the digits that a number of b bits has at least
abbrev pub least : ℕ → ℕ
least b = b * 1233 / 4096

-- x, or the number after it where x is even: it has as many bits, but for 0
abbrev pub odd : ℕ → ℕ
odd x = x / 2 * 2 + 1

-- the smallest number of k + 1 digits
abbrev pub smallest : ℕ → ℕ
smallest zero = 0
smallest (suc k) = 10 ^ suc k

-- ---- what holds of each number of bits, computed

abbrev every : (ℕ → Bool) → ℕ → Bool
every f zero = true
every f (suc n) = f 0 && every (λ i. f (suc i)) n

every-at : (f : ℕ → Bool) (n k : ℕ) → every f n ≡ true → k < n → f k ≡ true
every-at f zero k t h = absurd (omega arith)
every-at f (suc n) zero t h = and_left (f 0) _ t
every-at f (suc n) (suc k) t h = every-at (λ i. f (suc i)) n k (and_right (f 0) _ t) (omega arith)

-- the smallest number of j + 1 bits has at least `least` digits, and the largest at most one more
abbrev low : ℕ → Bool
low j = leb (10 ^ least (suc j)) (10 * 2 ^ j)

abbrev high : ℕ → Bool
high j = leb (2 ^ suc j) (10 ^ suc (least (suc j)))

powers : (j : ℕ) → j < 64 → (10 ^ least (suc j) ≤ 10 * 2 ^ j) × (2 ^ suc j ≤ 10 ^ suc (least (suc j)))
powers j h =
    let e = every-at (λ i. low i && high i) 64 j refl h in
    (leb-true _ _ (and_left (low j) (high j) e), leb-true _ _ (and_right (low j) (high j) e))

-- ---- numbers between two powers of ten

-- from 10 ^ k on and below 10 ^ (k + 1) there are k + 1 digits
between : (k x : ℕ) → 10 ^ k ≤ x → x < 10 ^ suc k → x < 2 ^ 64 → length (digits 19 x) ≡ suc k
between zero x h l b = ap length (digits-one x l)
between (suc k) x h l b =
    let p : 1 ≤ 10 ^ k = one-le-pow k 10 (omega arith) in
    let e = between k (x / 10) (omega arith) (omega arith) (omega arith) in
    rw (digits_more x (omega arith) b, length-append) (omega (arith, e))

long-from : (k x : ℕ) → smallest k ≤ x → x < 10 ^ suc k → x < 2 ^ 64 → length (digits 19 x) ≡ suc k
long-from zero x h l b = ap length (digits-one x l)
long-from (suc k) x h l b = between (suc k) x h l b

-- ---- from the bits

-- a power of ten above 1 is even
smallest-odd : (k x : ℕ) → 10 ^ k ≤ odd x → smallest k ≤ x
smallest-odd zero x h = omega arith
smallest-odd (suc k) x h = omega (arith, pow-suc 10 k)

fewer : (k x p : ℕ) → 10 ^ k ≤ 10 * p → p ≤ odd x → x < smallest k → x < 2 ^ 64 → length (digits 19 x) ≡ k
fewer zero x p g h l b = absurd (omega arith)
fewer (suc k) x p g h l b = long-from k x (smallest-odd k x (omega (arith, pow-suc 10 k))) l b

module _ (x : ℕ) (b : x < 2 ^ 64) where
  abbrev bits : ℕ
  bits = 64 - count_leading_zeros 64 (odd x)

  top : (j : ℕ) × (bits ≡ suc j) × (j < 64) × (2 ^ j ≤ odd x) × (odd x < 2 ^ suc j)
  top = let t = leading_top 64 (odd x) (omega arith) (omega arith) in (t.0, omega (arith, t.1), omega (arith, t.1), t.2, t.3)

  pub long-least : x < smallest (least bits) → length (digits 19 x) ≡ least bits
  long-least h = let t = top in rw t.1 (fewer (least (suc t.0)) x (2 ^ t.0) (powers t.0 t.2).0 t.3 (rw t.1 at h) b)

  pub long-more : smallest (least bits) ≤ x → length (digits 19 x) ≡ least bits + 1
  long-more h =
      let t = top in
      rw t.1 (omega (arith, long-from (least (suc t.0)) x (rw t.1 at h) (omega (arith, t.4, (powers t.0 t.2).1)) b))
