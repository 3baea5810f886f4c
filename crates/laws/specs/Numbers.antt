-- Little-endian numbers: a number and its bytes give one another back, over the number of bytes, so that no number has two forms.
use Rattle.std.specs.Prelude.{◌≡◌, refl, List, [], ◌∷◌, ℕ, zero, suc, ◌+◌, ◌*◌, ◌/◌, ◌%◌, ◌^◌, ◌<◌, length, get_or, take, drop}
use Rattle.std.proofs.Common.{ap, ap₂, ◌∙◌, pow-suc, arith}
use Rattle.paper.specs.Numbers.{le_of, le_bytes}

-- bs are bytes
abbrev pub Bytes : List ℕ → Type 0
Bytes bs = (i : ℕ) → get_or bs i 0 < 256

nought : (n : ℕ) → n < 1 → 0 ≡ n
nought n h = omega arith

fewer : (n p q : ℕ) → n < q → q ≡ p * 256 → n / 256 < p
fewer n p q h e = omega arith

again : (n : ℕ) → n % 256 + 256 * (n / 256) ≡ n
again n = omega arith

-- the bytes of a number that k bytes hold stand for it
pub le_of-le_bytes : (k n : ℕ) → n < 256 ^ k → le_of (le_bytes k n) ≡ n
unfolding le_bytes
le_of-le_bytes zero n h = nought n h
le_of-le_bytes (suc k) n h =
    ap (λ (m : ℕ). n % 256 + 256 * m) (le_of-le_bytes k (n / 256) (fewer n (256 ^ k) (256 ^ suc k) h (pow-suc 256 k))) ∙ again n

under : (b m p q : ℕ) → b < 256 → m < p → q ≡ p * 256 → b + 256 * m < q
under b m p q h l e = omega arith

-- what k bytes stand for is below 256 ^ k
pub le_of-lt : (bs : List ℕ) → Bytes bs → le_of bs < 256 ^ length bs
le_of-lt [] h = omega arith
le_of-lt (b ∷ bs) h =
    under b (le_of bs) (256 ^ length bs) (256 ^ suc (length bs)) (h 0) (le_of-lt bs (λ i. h (suc i))) (pow-suc 256 (length bs))

lowest : (b m : ℕ) → b < 256 → (b + 256 * m) % 256 ≡ b
lowest b m h = omega arith

others : (b m : ℕ) → b < 256 → (b + 256 * m) / 256 ≡ m
others b m h = omega arith

-- and the bytes of what bytes stand for are those bytes
pub le_bytes-le_of : (bs : List ℕ) → Bytes bs → le_bytes (length bs) (le_of bs) ≡ bs
unfolding le_bytes
le_bytes-le_of [] h = refl
le_bytes-le_of (b ∷ bs) h =
    ap₂ (λ (x y : ℕ). x ∷ le_bytes (length bs) y) (lowest b (le_of bs) (h 0)) (others b (le_of bs) (h 0))
    ∙ ap (λ (l : List ℕ). b ∷ l) (le_bytes-le_of bs (λ i. h (suc i)))

-- ---- bytes of a part

pub bytes_take : (n : ℕ) (bs : List ℕ) → Bytes bs → Bytes (take n bs)
bytes_take zero bs h i = omega arith
bytes_take (suc n) [] h i = omega arith
bytes_take (suc n) (b ∷ bs) h zero = h 0
bytes_take (suc n) (b ∷ bs) h (suc i) = bytes_take n bs (λ j. h (suc j)) i

pub bytes_drop : (n : ℕ) (bs : List ℕ) → Bytes bs → Bytes (drop n bs)
bytes_drop zero bs h = h
bytes_drop (suc n) [] h = λ i. omega arith
bytes_drop (suc n) (b ∷ bs) h = bytes_drop n bs (λ j. h (suc j))
