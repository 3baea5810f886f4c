-- A name and its bytes give one another back, however many of its sixteen bytes a version keeps: those left out are zeros.
use Rattle.std.specs.Prelude.{◌≡◌, refl, true, ℕ, zero, suc, ◌+◌, ◌-◌, ◌*◌, ◌/◌, ◌%◌, ◌^◌, ◌≤◌, ◌<◌, eqb}
use Rattle.std.proofs.Common.{sym, ap₂, subst, ◌∙◌, arith, length-drop, take-append-drop, take_at, take_all, eqb-true}
use Rattle.std.proofs.Math.Path.{ap}
use mathlib.Core.List.{List, [], ◌∷◌, ◌++◌}
use Rattle.std.proofs.Math.Nat.{pow-le-pow_right}
use Rattle.std.proofs.Math.ListN.{length, take, drop, length-take}
use Rattle.std.proofs.Math.Seq.{take-append-add, drop-append-add}
use Rattle.paper.specs.declared.Name.{Name}
use Rattle.paper.specs.Limits.{half_name}
use Rattle.paper.specs.Numbers.{le_of, le_bytes, part, zeros}
use Rattle.paper.specs.Axes.{letters_of}
use Rattle.paper.specs.Bundle.{name_from}
use Rattle.laws.specs.Numbers.{Bytes, bytes_drop, bytes_take, le_bytes-le_of, le_of-le_bytes, le_of-lt}
use Rattle.laws.specs.Tests.{and_left, and_right}
use Rattle.roundtrip.specs.Valid.{NameFits}

-- ---- a number in more bytes than it needs

lowest : (b m : ℕ) → b < 256 → (b + 256 * m) % 256 ≡ b
lowest b m h = omega arith

others : (b m : ℕ) → b < 256 → (b + 256 * m) / 256 ≡ m
others b m h = omega arith

-- its own bytes stand first
bytes-first : (k : ℕ) (t : List ℕ) → Bytes t → length t ≤ k → take (length t) (le_bytes k (le_of t)) ≡ t
unfolding le_bytes
bytes-first k [] h l = refl
bytes-first zero (b ∷ t) h l = absurd (omega arith)
bytes-first (suc k) (b ∷ t) h l =
    ap₂ (λ (x y : ℕ). x ∷ take (length t) (le_bytes k y)) (lowest b (le_of t) (h 0)) (others b (le_of t) (h 0))
    ∙ ap (λ (r : List ℕ). b ∷ r) (bytes-first k t (λ i. h (suc i)) (omega arith))

zero-bytes : (k : ℕ) → zeros (le_bytes k 0) ≡ true
unfolding le_bytes zeros
zero-bytes zero = refl
zero-bytes (suc k) = zero-bytes k

-- and then zeros
zeros-after : (k : ℕ) (t : List ℕ) → Bytes t → length t ≤ k → zeros (drop (length t) (le_bytes k (le_of t))) ≡ true
unfolding le_bytes
zeros-after k [] h l = zero-bytes k
zeros-after zero (b ∷ t) h l = absurd (omega arith)
zeros-after (suc k) (b ∷ t) h l =
    ap (λ (y : ℕ). zeros (drop (length t) (le_bytes k y))) (others b (le_of t) (h 0)) ∙ zeros-after k t (λ i. h (suc i)) (omega arith)

nought : (t : List ℕ) → zeros t ≡ true → 0 ≡ le_of t
unfolding zeros
nought [] e = refl
nought (b ∷ t) e = omega (arith, eqb-true b 0 (and_left (eqb b 0) (zeros t) e), nought t (and_right (eqb b 0) (zeros t) e))

-- zeros can be left out
zeros-less : (k : ℕ) (t : List ℕ) → zeros (drop k t) ≡ true → le_of (take k t) ≡ le_of t
zeros-less zero t e = nought t e
zeros-less (suc k) [] e = refl
zeros-less (suc k) (b ∷ t) e = ap (λ (m : ℕ). b + 256 * m) (zeros-less k t e)

-- ---- a name of w bytes

module _ (w : ℕ) (half : half_name ≤ w) (most : w ≤ 2 * half_name) where
  past : w ≡ half_name + (w - half_name)
  past = omega arith

  -- the first w of its sixteen bytes, and the others
  first_of : (n : Name) → take w (letters_of n) ≡ le_bytes half_name n.first ++ take (w - half_name) (le_bytes half_name n.last)
  unfolding le_bytes
  first_of n = ap (λ (k : ℕ). take k (letters_of n)) past
      ∙ take-append-add (le_bytes half_name n.first) (le_bytes half_name n.last) (w - half_name)

  others-of : (n : Name) → drop w (letters_of n) ≡ drop (w - half_name) (le_bytes half_name n.last)
  unfolding le_bytes
  others-of n = ap (λ (k : ℕ). drop k (letters_of n)) past
      ∙ drop-append-add (le_bytes half_name n.first) (le_bytes half_name n.last) (w - half_name)

  pub letters-length : (n : Name) → length (take w (letters_of n)) ≡ w
  unfolding le_bytes
  letters-length n = omega (arith, length-take w (letters_of n))

  -- a name that is not too long is read back
  pub name_back : (n : Name) → NameFits n → zeros (drop w (letters_of n)) ≡ true → name_from (take w (letters_of n)) ≡ n
  unfolding le_bytes
  name_back n f e =
      let A = le_bytes half_name n.first in
      let B = le_bytes half_name n.last in
      let j = w - half_name in
      let s : length (take j B) ≤ half_name = omega (arith, length-take j B) in
      let p : le_of (part 0 half_name (take w (letters_of n))) ≡ n.first =
      ap (λ (x : List ℕ). le_of (take half_name x)) (first_of n) ∙ ap le_of (take_at A (take j B) half_name refl)
      ∙ le_of-le_bytes half_name n.first f.0 in
      let q : le_of (part half_name half_name (take w (letters_of n))) ≡ n.last =
      ap (λ (x : List ℕ). le_of (part half_name half_name x)) (first_of n) ∙ ap le_of (take_all half_name (take j B) s)
      ∙ zeros-less j B (sym (ap zeros (others-of n)) ∙ e) ∙ le_of-le_bytes half_name n.last f.1 in
      λ i. record { first = p i; last = q i }

  module _ (bs : List ℕ) (l : length bs ≡ w) (h : Bytes bs) where
    abbrev tail : List ℕ
    tail = part half_name half_name bs

    tail_all : tail ≡ drop half_name bs
    tail_all = take_all half_name (drop half_name bs) (omega (arith, length-drop half_name bs))

    tail-length : length tail ≡ w - half_name
    tail-length = ap (λ (x : List ℕ). length x) tail_all ∙ length-drop half_name bs ∙ ap (λ (k : ℕ). k - half_name) l

    tail-bytes : Bytes tail
    tail-bytes = bytes_take half_name (drop half_name bs) (bytes_drop half_name bs h)

    head-length : length (take half_name bs) ≡ half_name
    head-length = omega (arith, length-take half_name bs)

    -- the name that was read, written again, is its bytes
    pub name-written : take w (letters_of (name_from bs)) ≡ bs
    name-written =
        let a : le_bytes half_name (le_of (take half_name bs)) ≡ take half_name bs =
        ap (λ (k : ℕ). le_bytes k (le_of (take half_name bs))) (sym head-length)
        ∙ le_bytes-le_of (take half_name bs) (bytes_take half_name bs h) in
        let b : take (w - half_name) (le_bytes half_name (le_of tail)) ≡ tail =
        ap (λ (k : ℕ). take k (le_bytes half_name (le_of tail))) (sym tail-length)
        ∙ bytes-first half_name tail tail-bytes (omega (arith, tail-length)) in
        first_of (name_from bs) ∙ ap₂ (λ (x y : List ℕ). x ++ y) a (b ∙ tail_all) ∙ take-append-drop half_name bs

    -- is not too long
    pub name-short : zeros (drop w (letters_of (name_from bs))) ≡ true
    name-short =
        ap zeros (others-of (name_from bs)) ∙ ap (λ (k : ℕ). zeros (drop k (le_bytes half_name (le_of tail)))) (sym tail-length)
        ∙ zeros-after half_name tail tail-bytes (omega (arith, tail-length))

    fewer : (n p : ℕ) → p ≤ 256 ^ half_name → n < p → n < 256 ^ half_name
    fewer n p b q = omega arith

    -- and fits its bytes
    pub name-fits : NameFits (name_from bs)
    name-fits = (
      subst (λ (j : ℕ). le_of (take half_name bs) < 256 ^ j) head-length (le_of-lt (take half_name bs) (bytes_take half_name bs h)),
      fewer (le_of tail) (256 ^ length tail) (pow-le-pow_right (omega arith) {i = length tail} {j = half_name}
          (omega (arith, tail-length))) (le_of-lt tail tail-bytes),
    )
