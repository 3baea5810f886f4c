-- Names by number: the paper's test of a name's bytes, the lowest first, on the number that they are, from byte i on.
use Rattle.std.specs.Prelude.{ℕ, zero, suc, ◌+◌, ◌-◌, ◌*◌, ◌/◌, ◌%◌, ◌^◌, ◌≤◌, ◌<◌, ◌≡◌, refl, List, [], ◌∷◌, ◌++◌, drop, Bool, true, false, ◌&&◌, ◌||◌, eqb}
use Rattle.std.proofs.Math.Path.{sym}
use Rattle.std.proofs.Common.{ap, ◌∙◌, append-nil, pow-suc}
use native.Mathlib.Omega.{arith}
use borrow.Author.Tests.{ne_eqb, eqb-true, eqb-false, le-leb, lt-leb}
use Rattle.paper.specs.declared.Name.{Name}
use Rattle.paper.specs.declared.Version.TheVariants.{One, Two}
use Rattle.paper.specs.Limits.{half_name, sizes_of}
use Rattle.paper.specs.Numbers.{le_bytes, zeros}
use Rattle.laws.specs.Tests.{and-and}
use Rattle.paper.specs.Axes.{in_name, name_rest, is_name, letters_of, good_name}

few : (n p q : ℕ) → n < q → q ≡ p * 256 → n / 256 < p
few n p q h e = omega arith

nand : (x y : Bool) → (x ≡ true → y ≡ true → ⊥) → (x && y) ≡ false
nand true true f = absurd (f refl refl)
nand true false f = refl
nand false y f = refl

-- k bytes that hold n are zero where n is
zeros-number : (k n : ℕ) → n < 256 ^ k → zeros (le_bytes k n) ≡ eqb n 0
unfolding zeros le_bytes
zeros-number zero n h = let e : n ≡ 0 = omega arith in rw e
zeros-number (suc k) n h = rw (zeros-number k (n / 256) (few n (256 ^ k) (256 ^ suc k) h (pow-suc 256 k))) (by (eqb n 0) refl)
  where
    by : (b : Bool) → eqb n 0 ≡ b → (eqb (n % 256) 0 && eqb (n / 256) 0) ≡ b
    by true e = let z = eqb-true n 0 e in rw z
    by false e = nand _ _ (λ p q. eqb-false n 0 e (omega (arith, eqb-true (n % 256) 0 p, eqb-true (n / 256) 0 q)))

or-none : (b : Bool) → (b || false) ≡ b
or-none true = refl
or-none false = refl

not-zero : (b : ℕ) → in_name b ≡ true → eqb b 0 ≡ false
not-zero zero e = sym e
not-zero (suc b) e = ne_eqb (suc b) 0 (λ e. omega arith)

-- ---- the bytes from the i-th on of half a name, and then others

-- n holds them
pub record Left (i n : ℕ) : Type 0 where
  pub few : i ≤ half_name
  pub fits : n < 256 ^ (half_name - i)

pub zeros-append : (a b : List ℕ) → zeros (a ++ b) ≡ (zeros a && zeros b)
unfolding zeros
zeros-append [] b = refl
zeros-append (x ∷ a) b = ap (λ (y : Bool). eqb x 0 && y) (zeros-append a b) ∙ and-and (eqb x 0) (zeros a) (zeros b)

module _ (R : List ℕ) where
  rest-more-at : (k n : ℕ) → in_name (n % 256) ≡ true → name_rest (le_bytes k (n / 256) ++ R) ≡ name_rest (le_bytes (suc k) n ++ R)
  unfolding name_rest le_bytes zeros
  rest-more-at k n e = rw (e, not-zero (n % 256) e) (sym (or-none _))

  rest-stop-at : (k n : ℕ) → n < 256 ^ suc k → in_name (n % 256) ≡ false → (eqb n 0 && zeros R) ≡ name_rest (le_bytes (suc k) n ++ R)
  unfolding name_rest le_bytes
  rest-stop-at k n h e =
      rw e (ap (λ (b : Bool). b && zeros R) (sym (zeros-number (suc k) n h)) ∙ sym (zeros-append (le_bytes (suc k) n) R))

  module _ (i n : ℕ) (b : i < half_name) (l : Left i n) where
    left : half_name - i ≡ suc (half_name - (i + 1))
    left = omega arith

    pub rest_more : in_name (n % 256) ≡ true → name_rest (le_bytes (half_name - (i + 1)) (n / 256) ++ R) ≡ name_rest
        (le_bytes (half_name - i) n ++ R)
    rest_more e = rw left (rest-more-at (half_name - (i + 1)) n e)

    pub rest-stop : in_name (n % 256) ≡ false → (eqb n 0 && zeros R) ≡ name_rest (le_bytes (half_name - i) n ++ R)
    rest-stop e = rw left (rest-stop-at (half_name - (i + 1)) n (rw left at l.fits) e)

  pub rest_end : (i n : ℕ) → half_name ≤ i → name_rest R ≡ name_rest (le_bytes (half_name - i) n ++ R)
  unfolding le_bytes
  rest_end i n h = let f : half_name - i ≡ 0 = omega arith in rw f

-- one byte fewer
pub left_less : (i n : ℕ) → i < half_name → Left i n → Left (i + 1) (n / 256)
left_less i n b l =
    let k = half_name - (i + 1) in
    let e : half_name - i ≡ suc k = omega arith in
    record { few = omega arith; fits = few n (256 ^ k) (256 ^ suc k) (rw e at l.fits) (pow-suc 256 k) }

-- ---- a name

module _ (n : Name) where
  pub name-low : n.first % 256 < 97 → false ≡ good_name n
  unfolding is_name le_bytes
  name-low h = rw (lt-leb 97 (n.first % 256) h)

  pub name-high : 97 ≤ n.first % 256 → 122 < n.first % 256 → false ≡ good_name n
  unfolding is_name le_bytes
  name-high h k = rw (le-leb 97 (n.first % 256) h, lt-leb (n.first % 256) 122 k)

  pub name-first : 97 ≤ n.first % 256 → n.first % 256 ≤ 122
      → name_rest (le_bytes (half_name - 1) (n.first / 256) ++ le_bytes half_name n.last) ≡ good_name n
  unfolding is_name le_bytes
  name-first h k = rw (le-leb 97 (n.first % 256) h, le-leb (n.first % 256) 122 k)

-- the last half, with nothing after it
pub last-half : (n : ℕ) → name_rest (le_bytes half_name n ++ []) ≡ name_rest (le_bytes half_name n)
last-half n = ap name_rest (append-nil (le_bytes half_name n))

pub last-zero : (n : ℕ) → n < 256 ^ half_name → eqb n 0 ≡ zeros (le_bytes half_name n)
last-zero n h = sym (zeros-number half_name n h)

-- ---- no more letters than a version's names

pub fits_one : (n : Name) → n.last < 256 ^ half_name → eqb n.last 0 ≡ zeros (drop (sizes_of One).name (letters_of n))
unfolding sizes_of le_bytes
fits_one n h = last-zero n.last h

pub fits-two : (n : Name) → true ≡ zeros (drop (sizes_of Two).name (letters_of n))
unfolding sizes_of zeros le_bytes
fits-two n = refl
