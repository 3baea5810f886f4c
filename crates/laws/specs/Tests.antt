-- Tests: truth values joined, and what it says of a `do` block's lines that the whole was accepted or refused, each test in turn. Laws
-- take an accepted block apart, put one together, and follow a refusal.
use Rattle.std.specs.Prelude.{◌≡◌, refl, Bool, true, false, ◌&&◌, ◌⊎◌, ℕ, ◌≤◌, leb, Option, None, Some, Ok, Err}
use Rattle.std.proofs.Common.{ap, inl, inr, arith, leb-true}
use Rattle.paper.specs.declared.Refusal.{Refusal}
use Rattle.paper.specs.Refusals.{Res, ◌>>=◌, ◌>>◌, ensure, present, between}

-- ---- a test made of two parts

pub and_left : (b c : Bool) → (b && c) ≡ true → b ≡ true
and_left true c e = refl
and_left false c e = e

pub and_right : (b c : Bool) → (b && c) ≡ true → c ≡ true
and_right true c e = e
and_right false c e = cc

pub and_both : {b c : Bool} → b ≡ true → c ≡ true → (b && c) ≡ true
and_both e f = rw (e, f)

pub and_no : (b c : Bool) → b ≡ false → false ≡ (b && c)
and_no b c e = rw e

pub and_yes : (b c : Bool) → b ≡ true → c ≡ (b && c)
and_yes b c e = rw e

pub and_none : (b : Bool) → (b && false) ≡ false
and_none true = refl
and_none false = refl

pub and-true : (b : Bool) → (b && true) ≡ b
and-true true = refl
and-true false = refl

pub and-and : (x y z : Bool) → (x && (y && z)) ≡ ((x && y) && z)
and-and true y z = refl
and-and false y z = refl

-- two tests of two, the one after the other or both of the one first
pub and-crossed : (n l N L : Bool) → ((n && l) && (N && L)) ≡ ((n && N) && (l && L))
and-crossed true true true L = refl
and-crossed true true false L = refl
and-crossed true false true L = refl
and-crossed true false false L = refl
and-crossed false l N L = refl

pub no_both : (b : Bool) → b ≡ true → b ≡ false → ⊥
no_both b e f = let z : ◌≡◌ {A = ℕ} 0 1 = cc in omega arith

-- k is 1 to n
pub between-true : (n k : ℕ) → between 1 n k ≡ true → (1 ≤ k) × (k ≤ n)
between-true n k e = (leb-true 1 k (and_left (leb 1 k) (leb k n) e), leb-true k n (and_right (leb 1 k) (leb k n) e))

-- ---- what is there, and what isn't

pub some_one : {A : Type 0} (x y : A) → Some x ≡ Some y → x ≡ y
some_one x y e = cc

pub no_none : {A : Type 0} (x : A) → None ≡ Some x → ⊥
no_none x e = let z : ◌≡◌ {A = ℕ} 0 1 = cc in omega arith

-- ---- what an accepted test was

pub no-refusal : {A : Type 0} (r : Refusal) (a : A) → Err r ≡ Ok a → ⊥
no-refusal r a e = let z : ◌≡◌ {A = ℕ} 0 1 = cc in omega arith

pub got-one : {A : Type 0} (a b : A) → ◌≡◌ {A = Res A} (Ok a) (Ok b) → a ≡ b
got-one a b e = cc

pub bind-got : {A B : Type 0} (m : Res A) (f : A → Res B) (b : B) → (m >>= f) ≡ Ok b → (a : A) × (m ≡ Ok a) × (f a ≡ Ok b)
bind-got (Ok a) f b e = (a, refl, e)
bind-got (Err r) f b e = absurd (no-refusal r b e)

pub ensure-got : {B : Type 0} (t : Bool) (n k : ℕ) (m : Res B) (b : B) → (ensure t n k >> m) ≡ Ok b → (t ≡ true) × (m ≡ Ok b)
ensure-got true n k m b e = (refl, e)
ensure-got false n k m b e = absurd (no-refusal _ b e)

pub ensured : (t : Bool) (n k : ℕ) → ensure t n k ≡ Ok tt → t ≡ true
ensured true n k e = refl
ensured false n k e = absurd (no-refusal _ tt e)

pub present-got : {A : Type 0} (o : Option A) (r : Refusal) (a : A) → present o r ≡ Ok a → o ≡ Some a
present-got (Some x) r a e = ap Some (got-one x a e)
present-got None r a e = absurd (no-refusal r a e)

-- ---- tests that hold

pub ensure-yes : {B : Type 0} (t : Bool) (n k : ℕ) (m : Res B) → t ≡ true → (ensure t n k >> m) ≡ m
ensure-yes t n k m e = rw e

pub bind-yes : {A B : Type 0} (m : Res A) (f : A → Res B) (a : A) → m ≡ Ok a → (m >>= f) ≡ f a
bind-yes m f a e = rw e

-- ---- what a refusal was

pub none-refused : {A : Type 0} (a : A) (r : Refusal) → Ok a ≡ Err r → ⊥
none-refused a r e = let z : ◌≡◌ {A = ℕ} 0 1 = cc in omega arith

pub bind-refused : {A B : Type 0} (m : Res A) (f : A → Res B) (r : Refusal) → (m >>= f) ≡ Err r
    → (m ≡ Err r) ⊎ ((a : A) × (f a ≡ Err r))
bind-refused (Ok a) f r e = inr (a, e)
bind-refused (Err x) f r e = inl (ap Err (let q : x ≡ r = cc in q))
