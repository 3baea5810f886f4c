-- Those of a list that pass a test: each that passes is kept, no other is, and what rises along the list rises along what is kept.
-- So with numbers that rise, no two of the kept are the same.
use Prim.Native.Nat.{ℕ, zero, suc, ◌<◌}
use Rattle.std.specs.Prelude.{◌≡◌, Bool, true, false, List, [], ◌∷◌, leb, length, get_or, if◌then◌else◌}
use Rattle.std.proofs.Math.Path.{refl, subst}
use Rattle.std.proofs.Common.{sym, ap, arith, leb-true, leb-false}

-- those of a list that pass a test, in order
unfoldable pub keep : {C : Type 0} → (C → Bool) → List C → List C
keep f [] = []
keep f (c ∷ l) = if f c then c ∷ keep f l else keep f l

-- x is in the list; d stands past its end
abbrev pub Has : {C : Type 0} → C → List C → C → Type 0
Has d l x = (i : ℕ) × (i < length l) × (get_or l i d ≡ x)

-- a number of each rises along the list
abbrev pub Rising : {C : Type 0} → (C → ℕ) → C → List C → Type 0
Rising m d l = (i j : ℕ) → i < j → j < length l → m (get_or l i d) < m (get_or l j d)

module _ {C : Type 0} (f : C → Bool) (d : C) where
  pub keep-yes : (c : C) (l : List C) → f c ≡ true → keep f (c ∷ l) ≡ c ∷ keep f l
  unfolding keep
  keep-yes c l e = rw e

  pub keep-no : (c : C) (l : List C) → f c ≡ false → keep f (c ∷ l) ≡ keep f l
  unfolding keep
  keep-no c l e = rw e

  has-later : (c x : C) (l : List C) → Has d l x → Has d (c ∷ l) x
  has-later c x l h = (suc h.0, omega (arith, h.1), h.2)

  -- each that passes is kept
  pub keep_all : (l : List C) (i : ℕ) → i < length l → f (get_or l i d) ≡ true → Has d (keep f l) (get_or l i d)
  keep_all [] i h e = absurd (omega arith)
  keep_all (c ∷ l) zero h e = subst (λ (x : List C). Has d x c) (sym (keep-yes c l e)) (0, omega arith, refl)
  keep_all (c ∷ l) (suc i) h e = by (f c) refl (keep_all l i (omega arith) e)
    where
      by : (b : Bool) → f c ≡ b → Has d (keep f l) (get_or l i d) → Has d (keep f (c ∷ l)) (get_or l i d)
      by true q r = subst (λ (x : List C). Has d x (get_or l i d)) (sym (keep-yes c l q)) (has-later c (get_or l i d) (keep f l) r)
      by false q r = subst (λ (x : List C). Has d x (get_or l i d)) (sym (keep-no c l q)) r

  abbrev Only : List C → List C → Type 0
  Only l k = (j : ℕ) → j < length k → (f (get_or k j d) ≡ true) × Has d l (get_or k j d)

  -- each that is kept passes, and is of the list
  pub keep-only : (l : List C) → Only l (keep f l)
  keep-only [] = λ j h. absurd (unfold keep in omega arith)
  keep-only (c ∷ l) = by (f c) refl (keep-only l)
    where
      more : Only l (keep f l) → Only (c ∷ l) (keep f l)
      more r j h = let o = r j h in (o.0, has-later c (get_or (keep f l) j d) l o.1)

      front : f c ≡ true → Only l (keep f l) → Only (c ∷ l) (c ∷ keep f l)
      front q r zero h = (q, (0, omega arith, refl))
      front q r (suc j) h = more r j (omega arith)

      by : (b : Bool) → f c ≡ b → Only l (keep f l) → Only (c ∷ l) (keep f (c ∷ l))
      by true q r = subst (Only (c ∷ l)) (sym (keep-yes c l q)) (front q r)
      by false q r = subst (Only (c ∷ l)) (sym (keep-no c l q)) (more r)

  -- what rises along the list rises along what is kept
  pub keep-rising : (m : C → ℕ) (l : List C) → Rising m d l → Rising m d (keep f l)
  keep-rising m [] r = λ i j h k. absurd (unfold keep in omega arith)
  keep-rising m (c ∷ l) r = by (f c) refl (keep-rising m l (λ i j h k. r (suc i) (suc j) (omega arith) (omega arith)))
    where
      front : Rising m d (keep f l) → Rising m d (c ∷ keep f l)
      front s zero zero h k = absurd (omega arith)
      front s zero (suc j) h k =
          let o = (keep-only l j (omega arith)).1 in
          subst (λ (x : C). m c < m x) o.2 (r 0 (suc o.0) (omega arith) (omega (arith, o.1)))
      front s (suc i) zero h k = absurd (omega arith)
      front s (suc i) (suc j) h k = s i j (omega arith) (omega arith)

      by : (b : Bool) → f c ≡ b → Rising m d (keep f l) → Rising m d (keep f (c ∷ l))
      by true q s = subst (Rising m d) (sym (keep-yes c l q)) (front s)
      by false q s = subst (Rising m d) (sym (keep-no c l q)) s

-- where a number of each rises, no two are the same
pub rising-once : {C : Type 0} (m : C → ℕ) (d : C) (l : List C) → Rising m d l → (i j : ℕ) → i < length l → j < length l
    → get_or l i d ≡ get_or l j d → i ≡ j
rising-once m d l r i j h k e = by (leb i j) (leb j i) refl refl
  where
    not-before : (a b : ℕ) → a < b → b < length l → get_or l a d ≡ get_or l b d → ⊥
    not-before a b u v q = omega (arith, r a b u v, ap m q)

    by : (b c : Bool) → leb i j ≡ b → leb j i ≡ c → i ≡ j
    by true true p q = omega (arith, leb-true i j p, leb-true j i q)
    by false c p q = absurd (not-before j i (leb-false i j p) h (sym e))
    by true false p q = absurd (not-before i j (leb-false j i q) k e)
