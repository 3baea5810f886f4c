-- A name's letters, each as itself or escaped.
use Rattle.std.specs.Prelude.{◌≡◌, ℕ, ◌+◌, ◌≤◌, Bool, true, false, ◌||◌, List, [], ◌∷◌, length, drop, ◌==◌, ◌≢◌, nat_eq, refl, IfSome, Option, None, Some}
use Rattle.std.proofs.Common.{sym, ap, ◌∙◌, arith, ne_eqb, eqb-true, drop-drop, drop_of_length-le}
use Rattle.std.proofs.Math.ListN.{length-drop}
use Rattle.paper.specs.Numbers.{text, alike}
use Rattle.laws.specs.Tests.{and_left, and_right}
use Rattle.paper.specs.JsonRead.{begins, escaped, spells}

-- whether the letters cs are spelled behind a letter at byte i
abbrev pub behind : List ℕ → ℕ → List ℕ → Option ℕ → Bool
behind s i cs None = false
behind s i cs (Some n) = spells cs (drop (i + n) s)

-- from byte i on so many bytes spell the letter c, which is no backslash; or it is not spelled there
pub record Lettered (s : List ℕ) (i c : ℕ) (o : Option ℕ) : Type 0 where
  pub within : IfSome o (λ n. i + n ≤ length s)
  pub goes : (c ≢ 0x5c) → (cs : List ℕ) → spells (c ∷ cs) (drop i s) ≡ behind s i cs o

-- ---- a letter

or_no : (b : Bool) → (b || false) ≡ b
or_no true = refl
or_no false = refl

-- a text that begins with a word is as long
as_long : (w l : List ℕ) → begins w l ≡ true → length w ≤ length l
unfolding alike
as_long [] l e = omega arith
as_long (a ∷ w) [] e = let z : ◌≡◌ {A = ℕ} 0 1 = cc in omega arith
as_long (a ∷ w) (b ∷ l) e = let h : length w ≤ length l = as_long w l (and_right (b == a) (begins w l) e) in omega arith

-- as itself it is not escaped
not-escaped : (c : ℕ) → (c ≢ 0x5c) → (l : List ℕ) → begins (c ∷ []) l ≡ true → begins (escaped c) l ≡ false
unfolding alike
not-escaped c n [] e = refl
not-escaped c n (b ∷ l) e =
    let q : b ≡ c = eqb-true b c (and_left (b == c) _ e) in
    let z : nat_eq b 0x5c ≡ false = ne_eqb b 0x5c (λ m. n (sym q ∙ m)) in
    rw z

module _ (s : List ℕ) (i c : ℕ) (h : i ≤ length s) where
  pub letter-itself : begins (c ∷ []) (drop i s) ≡ true → Lettered s i c (Some 1)
  unfolding spells
  letter-itself e = record {
    within = let l = as_long (c ∷ []) (drop i s) e in omega (arith, length-drop i s);
    goes = λ n cs. rw (e, not-escaped c n (drop i s) e, or_no) (ap (spells cs) (drop-drop 1 i s));
  }

  module _ (e : begins (c ∷ []) (drop i s) ≡ false) where
    pub letter-escaped : begins (escaped c) (drop i s) ≡ true → Lettered s i c (Some 6)
    unfolding spells
    letter-escaped f = record {
      within = let l = as_long (escaped c) (drop i s) f in omega (arith, length-drop i s);
      goes = λ n cs. rw (e, f) (ap (spells cs) (drop-drop 6 i s));
    }

    pub letter-none : begins (escaped c) (drop i s) ≡ false → Lettered s i c None
    unfolding spells
    letter-none f = record { within = tt; goes = λ n cs. rw (e, f) }

-- ---- the letters after it

-- whether the text from byte `at` on spells the word hangs on whether it spells the letters from k on from byte i on
pub record Spelling (w s : List ℕ) (at k i : ℕ) : Type 0 where
  pub within : i ≤ length s
  pub same-as : spells w (drop at s) ≡ spells (drop k w) (drop i s)

module _ (w s : List ℕ) (at : ℕ) where
  pub spelling : at ≤ length s → Spelling w s at 0 at
  spelling h = record { within = h; same-as = refl }

  module _ (k i : ℕ) (l : Spelling w s at k i) where
    -- the quote is left
    pub spells-last : length w ≤ k → begins (text "\"") (drop i s) ≡ spells w (drop at s)
    unfolding spells
    spells-last h = sym (l.same-as ∙ ap (λ (x : List ℕ). spells x (drop i s)) (drop_of_length-le w {i = k} h))
