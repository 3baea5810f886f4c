-- Words at a place of a text: whether it begins with one, and a word's bytes as parts.
use Rattle.std.specs.Prelude.{◌≡◌, ℕ, ◌+◌, ◌<◌, ◌≤◌, Bool, true, false, List, [], ◌∷◌, map, length, take, drop, ◌≢◌, nat_eq, nat_le, slice_index, refl}
use Rattle.std.proofs.Math.Path.{sym}
use Rattle.std.proofs.Common.{ap, ◌∙◌, arith, add-one, eq-eqb, ne_eqb, eqb-true, leb-true, leb-false, drop_of_length-le, drop-cons}
use Rattle.std.proofs.lemmas.Bool.{eqb-false}
use Rattle.std.specs.Cmp.Lexicographic.{pointwise}
use Rattle.paper.specs.Numbers.{alike}
use Rattle.paper.specs.Grammar.{Part, among, one}
use Rattle.paper.specs.JsonRead.{begins}
use Rattle.json_text.specs.Bytes.{in-range, not_byte}
use Rattle.json_text.specs.Kinds.{no_true}

-- each byte of a word, in order
abbrev pub letters : List ℕ → List Part
letters w = map (λ b. one ((b, b) ∷ [])) w

eqb-comm : (a b : ℕ) → nat_eq a b ≡ nat_eq b a
eqb-comm a b = by-test (nat_eq a b) refl
  where
    by-test : (t : Bool) → nat_eq a b ≡ t → nat_eq a b ≡ nat_eq b a
    by-test true h = h ∙ sym (eq-eqb b a (sym (eqb-true a b h)))
    by-test false h = h ∙ sym (ne_eqb b a (λ e. eqb-false a b h (sym e)))

-- the word's bytes against the first of the text
like_begins : (w l : List ℕ) → pointwise nat_eq w l ≡ alike nat_eq l w
unfolding alike
like_begins [] [] = refl
like_begins [] (b ∷ l) = refl
like_begins (a ∷ w) [] = refl
like_begins (a ∷ w) (b ∷ l) = rw (eqb-comm a b, like_begins w l)

pub begins-with : (w l : List ℕ) → pointwise nat_eq w (take (length w) l) ≡ begins w l
begins-with w l = like_begins w (take (length w) l)

-- ---- a word's bytes as parts

-- the bytes of a word from byte i on
module _ (w : List ℕ) (i : ℕ) where
  pub letters-next : i < length w → letters (drop i w) ≡ one ((slice_index w i, slice_index w i) ∷ []) ∷ letters (drop (i + 1) w)
  letters-next h =
      let e : drop i w ≡ slice_index w i ∷ drop (i + 1) w =
      drop-cons w i 0 h ∙ ap (λ (n : ℕ). slice_index w i ∷ drop n w) (sym (add-one i)) in
      rw e

module _ (b k : ℕ) where
  pub letter-same : b ≡ k → among ((k, k) ∷ []) b ≡ true
  letter-same e = in-range k k b [] (omega arith) (omega arith)

  pub letter-other : (b ≢ k) → among ((k, k) ∷ []) b ≡ false
  unfolding among
  letter-other n = not_byte k b [] n

-- a text that begins with something has a byte there
pub a-byte-there : (s : List ℕ) (at b : ℕ) (w : List ℕ) → begins (b ∷ w) (drop at s) ≡ true → at + 1 ≤ length s
unfolding alike
a-byte-there s at b w e = by (nat_le (length s) at) refl
  where
    by : (t : Bool) → nat_le (length s) at ≡ t → at + 1 ≤ length s
    by true h = no_true (rw (drop_of_length-le s {i = at} (leb-true (length s) at h)) at e)
    by false h = omega (arith, leb-false (length s) at h)
