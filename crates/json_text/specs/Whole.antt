-- Whole numbers read digit by digit, and cells from them. The reader counts no further than the cap, which is beyond any INT.
use Rattle.std.specs.Prelude.{◌≡◌, ℕ, ◌+◌, ◌-◌, ◌*◌, ◌%◌, ◌^◌, ◌<◌, ◌≤◌, Bool, true, false, ◌&&◌, List, [], ◌∷◌, length, drop, ℤ, pos, neg_ℤ, ◌==◌, ◌≢◌, int_le, nat_eq, nat_le, nat_lt, slice_index, slice_index_or, refl, if◌then◌else◌, Option, None, Some}
use Rattle.std.proofs.Common.{sym, ap, subst, ◌∙◌, arith, add-one, drop_of_length-le, drop-cons, get_or-drop, to_z}
use Rattle.std.specs.Option.{option_map}
use borrow.Author.Tests.{eq-eqb, ne_eqb, ltb-true, ltb-false, leb-true, leb-false}
use Rattle.std.proofs.Math.ListN.{get_or-eq_default}
use Rattle.std.proofs.Math.Seq.{drop-drop}
use Rattle.std.specs.Int.{w64}
use Rattle.std.proofs.Math.Facts.{to_z_pos}
use Rattle.paper.specs.declared.Cell.{Cell}
use Rattle.paper.specs.declared.Cell.TheVariants.{Empty, Int, Truth}
use Rattle.paper.specs.Limits.{INT, smallest_int, largest_int}
use Rattle.paper.specs.Numbers.{text}
use Rattle.paper.specs.Grammar.{among, these, digit}
use Rattle.paper.specs.Machine.{given}
use Rattle.paper.specs.JsonRead.{begins, digits_of, number_of, natural, integer, cell_in}
use Rattle.laws.specs.Parts.{up, dn, one-part, neg-parts, parts-eq, yes_le, no_le, to_z-low, to_z-high}
use Rattle.laws.specs.Tests.{some_one, no_none}
use Rattle.json_text.specs.declared.cells.Digits.{Digits}
use Rattle.json_text.specs.Kinds.{digit-to}

-- ---- what is promised

abbrev pub cap : ℕ
cap = 10000000000000000000

-- the smaller of the number and the cap
abbrev pub capped : ℕ → ℕ
capped v = v - (v - cap)

-- one more digit
abbrev pub Onward : ℕ → ℕ → ℕ → Type 0
Onward n d r = d ≤ 9 → (v : ℕ) → n ≡ capped v → r ≡ capped (v * 10 + d)

-- where the digits from byte `at` on end, and their number
pub record Counted (s : List ℕ) (at : ℕ) (d : Digits) : Type 0 where
  pub within : d.end ≤ length s
  pub ends : d.end ≡ at + length (digits_of (drop at s))
  pub number : d.n ≡ capped (number_of 0 (digits_of (drop at s)))

-- a magnitude with its sign
abbrev pub signed_of : Bool → ℕ → ℤ
signed_of minus n = if minus then neg_ℤ (pos n) else pos n

-- an INT, if in range
unfoldable pub ranged : ℤ → Option Cell
ranged z = if int_le smallest_int z && int_le z largest_int then Some (Int z) else None

-- the INT with this sign whose magnitude the text begins with
unfoldable pub sized_in : Bool → List ℕ → Option Cell
sized_in minus bs = given (option_map (signed_of minus) (natural bs)) None ranged

unfoldable pub int_in : List ℕ → Option Cell
int_in bs = given (integer bs) None ranged

-- ---- the digits, one after the other

-- before byte i: the number so far, and what the digits left make of it
pub record Counting (s : List ℕ) (at i n : ℕ) : Type 0 where
  pub so_far : ℕ
  pub within : i ≤ length s
  pub is : n ≡ capped so_far
  pub count : i + length (digits_of (drop i s)) ≡ at + length (digits_of (drop at s))
  pub number : number_of so_far (digits_of (drop i s)) ≡ number_of 0 (digits_of (drop at s))

-- no digit is left
none_left : (s : List ℕ) (at i n : ℕ) → Counting s at i n → digits_of (drop i s) ≡ [] → Counted s at (record { end = i; n = n })
unfolding number_of
none_left s at i n k e =
    record {
      within = k.within;
      ends = let h = rw e at k.count in omega arith;
      number = k.is ∙ ap capped (rw e at k.number);
    }

digits-over : (s : List ℕ) (i : ℕ) → length s ≤ i → digits_of (drop i s) ≡ []
unfolding digits_of
digits-over s i h = rw (drop_of_length-le s {i = i} h)

module _ (s : List ℕ) (i : ℕ) (h : i < length s) where
  next : drop i s ≡ slice_index s i ∷ drop (i + 1) s
  next = drop-cons s i 0 h ∙ ap (λ (m : ℕ). slice_index s i ∷ drop m s) (sym (add-one i))

  digits-end : among digit (slice_index s i) ≡ false → digits_of (drop i s) ≡ []
  unfolding digits_of
  digits-end e = rw (next, e)

  digits_more : among digit (slice_index s i) ≡ true → digits_of (drop i s) ≡ slice_index s i ∷ digits_of (drop (i + 1) s)
  unfolding digits_of
  digits_more e = rw (next, e)

module _ (s : List ℕ) (at : ℕ) where
  pub counting : at ≤ length s → Counting s at at 0
  counting h = record { so_far = 0; within = h; is = omega arith; count = refl; number = refl }

  module _ (i n : ℕ) (k : Counting s at i n) where
    pub text-over : length s ≤ i → Counted s at (record { end = length s; n = n })
    text-over h =
        let e : i ≡ length s = omega (arith, k.within) in
        subst (λ (m : ℕ). Counted s at (record { end = m; n = n })) e (none_left s at i n k (digits-over s i h))

    module _ (h : i < length s) where
      pub no_more : among digit (slice_index s i) ≡ false → Counted s at (record { end = i; n = n })
      no_more e = none_left s at i n k (digits-end s i h e)

      pub one_more : among digit (slice_index s i) ≡ true → (r : ℕ) → Onward n (slice_index s i - 48) r → Counting s at (i + 1) r
      unfolding number_of
      one_more e r f =
          record {
            so_far = k.so_far * 10 + (slice_index s i - 48);
            within = omega arith;
            is = f (omega (arith, digit-to (slice_index s i) e)) k.so_far k.is;
            count = let c = rw (digits_more s i h e) at k.count in omega arith;
            number = rw (digits_more s i h e) at k.number;
          }

-- ---- a fraction or an exponent

-- past its end a text has no such byte
past_end : (s : List ℕ) (i : ℕ) → length s ≤ i → among (these ".eE") (slice_index s i) ≡ false
unfolding among
past_end s i h = rw (get_or-eq_default s 0 {n = i} h)

-- ---- a natural number

module _ (s : List ℕ) (at : ℕ) (d : Digits) (k : Counted s at d) where
  behind : slice_index_or (drop at s) (length (digits_of (drop at s))) 0 ≡ slice_index s d.end
  behind = get_or-drop at s (length (digits_of (drop at s))) 0 ∙ ap (λ (i : ℕ). slice_index s i) (sym k.ends)

  abbrev many : ℕ
  many = length (digits_of (drop at s))

  some-digits : (d.end ≢ at) → (many == 0) ≡ false
  some-digits n = ne_eqb many 0 (λ (l : many ≡ 0). n (omega (arith, k.ends)))

  pub no-digits : d.end ≡ at → None ≡ option_map capped (natural (drop at s))
  unfolding natural
  no-digits e = let z : nat_eq many 0 ≡ true = eq-eqb many 0 (omega (arith, k.ends)) in rw z

  module _ (n : d.end ≡ at → ⊥) where
    pub not-whole : among (these ".eE") (slice_index s d.end) ≡ true → None ≡ option_map capped (natural (drop at s))
    unfolding natural
    not-whole e = rw (some-digits n, behind, e)

    pub is_whole : among (these ".eE") (slice_index s d.end) ≡ false → Some d.n ≡ option_map capped (natural (drop at s))
    unfolding natural
    is_whole e = rw (some-digits n, behind, e) (ap Some k.number)

    pub whole-at-end : length s ≤ d.end → Some d.n ≡ option_map capped (natural (drop at s))
    whole-at-end h = is_whole (past_end s d.end h)

-- ---- an INT by sign and magnitude

in-range-int : (z : ℤ) → up z < 2 ^ 63 → dn z ≤ 2 ^ 63 → ranged z ≡ Some (Int z)
unfolding ranged
in-range-int z h i = simp (yes_le smallest_int z (omega arith), yes_le z largest_int (omega arith))

too_large : (z : ℤ) → 2 ^ 63 ≤ up z → ranged z ≡ None
unfolding ranged
too_large z h = simp (yes_le smallest_int z (omega (arith, one-part z)), no_le z largest_int (omega (arith, one-part z)))

too_small : (z : ℤ) → 2 ^ 63 < dn z → ranged z ≡ None
unfolding ranged
too_small z h = simp (no_le smallest_int z (omega (arith, one-part z)))

pub over-int : (n : ℕ) → 2 ^ 63 ≤ n → ranged (pos n) ≡ None
over-int n h = too_large (pos n) h

pub under-int : (n : ℕ) → 2 ^ 63 < n → ranged (neg_ℤ (pos n)) ≡ None
under-int n h = too_small (neg_ℤ (pos n)) (omega (arith, neg-parts (pos n)))

-- the bits of n itself
pub int-plus : (n : ℕ) (z : ℤ) → n < 2 ^ 63 → z ≡ to_z w64 n → Some (Int z) ≡ ranged (pos n)
int-plus n z h e =
    let p : z ≡ pos n = e ∙ to_z_pos w64 h in
    ap (λ (y : ℤ). Some (Int y)) p ∙ sym (in-range-int (pos n) h (omega arith))

-- the bits that n fills up
pub int-minus : (n x : ℕ) (z : ℤ) → n ≤ 2 ^ 63 → x < 2 ^ 64 → (x + n) % 2 ^ 64 ≡ 0 → z ≡ to_z w64 x
    → Some (Int z) ≡ ranged (neg_ℤ (pos n))
int-minus n x z h i f e =
    let p : z ≡ neg_ℤ (pos n) = e ∙ by (nat_lt x (2 ^ 63)) refl in
    ap (λ (y : ℤ). Some (Int y)) p
    ∙ sym (in-range-int (neg_ℤ (pos n)) (omega (arith, neg-parts (pos n))) (omega (arith, neg-parts (pos n))))
  where
    by : (t : Bool) → nat_lt x (2 ^ 63) ≡ t → to_z w64 x ≡ neg_ℤ (pos n)
    by true l =
        let k : x < 2 ^ 63 = ltb-true x (2 ^ 63) l in
        parts-eq (to_z w64 x) (neg_ℤ (pos n)) (omega (arith, neg-parts (pos n), to_z-low w64 x k))
    by false l =
        let k : 2 ^ 63 ≤ x = ltb-false x (2 ^ 63) l in
        parts-eq (to_z w64 x) (neg_ℤ (pos n)) (omega (arith, neg-parts (pos n), to_z-high w64 x k i))

-- with the sign as it is told
pub as-minus : (m : Bool) (n : ℕ) → m ≡ true → ranged (neg_ℤ (pos n)) ≡ ranged (signed_of m n)
as-minus m n e = rw e

pub as-plus : (m : Bool) (n : ℕ) → m ≡ false → ranged (pos n) ≡ ranged (signed_of m n)
as-plus m n e = rw e

-- from the cap on, no number is an INT
capped_same : (minus : Bool) (n v : ℕ) → n ≡ capped v → ranged (signed_of minus n) ≡ ranged (signed_of minus v)
capped_same minus n v e = by (nat_le cap v) refl minus
  where
    by : (t : Bool) → nat_le cap v ≡ t → (m : Bool) → ranged (signed_of m n) ≡ ranged (signed_of m v)
    by false l m = let i : n ≡ v = omega (arith, leb-false cap v l) in ap (λ (k : ℕ). ranged (signed_of m k)) i
    by true l false = let i : cap ≤ v = leb-true cap v l in over-int n (omega arith) ∙ sym (over-int v (omega arith))
    by true l true = let i : cap ≤ v = leb-true cap v l in under-int n (omega arith) ∙ sym (under-int v (omega arith))

sized-some : (minus : Bool) (n : ℕ) (o : Option ℕ) → Some n ≡ option_map capped o
    → ranged (signed_of minus n) ≡ given (option_map (signed_of minus) o) None ranged
sized-some minus n None e = absurd (no_none n (sym e))
sized-some minus n (Some v) e = capped_same minus n v (some_one n (capped v) e)

sized-none : (minus : Bool) (o : Option ℕ) → None ≡ option_map capped o → None ≡ given (option_map (signed_of minus) o) None ranged
sized-none minus None e = refl
sized-none minus (Some v) e = absurd (no_none (capped v) e)

module _ (minus : Bool) (bs : List ℕ) where
  pub sized-yes : (n : ℕ) → Some n ≡ option_map capped (natural bs) → ranged (signed_of minus n) ≡ sized_in minus bs
  unfolding sized_in
  sized-yes n k = sized-some minus n (natural bs) k

  pub sized-no : None ≡ option_map capped (natural bs) → None ≡ sized_in minus bs
  unfolding sized_in
  sized-no k = sized-none minus (natural bs) k

module _ (s : List ℕ) (at : ℕ) where
  pub with-minus : begins (text "-") (drop at s) ≡ true → sized_in true (drop (at + 1) s) ≡ int_in (drop at s)
  unfolding sized_in int_in
  with-minus e = rw (e, drop-drop 1 at s)

  pub without-minus : begins (text "-") (drop at s) ≡ false → sized_in false (drop at s) ≡ int_in (drop at s)
  unfolding sized_in int_in
  without-minus e = rw e

-- ---- a cell

module _ (t : ℕ) (bs : List ℕ) where
  pub cell-null : begins (text "null") bs ≡ true → Some Empty ≡ cell_in t bs
  unfolding cell_in
  cell-null e = rw e

  module _ (n : begins (text "null") bs ≡ false) where
    pub cell-int : t ≡ INT → int_in bs ≡ cell_in t bs
    unfolding cell_in int_in ranged
    cell-int e = let i : nat_eq t 1 ≡ true = eq-eqb t 1 e in rw (n, i)

    module _ (k : t ≡ INT → ⊥) where
      other-type : nat_eq t 1 ≡ false
      other-type = ne_eqb t 1 k

      pub cell-true : begins (text "true") bs ≡ true → Some (Truth true) ≡ cell_in t bs
      unfolding cell_in
      cell-true e = rw (n, other-type, e)

      module _ (e : begins (text "true") bs ≡ false) where
        pub cell-false : begins (text "false") bs ≡ true → Some (Truth false) ≡ cell_in t bs
        unfolding cell_in
        cell-false f = rw (n, other-type, e, f)

        pub no_cell : begins (text "false") bs ≡ false → None ≡ cell_in t bs
        unfolding cell_in
        no_cell f = rw (n, other-type, e, f)
