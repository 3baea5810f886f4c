-- What is made of the table's parts the RFC's grammar generates.
use Rattle.std.specs.Prelude.{ℕ, zero, suc, ◌+◌, ◌*◌, ◌≤◌, ◌≡◌, refl, false, List, [], ◌∷◌, ◌++◌, map, ◌⊎◌, length}
use Rattle.std.proofs.Common.{sym, subst, append_assoc, inl, inr, arith}
use Rattle.paper.specs.Numbers.{text}
use Rattle.grammar.specs.Made.{OneOf, here, there, Made, nothing, space, without, by}
use Rattle.paper.specs.Grammar.{Bytes, Part, Rule, blank, digit, hex_digit, further, range, these, ends, optional}
use Rattle.paper.specs.Grammar.{rules, values, word, before, ◌⇒◌}
use Rattle.paper.specs.Grammar.{one, chars, escape, number, colon, at, unsigned, after_zero, after_digit, after_fraction, after_e}
use Rattle.paper.specs.Grammar.{after_exponent}
use Rattle.paper.specs.Grammar.{value, items, more_items, object, members, member, more_members}
use Rattle.paper.specs.Rfc as R
use Rattle.paper.specs.Rfc.{In}
use Rattle.grammar.specs.Generated.{begun, not-begun, first-or}

-- ---- rule by rule

abbrev pub AllOf : (Rule → Type 0) → List Rule → Type 0
AllOf P [] = Unit {0}
AllOf P (q ∷ rs) = P q × AllOf P rs

pub each : (P : Rule → Type 0) (rs : List Rule) → AllOf P rs → (r : Rule) → OneOf r rs → P r
each P [] p r o = elim o [ ]
each P (q ∷ rs) p r here = p.0
each P (q ∷ rs) p r (there o) = each P rs p.1 r o

-- a part that cannot be left out, by each of its rules
by-rule : (g : Part) (gs : List Part) (b : ℕ) (bs : List ℕ) (X : Type 0) → optional g ≡ false
    → AllOf (λ r. In b r.byte → Made (r.rest ++ gs) bs → X) (rules g) → Made (g ∷ gs) (b ∷ bs) → X
by-rule g gs b bs X e p m =
    let x = begun g gs b bs e m in
    each (λ r. In b r.byte → Made (r.rest ++ gs) bs → X) (rules g) p x.rule x.has x.with x.goes

-- one that can: by a rule or not at all
may-rule : (g : Part) (gs : List Part) (b : ℕ) (bs : List ℕ) (X : Type 0) → (Made gs (b ∷ bs) → X)
    → AllOf (λ r. In b r.byte → Made (r.rest ++ gs) bs → X) (rules g) → Made (g ∷ gs) (b ∷ bs) → X
may-rule g gs b bs X f p (without o m) = f m
may-rule g gs b bs X f p (by r o h m) = each (λ r. In b r.byte → Made (r.rest ++ gs) bs → X) (rules g) p r o h m

left_out : (g : Part) (gs : List Part) → Made (g ∷ gs) [] → Made gs []
left_out g gs (without o m) = m

-- a text read: what is left of it, and that this is no longer
record Left (P : List ℕ → List ℕ → Type 0) (gs : List Part) (a : List ℕ) : Type 0 where
  rest : List ℕ
  is : P a rest
  made : Made gs rest
  shorter : length rest ≤ length a

-- read from a later byte on, with what stands before it
on : {P Q : List ℕ → List ℕ → Type 0} {gs : List Part} {c a : List ℕ} → length c ≤ length a → (v : Left P gs c)
    → ((r : List ℕ) → P c r → Q a r) → Left Q gs a
on l v f = record { rest = v.rest; is = f v.rest v.is; made = v.made; shorter = omega (arith, l, v.shorter) }

-- ---- bytes

data Each : List Bytes → List ℕ → List ℕ → Type 0 where
  end : {r : List ℕ} → Each [] r r
  next : {b : ℕ} {c : Bytes} {cs : List Bytes} {a r : List ℕ} → In b c → Each cs a r → Each (c ∷ cs) (b ∷ a) r

ones-read : (cs : List Bytes) (gs : List Part) (a : List ℕ) → Made (map one cs ++ gs) a → Left (Each cs) gs a
unfolding rules optional
ones-read [] gs a m = record { rest = a; is = end; made = m; shorter = omega arith }
ones-read (c ∷ cs) gs [] m = absurd (not-begun (one c) (map one cs ++ gs) refl m)
ones-read (c ∷ cs) gs (b ∷ bs) m =
    by-rule (one c) (map one cs ++ gs) b bs (Left (Each (c ∷ cs)) gs (b ∷ bs)) refl
    ((λ h k. on (omega arith) (ones-read cs gs bs k) (λ r w. next h w)), tt) m

-- ---- characters

to-unicode : {u : ℕ} {a r : List ℕ} → In u (these "u") → Each (hex_digit ∷ hex_digit ∷ hex_digit ∷ hex_digit ∷ []) a r → R.Escape (u ∷ a) r
to-unicode h (next b (next c (next d (next e end)))) = R.Escape.unicode h b c d e

to-two : {b : ℕ} {a r : List ℕ} → In b (range 0xc2 0xdf) → Each (further ∷ []) a r → R.Wide (b ∷ a) r
to-two h (next c end) = R.Wide.two h c

to-e0 : {b : ℕ} {a r : List ℕ} → In b (range 0xe0 0xe0) → Each (range 0xa0 0xbf ∷ further ∷ []) a r → R.Wide (b ∷ a) r
to-e0 h (next c (next d end)) = R.Wide.e0 h c d

to-three : {b : ℕ} {a r : List ℕ} → In b (range 0xe1 0xec ++ range 0xee 0xef) → Each (further ∷ further ∷ []) a r → R.Wide (b ∷ a) r
to-three h (next c (next d end)) = R.Wide.three h c d

to-ed : {b : ℕ} {a r : List ℕ} → In b (range 0xed 0xed) → Each (range 0x80 0x9f ∷ further ∷ []) a r → R.Wide (b ∷ a) r
to-ed h (next c (next d end)) = R.Wide.ed h c d

to-f0 : {b : ℕ} {a r : List ℕ} → In b (range 0xf0 0xf0) → Each (range 0x90 0xbf ∷ further ∷ further ∷ []) a r → R.Wide (b ∷ a) r
to-f0 h (next c (next d (next e end))) = R.Wide.f0 h c d e

to-four : {b : ℕ} {a r : List ℕ} → In b (range 0xf1 0xf3) → Each (further ∷ further ∷ further ∷ []) a r → R.Wide (b ∷ a) r
to-four h (next c (next d (next e end))) = R.Wide.four h c d e

to-f4 : {b : ℕ} {a r : List ℕ} → In b (range 0xf4 0xf4) → Each (range 0x80 0x8f ∷ further ∷ further ∷ []) a r → R.Wide (b ∷ a) r
to-f4 h (next c (next d (next e end))) = R.Wide.f4 h c d e

escape-read : (gs : List Part) (a : List ℕ) → Made (escape ∷ gs) a → Left R.Escape gs a
unfolding rules optional
escape-read gs [] m = absurd (not-begun escape gs refl m)
escape-read gs (b ∷ bs) m =
    by-rule escape gs b bs (Left R.Escape gs (b ∷ bs)) refl (
      (λ h k. record { rest = bs; is = R.Escape.short h; made = k; shorter = omega arith }),
      (
        (λ h k. on (omega arith) (ones-read (hex_digit ∷ hex_digit ∷ hex_digit ∷ hex_digit ∷ []) gs bs k) (λ r w. to-unicode h w)),
        tt,
      ),
    ) m

chars-read : (k : ℕ) (gs : List Part) (a : List ℕ) → length a ≤ k → Made (chars ∷ gs) a → Left R.Chars gs a
unfolding rules optional
chars-read zero gs [] l m = absurd (not-begun chars gs refl m)
chars-read zero gs (b ∷ bs) l m = absurd (omega arith)
chars-read (suc k) gs [] l m = absurd (not-begun chars gs refl m)
chars-read (suc k) gs (b ∷ bs) l m =
    by-rule chars gs b bs (Left R.Chars gs (b ∷ bs)) refl (
      (λ h j. on (omega arith) (chars-read k gs bs (omega arith) j) (λ r w. R.Chars.itself h w)),
      (
        (λ h j. record { rest = bs; is = R.Chars.close h; made = j; shorter = omega arith }),
        (
          (λ h j.
              let e = escape-read (chars ∷ gs) bs j in
              on (omega (arith, e.shorter)) (chars-read k gs e.rest (omega (arith, e.shorter)) e.made)
              (λ r w. R.Chars.escaped h e.is w)),
          (
            (λ h j.
                let e = ones-read (further ∷ []) (chars ∷ gs) bs j in
                on (omega (arith, e.shorter)) (chars-read k gs e.rest (omega (arith, e.shorter)) e.made)
                (λ r w. R.Chars.wide (to-two h e.is) w)),
            (
              (λ h j.
                  let e = ones-read (range 0xa0 0xbf ∷ further ∷ []) (chars ∷ gs) bs j in
                  on (omega (arith, e.shorter)) (chars-read k gs e.rest (omega (arith, e.shorter)) e.made)
                  (λ r w. R.Chars.wide (to-e0 h e.is) w)),
              (
                (λ h j.
                    let e = ones-read (further ∷ further ∷ []) (chars ∷ gs) bs j in
                    on (omega (arith, e.shorter)) (chars-read k gs e.rest (omega (arith, e.shorter)) e.made)
                    (λ r w. R.Chars.wide (to-three h e.is) w)),
                (
                  (λ h j.
                      let e = ones-read (range 0x80 0x9f ∷ further ∷ []) (chars ∷ gs) bs j in
                      on (omega (arith, e.shorter)) (chars-read k gs e.rest (omega (arith, e.shorter)) e.made)
                      (λ r w. R.Chars.wide (to-ed h e.is) w)),
                  (
                    (λ h j.
                        let e = ones-read (range 0x90 0xbf ∷ further ∷ further ∷ []) (chars ∷ gs) bs j in
                        on (omega (arith, e.shorter)) (chars-read k gs e.rest (omega (arith, e.shorter)) e.made)
                        (λ r w. R.Chars.wide (to-f0 h e.is) w)),
                    (
                      (λ h j.
                          let e = ones-read (further ∷ further ∷ further ∷ []) (chars ∷ gs) bs j in
                          on (omega (arith, e.shorter)) (chars-read k gs e.rest (omega (arith, e.shorter)) e.made)
                          (λ r w. R.Chars.wide (to-four h e.is) w)),
                      (
                        (λ h j.
                            let e = ones-read (range 0x80 0x8f ∷ further ∷ further ∷ []) (chars ∷ gs) bs j in
                            on (omega (arith, e.shorter)) (chars-read k gs e.rest (omega (arith, e.shorter)) e.made)
                            (λ r w. R.Chars.wide (to-f4 h e.is) w)),
                        tt,
                      ),
                    ),
                  ),
                ),
              ),
            ),
          ),
        ),
      ),
    ) m

-- ---- numbers

exponent-digits : (gs : List Part) (a : List ℕ) → Made (number after_exponent ∷ gs) a → Left R.Digits* gs a
unfolding rules
exponent-digits gs [] m = record { rest = []; is = R.Digits*.none; made = left_out (number after_exponent) gs m; shorter = omega arith }
exponent-digits gs (b ∷ bs) m =
    may-rule (number after_exponent) gs b bs (Left R.Digits* gs (b ∷ bs))
    (λ k. record { rest = b ∷ bs; is = R.Digits*.none; made = k; shorter = omega arith })
    ((λ h k. on (omega arith) (exponent-digits gs bs k) (λ r w. R.Digits*.more h w)), tt) m

to-signed : {e s : ℕ} {a m r : List ℕ} → In e (these "eE") → In s (these "+-") → Each (digit ∷ []) a m → R.Digits* m r
    → R.Exponent (e ∷ s ∷ a) r
to-signed h s (next d end) w = R.Exponent.signed h s d w

-- after the e
power-read : (e : ℕ) → In e (these "eE") → (gs : List Part) (a : List ℕ) → Made (number after_e ∷ gs) a
    → Left (λ x y. R.Exponent (e ∷ x) y) gs a
unfolding rules optional ends
power-read e g gs [] m = absurd (not-begun (number after_e) gs refl m)
power-read e g gs (b ∷ bs) m =
    by-rule (number after_e) gs b bs (Left (λ x y. R.Exponent (e ∷ x) y) gs (b ∷ bs)) refl (
      (λ h k.
          let d = ones-read (digit ∷ []) (number after_exponent ∷ gs) bs k in
          on (omega (arith, d.shorter)) (exponent-digits gs d.rest d.made) (λ r w. to-signed g h d.is w)),
      (
        (λ h k. on (omega arith) (exponent-digits gs bs k) (λ r w. R.Exponent.unsigned g h w)),
        tt,
      ),
    ) m

-- what is left of a number: after a digit of its fraction, after its 0, after its first digits, after its minus
data InFraction : List ℕ → List ℕ → Type 0 where
  rest : {a m r : List ℕ} → R.Digits* a m → R.Exponent m r → InFraction a r

data AfterInt : List ℕ → List ℕ → Type 0 where
  rest : {a m r : List ℕ} → R.Fraction a m → R.Exponent m r → AfterInt a r

data InInt : List ℕ → List ℕ → Type 0 where
  rest : {a i m r : List ℕ} → R.Digits* a i → R.Fraction i m → R.Exponent m r → InInt a r

data Unsigned : List ℕ → List ℕ → Type 0 where
  rest : {a i m r : List ℕ} → R.Int a i → R.Fraction i m → R.Exponent m r → Unsigned a r

more-fraction : {b : ℕ} {a r : List ℕ} → In b digit → InFraction a r → InFraction (b ∷ a) r
more-fraction h (InFraction.rest w e) = InFraction.rest (R.Digits*.more h w) e

fraction-read : (gs : List Part) (a : List ℕ) → Made (number after_fraction ∷ gs) a → Left InFraction gs a
unfolding rules
fraction-read gs [] m =
    record {
      rest = [];
      is = InFraction.rest R.Digits*.none R.Exponent.none;
      made = left_out
          (number after_fraction) gs m;
      shorter = omega arith;
    }
fraction-read gs (b ∷ bs) m =
    may-rule (number after_fraction) gs b bs (Left InFraction gs (b ∷ bs))
    (λ k. record { rest = b ∷ bs; is = InFraction.rest R.Digits*.none R.Exponent.none; made = k; shorter = omega arith }) (
      (λ h k. on (omega arith) (fraction-read gs bs k) (λ r w. more-fraction h w)),
      (
        (λ h k. on (omega arith) (power-read b h gs bs k) (λ r w. InFraction.rest R.Digits*.none w)),
        tt,
      ),
    ) m

to-fraction : {p : ℕ} {a m r : List ℕ} → In p (these ".") → Each (digit ∷ []) a m → InFraction m r → AfterInt (p ∷ a) r
to-fraction h (next d end) (InFraction.rest w e) = AfterInt.rest (R.Fraction.some h d w) e

-- a fraction, after its point
point-read : (p : ℕ) → In p (these ".") → (gs : List Part) (a : List ℕ) → Made (one digit ∷ number after_fraction ∷ gs) a
    → Left (λ x y. AfterInt (p ∷ x) y) gs a
point-read p h gs a m =
    let d = ones-read (digit ∷ []) (number after_fraction ∷ gs) a m in
    on (omega (arith, d.shorter)) (fraction-read gs d.rest d.made) (λ r w. to-fraction h d.is w)

zero-read : (gs : List Part) (a : List ℕ) → Made (number after_zero ∷ gs) a → Left AfterInt gs a
unfolding rules
zero-read gs [] m =
    record {
      rest = [];
      is = AfterInt.rest R.Fraction.none R.Exponent.none;
      made = left_out
          (number after_zero) gs m;
      shorter = omega arith;
    }
zero-read gs (b ∷ bs) m =
    may-rule (number after_zero) gs b bs (Left AfterInt gs (b ∷ bs))
    (λ k. record { rest = b ∷ bs; is = AfterInt.rest R.Fraction.none R.Exponent.none; made = k; shorter = omega arith }) (
      (λ h k. on (omega arith) (point-read b h gs bs k) (λ r w. w)),
      (
        (λ h k. on (omega arith) (power-read b h gs bs k) (λ r w. AfterInt.rest R.Fraction.none w)),
        tt,
      ),
    ) m

more-int : {b : ℕ} {a r : List ℕ} → In b digit → InInt a r → InInt (b ∷ a) r
more-int h (InInt.rest w f e) = InInt.rest (R.Digits*.more h w) f e

no-more-int : {a r : List ℕ} → AfterInt a r → InInt a r
no-more-int (AfterInt.rest f e) = InInt.rest R.Digits*.none f e

digit-read : (gs : List Part) (a : List ℕ) → Made (number after_digit ∷ gs) a → Left InInt gs a
unfolding rules
digit-read gs [] m =
    record {
      rest = [];
      is = InInt.rest R.Digits*.none R.Fraction.none R.Exponent.none;
      made = left_out
          (number after_digit) gs m;
      shorter = omega arith;
    }
digit-read gs (b ∷ bs) m =
    may-rule (number after_digit) gs b bs (Left InInt gs (b ∷ bs))
    (λ k. record { rest = b ∷ bs; is = InInt.rest R.Digits*.none R.Fraction.none R.Exponent.none; made = k; shorter = omega arith }) (
      (λ h k. on (omega arith) (digit-read gs bs k) (λ r w. more-int h w)),
      (
        (λ h k. on (omega arith) (point-read b h gs bs k) (λ r w. no-more-int w)),
        (
          (λ h k. on (omega arith) (power-read b h gs bs k) (λ r w. InInt.rest R.Digits*.none R.Fraction.none w)),
          tt,
        ),
      ),
    ) m

from_zero : {b : ℕ} {a r : List ℕ} → In b (these "0") → AfterInt a r → Unsigned (b ∷ a) r
from_zero h (AfterInt.rest f e) = Unsigned.rest (R.Int.nought h) f e

from-digit : {b : ℕ} {a r : List ℕ} → In b (range 0x31 0x39) → InInt a r → Unsigned (b ∷ a) r
from-digit h (InInt.rest w f e) = Unsigned.rest (R.Int.other h w) f e

from-minus : {b : ℕ} {a r : List ℕ} → In b (these "-") → Unsigned a r → R.Number (b ∷ a) r
from-minus h (Unsigned.rest i f e) = R.Number.negative h i f e

positive : {a r : List ℕ} → Unsigned a r → R.Number a r
positive (Unsigned.rest i f e) = R.Number.positive i f e

unsigned-read : (gs : List Part) (a : List ℕ) → Made (number unsigned ∷ gs) a → Left Unsigned gs a
unfolding rules optional ends
unsigned-read gs [] m = absurd (not-begun (number unsigned) gs refl m)
unsigned-read gs (b ∷ bs) m =
    by-rule (number unsigned) gs b bs (Left Unsigned gs (b ∷ bs)) refl (
      (λ h k. on (omega arith) (zero-read gs bs k) (λ r w. from_zero h w)),
      (
        (λ h k. on (omega arith) (digit-read gs bs k) (λ r w. from-digit h w)),
        tt,
      ),
    ) m

-- ---- words

to-true : {b : ℕ} {a r : List ℕ} → In b (these "t") → Each (these "r" ∷ these "u" ∷ these "e" ∷ []) a r → R.Word (text "true") (b ∷ a) r
to-true h (next c (next d (next e end))) = R.Word.next h (R.Word.next c (R.Word.next d (R.Word.next e R.Word.end)))

to-false : {b : ℕ} {a r : List ℕ} → In b (these "f") → Each (these "a" ∷ these "l" ∷ these "s" ∷ these "e" ∷ []) a r
    → R.Word (text "false") (b ∷ a) r
to-false h (next c (next d (next e (next f end)))) =
    R.Word.next h (R.Word.next c (R.Word.next d (R.Word.next e (R.Word.next f R.Word.end))))

to-null : {b : ℕ} {a r : List ℕ} → In b (these "n") → Each (these "u" ∷ these "l" ∷ these "l" ∷ []) a r → R.Word (text "null") (b ∷ a) r
to-null h (next c (next d (next e end))) = R.Word.next h (R.Word.next c (R.Word.next d (R.Word.next e R.Word.end)))

-- ---- values

-- with blanks before it
data Spaced (P : List ℕ → List ℕ → Type 0) : List ℕ → List ℕ → Type 0 where
  after : {a v r : List ℕ} → R.Blanks a v → P v r → Spaced P a r

one-blank : {P : List ℕ → List ℕ → Type 0} {b : ℕ} {a r : List ℕ} → In b blank → Spaced P a r → Spaced P (b ∷ a) r
one-blank h (after w p) = after (R.Blanks.more h w) p

-- a byte after blanks
data Mark (c : Bytes) : List ℕ → List ℕ → Type 0 where
  mark : {b : ℕ} {a r : List ℕ} → R.Blanks a (b ∷ r) → In b c → Mark c a r

blank-mark : {c : Bytes} {b : ℕ} {a r : List ℕ} → In b blank → Mark c a r → Mark c (b ∷ a) r
blank-mark h (mark w p) = mark (R.Blanks.more h w) p

colon-read : (gs : List Part) (a : List ℕ) → Made (colon ∷ gs) a → Left (Mark (these ":")) gs a
unfolding rules optional
colon-read gs [] m = absurd (not-begun colon gs refl m)
colon-read gs (b ∷ bs) m =
    by-rule colon gs b bs (Left (Mark (these ":")) gs (b ∷ bs)) refl (
      (λ h k. on (omega arith) (colon-read gs bs k) (λ r w. blank-mark h w)),
      (
        (λ h k. record { rest = bs; is = mark R.Blanks.none h; made = k; shorter = omega arith }),
        tt,
      ),
    ) m

end_read : (a : List ℕ) → Made [] a → R.Blanks a []
end_read [] nothing = R.Blanks.none
end_read (b ∷ bs) (space h m) = R.Blanks.more h (end_read bs m)

-- what follows `[`: a blank, the closing bracket, or what a value and more items are
unmapped : (f : Rule → Rule) (r : Rule) (rs : List Rule) → OneOf r (map f rs) → (q : Rule) × OneOf q rs × (f q ≡ r)
unmapped f r [] o = elim o [ ]
unmapped f r (q ∷ rs) o = go (first-or r (f q) (map f rs) o) (unmapped f r rs)
  where
    go : (r ≡ f q) ⊎ OneOf r (map f rs) → (OneOf r (map f rs) → (p : Rule) × OneOf p rs × (f p ≡ r))
        → (p : Rule) × OneOf p (q ∷ rs) × (f p ≡ r)
    go (inl e) ih = (q, here, sym e)
    go (inr w) ih = let v = ih w in (v.0, there v.1, v.2)

data First (n : ℕ) (gs : List Part) : List ℕ → Type 0 where
  blank_first : {b : ℕ} {bs : List ℕ} → In b blank → Made (at items n ∷ gs) bs → First n gs (b ∷ bs)
  closed : {b : ℕ} {bs : List ℕ} → In b (these "]") → Made gs bs → First n gs (b ∷ bs)
  item : {a : List ℕ} → Made (at value n ∷ at more_items n ∷ gs) a → First n gs a

item_of : (n : ℕ) (gs : List Part) (b : ℕ) (bs : List ℕ) (r : Rule) → OneOf r (map (before (at more_items n ∷ [])) (values n))
    → In b r.byte → Made (r.rest ++ gs) bs → First n gs (b ∷ bs)
unfolding rules
item_of n gs b bs r o h m =
    let v = unmapped (before (at more_items n ∷ [])) r (values n) o in
    let q = v.0 in
    let k : Made ((q.rest ++ (at more_items n ∷ [])) ++ gs) bs = subst (λ (x : Rule). Made (x.rest ++ gs) bs) (sym v.2) m in
    let w : Made (q.rest ++ (at more_items n ∷ gs)) bs = rw (append_assoc q.rest (at more_items n ∷ []) gs) at k in
    let g : In b q.byte = subst (λ (x : Rule). In b x.byte) (sym v.2) h in
    item (by q (there v.1) g w)

first_read : (n : ℕ) (gs : List Part) (a : List ℕ) → Made (at items n ∷ gs) a → First n gs a
unfolding rules optional
first_read n gs [] m = absurd (not-begun (at items n) gs refl m)
first_read n gs (b ∷ bs) m =
    let x = begun (at items n) gs b bs refl m in go x.rule x.with x.goes (first-or x.rule _ _ x.has)
  where
    go : (r : Rule) → In b r.byte → Made (r.rest ++ gs) bs
        → (r ≡ (blank ⇒ at items n ∷ [])) ⊎ OneOf r ((these "]" ⇒ []) ∷ map (before (at more_items n ∷ [])) (values n))
        → First n gs (b ∷ bs)
    go r h k (inl e) = blank_first (rw e at h) (rw e at k)
    go r h k (inr o) = other (first-or r _ _ o)
      where
        other : (r ≡ (these "]" ⇒ [])) ⊎ OneOf r (map (before (at more_items n ∷ [])) (values n)) → First n gs (b ∷ bs)
        other (inl e) = closed (rw e at h) (rw e at k)
        other (inr w) = item_of n gs b bs r w h k

-- ---- scalars

module _ (n : ℕ) (gs : List Part) (b : ℕ) (bs : List ℕ) where
  abbrev AValue : Type 0
  AValue = Left (Spaced (R.Value n)) gs (b ∷ bs)

  string-value : In b (these "\"") → Made (chars ∷ gs) bs → AValue
  string-value h m = on (omega arith) (chars-read (length bs) gs bs (omega arith) m) (λ r w. after R.Blanks.none (R.Value.string h w))

  minus-value : In b (these "-") → Made (number unsigned ∷ gs) bs → AValue
  minus-value h m = on (omega arith) (unsigned-read gs bs m) (λ r w. after R.Blanks.none (R.Value.number (from-minus h w)))

  true-value : In b (these "t") → Made (word "rue" ++ gs) bs → AValue
  true-value h m =
      on (omega arith) (ones-read (these "r" ∷ these "u" ∷ these "e" ∷ []) gs bs m)
      (λ r w. after R.Blanks.none (R.Value.is_true (to-true h w)))

  false-value : In b (these "f") → Made (word "alse" ++ gs) bs → AValue
  false-value h m =
      on (omega arith) (ones-read (these "a" ∷ these "l" ∷ these "s" ∷ these "e" ∷ []) gs bs m)
      (λ r w. after R.Blanks.none (R.Value.is_false (to-false h w)))

  null-value : In b (these "n") → Made (word "ull" ++ gs) bs → AValue
  null-value h m =
      on (omega arith) (ones-read (these "u" ∷ these "l" ∷ these "l" ∷ []) gs bs m)
      (λ r w. after R.Blanks.none (R.Value.is_null (to-null h w)))

  zero-value : In b (these "0") → Made (number after_zero ∷ gs) bs → AValue
  zero-value h m = on (omega arith) (zero-read gs bs m) (λ r w. after R.Blanks.none (R.Value.number (positive (from_zero h w))))

  digit_value : In b (range 0x31 0x39) → Made (number after_digit ∷ gs) bs → AValue
  digit_value h m = on (omega arith) (digit-read gs bs m) (λ r w. after R.Blanks.none (R.Value.number (positive (from-digit h w))))

-- ---- blanks and marks before arrays and objects

module _ {n b : ℕ} {a r : List ℕ} where
  blank-array : In b blank → R.Array n a r → R.Array n (b ∷ a) r
  blank-array h (R.Array.no_item w c) = R.Array.no_item (R.Blanks.more h w) c
  blank-array h (R.Array.items w v t) = R.Array.items (R.Blanks.more h w) v t

  blank-items : In b blank → R.Items n a r → R.Items n (b ∷ a) r
  blank-items h (R.Items.last_item w c) = R.Items.last_item (R.Blanks.more h w) c
  blank-items h (R.Items.more_item w c x v t) = R.Items.more_item (R.Blanks.more h w) c x v t

  blank-member : In b blank → R.Member n a r → R.Member n (b ∷ a) r
  blank-member h (R.Member.member w q c x p y v) = R.Member.member (R.Blanks.more h w) q c x p y v

  blank-members : In b blank → R.Members n a r → R.Members n (b ∷ a) r
  blank-members h (R.Members.last_member w c) = R.Members.last_member (R.Blanks.more h w) c
  blank-members h (R.Members.more_member w c v t) = R.Members.more_member (R.Blanks.more h w) c v t

  blank-object : In b blank → R.Object n a r → R.Object n (b ∷ a) r
  blank-object h (R.Object.no_member w c) = R.Object.no_member (R.Blanks.more h w) c
  blank-object h (R.Object.members (R.Member.member w q c x p y v) t) =
      R.Object.members (R.Member.member (R.Blanks.more h w) q c x p y v) t

module _ {n : ℕ} {a m r : List ℕ} where
  items-array : Spaced (R.Value n) a m → R.Items n m r → R.Array n a r
  items-array (after w v) t = R.Array.items w v t

  comma-items : {b : ℕ} → In b (these ",") → Spaced (R.Value n) a m → R.Items n m r → R.Items n (b ∷ a) r
  comma-items h (after w v) t = R.Items.more_item R.Blanks.none h w v t

named-member : {n q : ℕ} {a c d r : List ℕ} → In q (these "\"") → R.Chars a c → Mark (these ":") c d → Spaced (R.Value n) d r
    → R.Member n (q ∷ a) r
named-member h w (mark x p) (after y v) = R.Member.member R.Blanks.none h w x p y v

first-case : (n : ℕ) (gs : List Part) (P : List ℕ → Type 0) → ((b : ℕ) (bs : List ℕ) → In b blank → Made (at items n ∷ gs) bs → P (b ∷ bs))
    → ((b : ℕ) (bs : List ℕ) → In b (these "]") → Made gs bs → P (b ∷ bs))
    → ((a : List ℕ) → Made (at value n ∷ at more_items n ∷ gs) a → P a) → (a : List ℕ) → First n gs a → P a
first-case n gs P f g h a (blank_first {b = b} {bs = bs} x m) = f b bs x m
first-case n gs P f g h a (closed {b = b} {bs = bs} x m) = g b bs x m
first-case n gs P f g h a (item m) = h a m

-- ---- values, by how long the text is

mutual
  unfolding rules optional

  value_read : (k n : ℕ) (gs : List Part) (a : List ℕ) → 2 * length a ≤ k → Made (at value n ∷ gs) a → Left (Spaced (R.Value n)) gs a
  value_read zero n gs [] l m = absurd (not-begun (at value n) gs refl m)
  value_read zero n gs (b ∷ bs) l m = absurd (omega arith)
  value_read (suc k) n gs [] l m = absurd (not-begun (at value n) gs refl m)
  value_read (suc k) zero gs (b ∷ bs) l m =
      by-rule (at value zero) gs b bs (Left (Spaced (R.Value zero)) gs (b ∷ bs)) refl (
        (λ h j. on (omega arith) (value_read k zero gs bs (omega arith) j) (λ r w. one-blank h w)),
        (
          (λ h j. string-value zero gs b bs h j),
          (
            (λ h j. minus-value zero gs b bs h j),
            (
              (λ h j. true-value zero gs b bs h j),
              (
                (λ h j. false-value zero gs b bs h j),
                (
                  (λ h j. null-value zero gs b bs h j),
                  (
                    (λ h j. zero-value zero gs b bs h j),
                    (
                      (λ h j. digit_value zero gs b bs h j),
                      tt,
                    ),
                  ),
                ),
              ),
            ),
          ),
        ),
      ) m
  value_read (suc k) (suc n) gs (b ∷ bs) l m =
      by-rule (at value (suc n)) gs b bs (Left (Spaced (R.Value (suc n))) gs (b ∷ bs)) refl (
        (λ h j. on (omega arith) (value_read k (suc n) gs bs (omega arith) j) (λ r w. one-blank h w)),
        (
          (λ h j. string-value (suc n) gs b bs h j),
          (
            (λ h j. minus-value (suc n) gs b bs h j),
            (
              (λ h j. true-value (suc n) gs b bs h j),
              (
                (λ h j. false-value (suc n) gs b bs h j),
                (
                  (λ h j. null-value (suc n) gs b bs h j),
                  (
                    (λ h j. zero-value (suc n) gs b bs h j),
                    (
                      (λ h j. digit_value (suc n) gs b bs h j),
                      (
                        (λ h j. on (omega arith) (array-read k n gs bs (omega arith) j) (λ r w. after R.Blanks.none (R.Value.array h w))),
                        (
                          (λ h j. on (omega arith) (object-read k n gs bs (omega arith) j)
                              (λ r w. after R.Blanks.none (R.Value.object h w))),
                          tt,
                        ),
                      ),
                    ),
                  ),
                ),
              ),
            ),
          ),
        ),
      ) m

  array-read : (k n : ℕ) (gs : List Part) (a : List ℕ) → 2 * length a + 1 ≤ k → Made (at items n ∷ gs) a → Left (R.Array n) gs a
  array-read zero n gs a l m = absurd (omega arith)
  array-read (suc k) n gs a l m =
      first-case n gs (λ x. 2 * length x + 1 ≤ suc k → Left (R.Array n) gs x)
      (λ b bs h j q. on (omega arith) (array-read k n gs bs (omega arith) j) (λ r w. blank-array h w))
      (λ b bs h j q. record { rest = bs; is = R.Array.no_item R.Blanks.none h; made = j; shorter = omega arith })
      (λ x j q.
      let v = value_read k n (at more_items n ∷ gs) x (omega arith) j in
      on (omega (arith, v.shorter)) (items-read k n gs v.rest (omega (arith, v.shorter)) v.made) (λ r w. items-array v.is w))
      a (first_read n gs a m) l

  items-read : (k n : ℕ) (gs : List Part) (a : List ℕ) → 2 * length a ≤ k → Made (at more_items n ∷ gs) a → Left (R.Items n) gs a
  items-read zero n gs [] l m = absurd (not-begun (at more_items n) gs refl m)
  items-read zero n gs (b ∷ bs) l m = absurd (omega arith)
  items-read (suc k) n gs [] l m = absurd (not-begun (at more_items n) gs refl m)
  items-read (suc k) n gs (b ∷ bs) l m =
      by-rule (at more_items n) gs b bs (Left (R.Items n) gs (b ∷ bs)) refl (
        (λ h j. on (omega arith) (items-read k n gs bs (omega arith) j) (λ r w. blank-items h w)),
        (
          (λ h j.
              let v = value_read k n (at more_items n ∷ gs) bs (omega arith) j in
              on (omega (arith, v.shorter)) (items-read k n gs v.rest (omega (arith, v.shorter)) v.made)
              (λ r w. comma-items h v.is w)),
          (
            (λ h j. record { rest = bs; is = R.Items.last_item R.Blanks.none h; made = j; shorter = omega arith }),
            tt,
          ),
        ),
      ) m

  object-read : (k n : ℕ) (gs : List Part) (a : List ℕ) → 2 * length a ≤ k → Made (at members n ∷ gs) a → Left (R.Object n) gs a
  object-read zero n gs [] l m = absurd (not-begun (at members n) gs refl m)
  object-read zero n gs (b ∷ bs) l m = absurd (omega arith)
  object-read (suc k) n gs [] l m = absurd (not-begun (at members n) gs refl m)
  object-read (suc k) n gs (b ∷ bs) l m =
      by-rule (at members n) gs b bs (Left (R.Object n) gs (b ∷ bs)) refl (
        (λ h j. on (omega arith) (object-read k n gs bs (omega arith) j) (λ r w. blank-object h w)),
        (
          (λ h j. record { rest = bs; is = R.Object.no_member R.Blanks.none h; made = j; shorter = omega arith }),
          (
            (λ h j.
                let v = named-read k n gs b h bs (omega arith) j in
                on (omega (arith, v.shorter)) (members-read k n gs v.rest (omega (arith, v.shorter)) v.made)
                (λ r w. R.Object.members v.is w)),
            tt,
          ),
        ),
      ) m

  -- after a name's quote
  named-read : (k n : ℕ) (gs : List Part) (q : ℕ) → In q (these "\"") → (a : List ℕ) → 2 * length a + 1 ≤ k
      → Made (chars ∷ colon ∷ at value n ∷ at more_members n ∷ gs) a → Left (λ x y. R.Member n (q ∷ x) y) (at more_members n ∷ gs) a
  named-read zero n gs q h a l m = absurd (omega arith)
  named-read (suc k) n gs q h a l m =
      let c = chars-read (length a) (colon ∷ at value n ∷ at more_members n ∷ gs) a (omega arith) m in
      let d = colon-read (at value n ∷ at more_members n ∷ gs) c.rest c.made in
      on (omega (arith, c.shorter, d.shorter))
      (value_read k n (at more_members n ∷ gs) d.rest (omega (arith, c.shorter, d.shorter)) d.made)
      (λ r w. named-member h c.is d.is w)

  member-read : (k n : ℕ) (gs : List Part) (a : List ℕ) → 2 * length a ≤ k → Made (at member n ∷ gs) a
      → Left (R.Member n) (at more_members n ∷ gs) a
  member-read zero n gs [] l m = absurd (not-begun (at member n) gs refl m)
  member-read zero n gs (b ∷ bs) l m = absurd (omega arith)
  member-read (suc k) n gs [] l m = absurd (not-begun (at member n) gs refl m)
  member-read (suc k) n gs (b ∷ bs) l m =
      by-rule (at member n) gs b bs (Left (R.Member n) (at more_members n ∷ gs) (b ∷ bs)) refl (
        (λ h j. on (omega arith) (member-read k n gs bs (omega arith) j) (λ r w. blank-member h w)),
        (
          (λ h j. on (omega arith) (named-read k n gs b h bs (omega arith) j) (λ r w. w)),
          tt,
        ),
      ) m

  members-read : (k n : ℕ) (gs : List Part) (a : List ℕ) → 2 * length a ≤ k → Made (at more_members n ∷ gs) a → Left (R.Members n) gs a
  members-read zero n gs [] l m = absurd (not-begun (at more_members n) gs refl m)
  members-read zero n gs (b ∷ bs) l m = absurd (omega arith)
  members-read (suc k) n gs [] l m = absurd (not-begun (at more_members n) gs refl m)
  members-read (suc k) n gs (b ∷ bs) l m =
      by-rule (at more_members n) gs b bs (Left (R.Members n) gs (b ∷ bs)) refl (
        (λ h j. on (omega arith) (members-read k n gs bs (omega arith) j) (λ r w. blank-members h w)),
        (
          (λ h j.
              let v = member-read k n gs bs (omega arith) j in
              on (omega (arith, v.shorter)) (members-read k n gs v.rest (omega (arith, v.shorter)) v.made)
              (λ r w. R.Members.more_member R.Blanks.none h v.is w)),
          (
            (λ h j. record { rest = bs; is = R.Members.last_member R.Blanks.none h; made = j; shorter = omega arith }),
            tt,
          ),
        ),
      ) m

-- ---- the whole text

blank-around : {n b : ℕ} {a : List ℕ} → In b blank → R.OneObject n a → R.OneObject n (b ∷ a)
blank-around h (R.OneObject.around w c o x) = R.OneObject.around (R.Blanks.more h w) c o x

pub made-generated : (n : ℕ) (a : List ℕ) → Made (at object n ∷ []) a → R.OneObject n a
unfolding rules optional
made-generated n [] m = absurd (not-begun (at object n) [] refl m)
made-generated n (b ∷ bs) m =
    by-rule (at object n) [] b bs (R.OneObject n (b ∷ bs)) refl (
      (λ h k. blank-around h (made-generated n bs k)),
      (
        (λ h k.
            let v = object-read (2 * length bs) n [] bs (omega arith) k in
            R.OneObject.around R.Blanks.none h v.is (end_read v.rest v.made)),
        tt,
      ),
    ) m
