-- Numbers from a byte on: digits passed over, a digit that is due, and how what is left after a number follows from its parts.
use Rattle.std.specs.Prelude.{◌≡◌, ℕ, ◌+◌, ◌<◌, ◌≤◌, Bool, true, false, List, [], ◌∷◌, ◌++◌, length, drop, ◌≢◌, nat_le, slice_index, slice_index_or, refl, Ok, Err, IfOk, if◌then◌else◌, None, Some}
use Rattle.std.proofs.Common.{sym, ap, subst, ◌∙◌, leb-true, leb-false}
use native.Mathlib.Omega.{arith}
use Rattle.paper.specs.Grammar.{Bytes, Part, Spot, Digits, Rule, among, digit, these, ends, optional, rules, fraction, power}
use Rattle.paper.specs.Grammar.{one, number, at, unsigned, after_zero, after_digit, after_fraction, after_e}
use Rattle.paper.specs.Grammar.{after_exponent}
use Rattle.paper.specs.Machine.{given, chosen, settled, move, step, complete}
use Rattle.paper.specs.JsonRead.{token_of}
use Rattle.json_text.specs.declared.Fault.{Fault}
use Rattle.json_text.specs.Left.{left, Ended, fault_at, byte_of, reached, left_end, left-stops, left-byte, left-settled}
use Rattle.json_text.specs.Bytes.{in-range, not_byte}
use Rattle.json_text.specs.Kinds.{digit-from, digit-to, digit_not}

-- ---- bytes passed over

-- a byte moves the parts on, and no token begins with it
pub record Moves (gs : List Part) (b : ℕ) (hs : List Part) : Type 0 where
  pub goes : step gs b ≡ Some hs
  pub quiet : (i : ℕ) (bs : List ℕ) → token_of (settled gs b) i b bs ≡ []

pub moved-left : (s : List ℕ) (gs hs : List Part) (i : ℕ) → i < length s → Moves gs (slice_index s i) hs → left s gs i ≡ left s hs (i + 1)
moved-left s gs hs i h m = left-byte s gs i h hs m.goes (m.quiet (i + 1) (drop (i + 1) s))

-- such bytes leave the parts as they are
abbrev pub Stays : Bytes → List Part → Type 0
Stays c gs = (b : ℕ) → among c b ≡ true → Moves gs b gs

-- from byte i to byte r there are such bytes alone, and at r there is none
pub record PassedOver (c : Bytes) (s : List ℕ) (i r : ℕ) : Type 0 where
  pub within : r ≤ length s
  pub onward : i ≤ r
  pub over : (gs : List Part) → Stays c gs → left s gs i ≡ left s gs r
  pub other : r < length s → among c (slice_index s r) ≡ false

-- on the way
pub record Passing (c : Bytes) (s : List ℕ) (i r : ℕ) : Type 0 where
  pub within : r ≤ length s
  pub onward : i ≤ r
  pub over : (gs : List Part) → Stays c gs → left s gs i ≡ left s gs r

module _ (c : Bytes) (s : List ℕ) (i : ℕ) where
  pub passing : i ≤ length s → Passing c s i i
  passing h = record { within = h; onward = omega arith; over = λ gs t. refl }

  module _ (r : ℕ) (p : Passing c s i r) where
    pub passed-end : length s ≤ r → PassedOver c s i (length s)
    passed-end h = let e : r ≡ length s = omega (arith, p.within) in
        subst (λ (n : ℕ). PassedOver c s i n) e
        (record { within = p.within; onward = p.onward; over = p.over; other = λ j. absurd (omega arith) })

    module _ (h : r < length s) where
      pub passed-other : among c (slice_index s r) ≡ false → PassedOver c s i r
      passed-other e = record { within = p.within; onward = p.onward; over = p.over; other = λ j. e }

      pub passed_on : among c (slice_index s r) ≡ true → Passing c s i (r + 1)
      passed_on e =
          record {
            within = omega arith;
            onward = omega (arith, p.onward);
            over = λ gs t. p.over gs t ∙ moved-left s gs gs r h (t (slice_index s r) e);
          }

-- a test tells the bytes c
abbrev pub Tells : (ℕ → Bool → Type 0) → Bytes → Type 0
Tells post c = (b : ℕ) (r : Bool) → post b r → r ≡ among c b

-- ---- a digit that is due

-- a digit moves gs on to hs; at byte i no other byte goes on
pub record DigitDue (s : List ℕ) (i : ℕ) (gs hs : List Part) : Type 0 where
  pub missing : complete gs ≡ false
  pub by-digit : (b : ℕ) → among digit b ≡ true → Moves gs b hs
  pub by-other : i < length s → among digit (slice_index s i) ≡ false → step gs (slice_index s i) ≡ None

-- a digit and more from byte i on end so, and no digit follows
pub record DigitsRead (s : List ℕ) (i : ℕ) (e : Ended) : Type 0 where
  pub within : byte_of e ≤ length s
  pub onward : i ≤ byte_of e
  pub goes : (gs hs : List Part) → DigitDue s i gs hs → Stays digit hs → left s gs i ≡ reached s hs e
  pub other : IfOk e (λ j. j < length s → among digit (slice_index s j) ≡ false)

module _ (s : List ℕ) (i : ℕ) where
  pub digits-missing : i ≤ length s → length s ≤ i → DigitsRead s i (fault_at i)
  digits-missing h j =
      record {
        within = h;
        onward = omega arith;
        goes = λ gs hs d t. left_end s gs i j d.missing;
        other = tt;
      }

  module _ (h : i < length s) where
    pub digits-none : among digit (slice_index s i) ≡ false → DigitsRead s i (fault_at i)
    digits-none n =
        record {
          within = omega arith;
          onward = omega arith;
          goes = λ gs hs d t. left-stops s gs i h (d.by-other h n);
          other = tt;
        }

    pub digits-some : among digit (slice_index s i) ≡ true → (r : ℕ) → PassedOver digit s (i + 1) r → DigitsRead s i (Ok r)
    digits-some y r p =
        record {
          within = p.within;
          onward = omega (arith, p.onward);
          goes = λ gs hs d t. moved-left s gs hs i h (d.by-digit (slice_index s i) y) ∙ p.over hs t;
          other = p.other;
        }

-- ---- a number's parts

number-stays : (d : Digits) (gs ps : List Part) (b : ℕ) → chosen (rules (number d)) b ≡ Some ps → settled (number d ∷ gs) b ≡ number d ∷ gs
unfolding settled optional
number-stays d gs ps b e = by_end (ends d)
  where
    by_end : (t : Bool) → (if t then given (chosen (rules (number d)) b) gs (λ qs. number d ∷ gs) else number d ∷ gs) ≡ number d ∷ gs
    by_end true = rw e
    by_end false = refl

number-move : (d : Digits) (gs ps : List Part) (b : ℕ) → chosen (rules (number d)) b ≡ Some ps → move (number d ∷ gs) b ≡ Some (ps ++ gs)
unfolding move
number-move d gs ps b e = rw e

number-quiet : (d : Digits) (gs : List Part) (i b : ℕ) (bs : List ℕ) → token_of (number d ∷ gs) i b bs ≡ []
unfolding token_of
number-quiet d gs i b bs = refl

-- a byte that goes on with the number
pub number-moves : (d : Digits) (gs ps : List Part) (b : ℕ) → chosen (rules (number d)) b ≡ Some ps → Moves (number d ∷ gs) b (ps ++ gs)
number-moves d gs ps b e = record { goes = moves e; quiet = λ i bs. silent i bs }
  where
    stays : settled (number d ∷ gs) b ≡ number d ∷ gs
    stays = number-stays d gs ps b e

    moves : chosen (rules (number d)) b ≡ Some ps → step (number d ∷ gs) b ≡ Some (ps ++ gs)
    moves q = ap (λ (l : List Part). move l b) stays ∙ number-move d gs ps b q

    silent : (i : ℕ) (bs : List ℕ) → token_of (settled (number d ∷ gs) b) i b bs ≡ []
    silent i bs = ap (λ (l : List Part). token_of l i b bs) stays ∙ number-quiet d gs i b bs

-- the number d from byte i on ends so, before what stands at a spot
pub record NumberEnds (s : List ℕ) (d : Digits) (i : ℕ) (e : Ended) : Type 0 where
  pub within : byte_of e ≤ length s
  pub onward : i ≤ byte_of e
  pub goes : (p : Spot) (n : ℕ) (gs : List Part) → left s (number d ∷ at p n ∷ gs) i ≡ reached s (at p n ∷ gs) e

-- at byte i it can go on by these rules alone, and can end
pub record GoesBy (rs : List Rule) (s : List ℕ) (i : ℕ) (d : Digits) : Type 0 where
  pub can-end : ends d ≡ true
  pub by : i < length s → chosen (rules (number d)) (slice_index s i) ≡ chosen rs (slice_index s i)

abbrev pub Powered : List ℕ → ℕ → Digits → Type 0
Powered s i d = GoesBy (power ∷ []) s i d

abbrev pub Fractioned : List ℕ → ℕ → Digits → Type 0
Fractioned s i d = GoesBy (fraction ∷ power ∷ []) s i d

-- it is over before a byte that does not go on with it, and at the text's end
over-settled : (d : Digits) (p : Spot) (n : ℕ) (gs : List Part) (b : ℕ) → ends d ≡ true → chosen (rules (number d)) b ≡ None
    → settled (number d ∷ at p n ∷ gs) b ≡ settled (at p n ∷ gs) b
unfolding settled optional
over-settled d p n gs b e c = rw (e, c) refl

module _ (s : List ℕ) (i : ℕ) (d : Digits) (e : ends d ≡ true) where
  pub number-over : (p : Spot) (n : ℕ) (gs : List Part) → (i < length s → chosen (rules (number d)) (slice_index s i) ≡ None)
      → left s (number d ∷ at p n ∷ gs) i ≡ left s (at p n ∷ gs) i
  number-over p n gs c = by-test (nat_le (length s) i) refl
    where
      by-test : (t : Bool) → nat_le (length s) i ≡ t → left s (number d ∷ at p n ∷ gs) i ≡ left s (at p n ∷ gs) i
      by-test true h =
          let k : length s ≤ i = leb-true (length s) i h in
          left_end s (number d ∷ at p n ∷ gs) i k refl ∙ sym (left_end s (at p n ∷ gs) i k refl)
      by-test false h =
          let k : i < length s = leb-false (length s) i h in
          left-settled s (number d ∷ at p n ∷ gs) (at p n ∷ gs) i k (over-settled d p n gs (slice_index s i) e (c k))

  pub number-done : i ≤ length s → (i < length s → chosen (rules (number d)) (slice_index s i) ≡ None) → NumberEnds s d i (Ok i)
  number-done h c = record { within = h; onward = omega arith; goes = λ p n gs. number-over p n gs c }

-- ---- an exponent

none-among : (b : ℕ) → among [] b ≡ false
unfolding among
none-among b = refl

unsigned-none : (b : ℕ) (gs : List Part) → among digit b ≡ false → step (number unsigned ∷ gs) b ≡ None
unfolding settled optional ends move rules chosen
unsigned-none b gs n = rw (digit_not b n 48 48 (omega arith) (omega arith), digit_not b n 0x31 0x39 (omega arith) (omega arith)) refl

digit-no-sign : (b : ℕ) → among digit b ≡ true → among (these "+-") b ≡ false
digit-no-sign b e =
    let l : 48 ≤ b = digit-from b e in
    not_byte 43 b ((45, 45) ∷ []) (λ q. omega arith) ∙ not_byte 45 b [] (λ q. omega arith) ∙ none-among b

abbrev pub e_e : Bytes
e_e = these "eE"

abbrev pub signs : Bytes
signs = these "+-"

power-none : (b : ℕ) → among e_e b ≡ false → chosen (power ∷ []) b ≡ None
unfolding chosen
power-none b e = rw e refl

power-some : (b : ℕ) → among e_e b ≡ true → chosen (power ∷ []) b ≡ Some (number after_e ∷ [])
unfolding chosen
power-some b e = rw e refl

digit-stays : (d : Digits) (gs : List Part) → ((b : ℕ) → among digit b ≡ true → chosen (rules (number d)) b ≡ Some (number d ∷ []))
    → Stays digit (number d ∷ gs)
digit-stays d gs f b e = number-moves d gs (number d ∷ []) b (f b e)

exponent-stays : (gs : List Part) → Stays digit (number after_exponent ∷ gs)
unfolding rules chosen
exponent-stays gs = digit-stays after_exponent gs (λ b e. rw e refl)

fraction-stays : (gs : List Part) → Stays digit (number after_fraction ∷ gs)
unfolding rules chosen
fraction-stays gs = digit-stays after_fraction gs (λ b e. rw e refl)

digits-stay : (gs : List Part) → Stays digit (number after_digit ∷ gs)
unfolding rules chosen
digits-stay gs = digit-stays after_digit gs (λ b e. rw e refl)

-- after the e, from byte i on
pub record PowerRead (s : List ℕ) (i : ℕ) (e : Ended) : Type 0 where
  pub within : byte_of e ≤ length s
  pub onward : i ≤ byte_of e
  pub goes : (gs : List Part) → left s (number after_e ∷ gs) i ≡ reached s (number after_exponent ∷ gs) e
  pub other : IfOk e (λ j. j < length s → among digit (slice_index s j) ≡ false)

one-due : (s : List ℕ) (i : ℕ) (gs : List Part) → DigitDue s i (one digit ∷ gs) gs
unfolding settled optional move rules chosen token_of
one-due s i gs =
    record {
      missing = refl;
      by-digit = λ b e. record { goes = rw e refl; quiet = λ j bs. refl };
      by-other = λ h e. rw e refl;
    }

e-due : (s : List ℕ) (i : ℕ) (gs : List Part) → (i < length s → among signs (slice_index s i) ≡ false)
    → DigitDue s i (number after_e ∷ gs) (number after_exponent ∷ gs)
unfolding settled optional ends move rules chosen
e-due s i gs n =
    record {
      missing = refl;
      by-digit = λ b e. number-moves after_e gs (number after_exponent ∷ []) b (rw (digit-no-sign b e, e) refl);
      by-other = λ h e. rw (n h, e) refl;
    }

module _ (s : List ℕ) (i : ℕ) where
  module _ (h : i < length s) where
    sign-moves : among signs (slice_index s i) ≡ true → (gs : List Part)
        → Moves (number after_e ∷ gs) (slice_index s i) (one digit ∷ number after_exponent ∷ gs)
    unfolding rules chosen
    sign-moves y gs = number-moves after_e gs (one digit ∷ number after_exponent ∷ []) (slice_index s i) (rw y refl)

    pub power-signed : among signs (slice_index s i) ≡ true → (e : Ended) → DigitsRead s (i + 1) e → PowerRead s i e
    power-signed y e r =
        record {
          within = r.within;
          onward = omega (arith, r.onward);
          goes = λ gs.
              moved-left s (number after_e ∷ gs) (one digit ∷ number after_exponent ∷ gs) i h (sign-moves y gs)
              ∙ r.goes (one digit ∷ number after_exponent ∷ gs) (number after_exponent ∷ gs)
              (one-due s (i + 1) (number after_exponent ∷ gs)) (exponent-stays gs);
          other = r.other;
        }

  pub power-plain : (i < length s → among signs (slice_index s i) ≡ false) → (e : Ended) → DigitsRead s i e → PowerRead s i e
  power-plain n e r =
      record {
        within = r.within;
        onward = r.onward;
        goes = λ gs. r.goes (number after_e ∷ gs) (number after_exponent ∷ gs) (e-due s i gs n) (exponent-stays gs);
        other = r.other;
      }

-- an exponent that was read ends the number
exponent-over : (s : List ℕ) (i : ℕ) (e : Ended) → PowerRead s i e → (p : Spot) (n : ℕ) (gs : List Part)
    → reached s (number after_exponent ∷ at p n ∷ gs) e ≡ reached s (at p n ∷ gs) e
unfolding rules chosen ends
exponent-over s i (Ok j) r p n gs = number-over s j after_exponent refl p n gs (λ h. rw (r.other h) refl)
exponent-over s i (Err f) r p n gs = refl

module _ (s : List ℕ) (i : ℕ) (d : Digits) (g : Powered s i d) where
  pub no-power-end : i ≤ length s → length s ≤ i → NumberEnds s d i (Ok i)
  no-power-end h j = number-done s i d g.can-end h (λ k. absurd (omega arith))

  module _ (h : i < length s) where
    pub no_power : among e_e (slice_index s i) ≡ false → NumberEnds s d i (Ok i)
    no_power n = number-done s i d g.can-end (omega arith) (λ k. g.by k ∙ power-none (slice_index s i) n)

    pub with-power : among e_e (slice_index s i) ≡ true → (e : Ended) → PowerRead s (i + 1) e → NumberEnds s d i e
    with-power y e r =
        record {
          within = r.within;
          onward = omega (arith, r.onward);
          goes = λ p n gs.
              moved-left s (number d ∷ at p n ∷ gs) (number after_e ∷ at p n ∷ gs) i h
              (number-moves d (at p n ∷ gs) (number after_e ∷ []) (slice_index s i) (g.by h ∙ power-some (slice_index s i) y))
              ∙ (r.goes (at p n ∷ gs) ∙ exponent-over s (i + 1) e r p n gs);
        }

-- ---- a fraction

no-point : (b : ℕ) → (b ≢ 46) → chosen (fraction ∷ power ∷ []) b ≡ chosen (power ∷ []) b
unfolding chosen
no-point b n = let e : among ((46, 46) ∷ []) b ≡ among [] b = not_byte 46 b [] n in rw (e ∙ none-among b) refl

a_point : (b : ℕ) → b ≡ 46 → chosen (fraction ∷ power ∷ []) b ≡ Some (one digit ∷ number after_fraction ∷ [])
unfolding chosen among
a_point b e = rw e refl

fraction-powered : (s : List ℕ) (i : ℕ) → (i < length s → among digit (slice_index s i) ≡ false) → Powered s i after_fraction
unfolding rules chosen ends
fraction-powered s i n = record { can-end = refl; by = λ h. rw (n h) refl }

module _ (s : List ℕ) (i : ℕ) (d : Digits) (g : Fractioned s i d) where
  pub fraction-none : (i < length s → slice_index s i ≢ 46) → Powered s i d
  fraction-none n = record { can-end = g.can-end; by = λ h. g.by h ∙ no-point (slice_index s i) (n h) }

  module _ (h : i < length s) (y : slice_index_or s i 0 ≡ 46) where
    to-fraction : (e : Ended) → DigitsRead s (i + 1) e → (p : Spot) (n : ℕ) (gs : List Part)
        → left s (number d ∷ at p n ∷ gs) i ≡ reached s (number after_fraction ∷ at p n ∷ gs) e
    to-fraction e r p n gs =
        moved-left s (number d ∷ at p n ∷ gs) (one digit ∷ number after_fraction ∷ at p n ∷ gs) i h
        (number-moves d (at p n ∷ gs) (one digit ∷ number after_fraction ∷ []) (slice_index s i) (g.by h ∙ a_point (slice_index s i) y))
        ∙ r.goes (one digit ∷ number after_fraction ∷ at p n ∷ gs) (number after_fraction ∷ at p n ∷ gs)
        (one-due s (i + 1) (number after_fraction ∷ at p n ∷ gs)) (fraction-stays (at p n ∷ gs))

    pub fraction-stops : (f : Fault) → DigitsRead s (i + 1) (Err f) → NumberEnds s d i (Err f)
    fraction-stops f r =
        record { within = r.within; onward = omega (arith, r.onward); goes = λ p n gs. to-fraction (Err f) r p n gs }

    pub fraction-then : (j : ℕ) → DigitsRead s (i + 1) (Ok j) → (f : Ended) → ((x : Digits) → Powered s j x → NumberEnds s x j f)
        → NumberEnds s d i f
    fraction-then j r f m =
        let v : NumberEnds s after_fraction j f = m after_fraction (fraction-powered s j r.other) in
        record {
          within = v.within;
          onward = omega (arith, r.onward, v.onward);
          goes = λ p n gs. to-fraction (Ok j) r p n gs ∙ v.goes p n gs;
        }

-- ---- the whole number, by its first digit

pub zero-fractioned : (s : List ℕ) (i : ℕ) → Fractioned s i after_zero
unfolding rules ends
zero-fractioned s i = record { can-end = refl; by = λ h. refl }

digit-fractioned : (s : List ℕ) (i : ℕ) → (i < length s → among digit (slice_index s i) ≡ false) → Fractioned s i after_digit
unfolding rules chosen ends
digit-fractioned s i n = record { can-end = refl; by = λ h. rw (n h) refl }

pub digits-then : (s : List ℕ) (i r : ℕ) (e : Ended) → PassedOver digit s i r → ((d : Digits) → Fractioned s r d → NumberEnds s d r e)
    → NumberEnds s after_digit i e
digits-then s i r e p m =
    let v : NumberEnds s after_digit r e = m after_digit (digit-fractioned s r p.other) in
    record {
      within = v.within;
      onward = omega (arith, p.onward, v.onward);
      goes = λ q n gs. p.over (number after_digit ∷ at q n ∷ gs) (digits-stay (at q n ∷ gs)) ∙ v.goes q n gs;
    }

module _ (s : List ℕ) (i : ℕ) where
  pub minus-missing : i ≤ length s → length s ≤ i → NumberEnds s unsigned i (fault_at i)
  minus-missing h j = record { within = h; onward = omega arith; goes = λ p n gs. left_end s (number unsigned ∷ at p n ∷ gs) i j refl }

  module _ (h : i < length s) where
    first-moves : (d : Digits) (e : Ended) → chosen (rules (number unsigned)) (slice_index s i) ≡ Some (number d ∷ [])
        → NumberEnds s d (i + 1) e → NumberEnds s unsigned i e
    first-moves d e q v =
        record {
          within = v.within;
          onward = omega (arith, v.onward);
          goes = λ p n gs.
              moved-left s (number unsigned ∷ at p n ∷ gs) (number d ∷ at p n ∷ gs) i h
              (number-moves unsigned (at p n ∷ gs) (number d ∷ []) (slice_index s i) q)
              ∙ v.goes p n gs;
        }

    pub minus-zero : slice_index_or s i 0 ≡ 48 → (e : Ended) → NumberEnds s after_zero (i + 1) e → NumberEnds s unsigned i e
    unfolding rules chosen among
    minus-zero y e v = first-moves after_zero e (rw y refl) v

    pub minus-digit : (slice_index s i ≢ 48) → among digit (slice_index s i) ≡ true → (e : Ended) → NumberEnds s after_digit (i + 1) e
        → NumberEnds s unsigned i e
    unfolding rules chosen
    minus-digit n y e v =
        let l : 48 ≤ slice_index_or s i 0 = digit-from (slice_index s i) y in
        let u : slice_index_or s i 0 ≤ 57 = digit-to (slice_index s i) y in
        let k : 49 ≤ slice_index_or s i 0 = above 48 (slice_index s i) l n in
        first-moves after_digit e (rw (
          not_byte 48 (slice_index s i) [] n
              ∙ none-among (slice_index s i),
          in-range 0x31 0x39 (slice_index s i) [] k u,
        ) refl) v
      where
        above : (a b : ℕ) → a ≤ b → (b ≢ a) → a + 1 ≤ b
        above a b p q = omega arith

    pub minus-none : among digit (slice_index s i) ≡ false → NumberEnds s unsigned i (fault_at i)
    minus-none n = record {
      within = omega arith;
      onward = omega arith;
      goes = λ p m gs. left-stops s (number unsigned ∷ at p m ∷ gs) i h
          (none-goes p m gs);
    }
      where
        none-goes : (p : Spot) (m : ℕ) (gs : List Part) → step (number unsigned ∷ at p m ∷ gs) (slice_index s i) ≡ None
        none-goes p m gs = unsigned-none (slice_index s i) (at p m ∷ gs) n
