-- The rest of what a byte began, and where blanks may stand.
use Rattle.std.specs.Prelude.{ℕ, zero, suc, ◌+◌, ◌≤◌, ◌<◌, ◌≡◌, true, length, get_or, Ok, Err, None, Some}
use Rattle.std.proofs.Math.Path.{refl}
use Rattle.std.proofs.Common.{sym, ap, ◌∙◌, subst, arith}
use mathlib.Core.List.{List, [], ◌∷◌, ◌++◌}
use Rattle.paper.specs.Numbers.{text}
use Rattle.paper.specs.Grammar.{Part, Spot, Digits, among, blank, these, optional, rules, chars, colon, number, at, word, unsigned}
use Rattle.paper.specs.Grammar.{after_zero, after_digit}
use Rattle.paper.specs.Grammar.{value, items, more_items, object, members, member, more_members}
use Rattle.paper.specs.Machine.{chosen, settled, move, step}
use Rattle.paper.specs.JsonRead.{token_of}
use Rattle.json_text.specs.declared.Fault.{Fault}
use Rattle.json_text.specs.Words.{letters}
use Rattle.json_text.specs.Bytes.{not_byte}
use Rattle.json_levels.specs.Tokens.{among-more, among_none}
use Rattle.json_text.specs.Left.{Ended, fault_at, byte_of, left, reached, Ends, left_end, left-stops}
use Rattle.json_text.specs.Numbers.{Moves, moved-left, Stays, PassedOver, NumberEnds}
use Rattle.json_levels.specs.declared.Begun.{Begun}
use Rattle.json_levels.specs.declared.Begun.TheVariants.{Nothing, Comma, Bracket, Name, Text, Minus, Zero, Digit, True, False, Null}
use Rattle.json_levels.specs.declared.Next.{Next}
use Rattle.json_levels.specs.declared.Next.TheVariants.{Object, First, More, Value, Member}
use Rattle.json_levels.specs.Parts.{first_of, inside, more, around, parts_at, head_of, AtSpot, Behind}

-- what was begun ends so, before what is behind it
pub record BegunEnds (s : List ℕ) (g : Begun) (i : ℕ) (e : Ended) : Type 0 where
  pub within : byte_of e ≤ length s
  pub onward : i ≤ byte_of e
  pub goes : (gs : List Part) → Behind g gs → left s (head_of g ++ gs) i ≡ reached s gs e

-- ---- blanks

blank-at : (p : Spot) (n b : ℕ) → among blank b ≡ true → chosen (rules (at p n)) b ≡ Some (at p n ∷ [])
unfolding rules chosen
blank-at value n b e = rw e
blank-at items n b e = rw e
blank-at more_items n b e = rw e
blank-at object n b e = rw e
blank-at members n b e = rw e
blank-at member n b e = rw e
blank-at more_members n b e = rw e

-- a blank is no token's first byte
blank-comma : (b : ℕ) → among blank b ≡ true → among (these " \t\n\r,") b ≡ true
blank-comma b e = among-more blank ((44, 44) ∷ []) b ∙ rw e refl

pub spot_stays : (p : Spot) (n : ℕ) (gs : List Part) → Stays blank (at p n ∷ gs)
unfolding settled optional move token_of
spot_stays p n gs b e = record { goes = rw (blank-at p n b e) refl; quiet = λ i bs. rw (blank-comma b e) refl }

pub end_stays : Stays blank []
unfolding settled move token_of
end_stays b e = record { goes = rw e refl; quiet = λ i bs. refl }

colon-stays : (gs : List Part) → Stays blank (colon ∷ gs)
unfolding settled optional move rules chosen token_of
colon-stays gs b e = record { goes = rw e refl; quiet = λ i bs. refl }

more_stays : (d c : ℕ) → Stays blank (more d c)
unfolding more
more_stays zero c = end_stays
more_stays (suc d) c = spot_stays _ _ _

pub parts_stay : (x : Next) (d c : ℕ) → Stays blank (parts_at x d c)
parts_stay Object d c = spot_stays object _ []
parts_stay First d c = spot_stays (first_of c) (inside d) (around d c)
parts_stay More d c = more_stays d c
parts_stay Value d c = spot_stays value (inside d) (more d c)
parts_stay Member d c = spot_stays member (inside d) (around d c)

-- ---- a colon

module _ (s : List ℕ) (i j : ℕ) (p : PassedOver blank s i j) where
  to-colon : (gs : List Part) → left s (colon ∷ gs) i ≡ left s (colon ∷ gs) j
  to-colon gs = p.over (colon ∷ gs) (colon-stays gs)

  pub colon-missing : length s ≤ j → Ends s (colon ∷ []) i (fault_at j)
  colon-missing h =
      record { within = p.within; onward = p.onward; goes = λ gs. to-colon gs ∙ left_end s (colon ∷ gs) j h refl }

  module _ (h : j < length s) where
    colon-none : (get_or s j 0 ≡ 58 → ⊥) → (gs : List Part) → step (colon ∷ gs) (get_or s j 0) ≡ None
    unfolding settled optional move rules chosen
    colon-none n gs = rw (p.other h, not_byte 58 (get_or s j 0) [] n ∙ among_none (get_or s j 0)) refl

    pub colon-other : (get_or s j 0 ≡ 58 → ⊥) → Ends s (colon ∷ []) i (fault_at j)
    colon-other n =
        record {
          within = p.within;
          onward = p.onward;
          goes = λ gs. to-colon gs ∙ left-stops s (colon ∷ gs) j h (colon-none n gs);
        }

    colon-moves : get_or s j 0 ≡ 58 → (gs : List Part) → Moves (colon ∷ gs) (get_or s j 0) gs
    unfolding settled optional move rules chosen among token_of
    colon-moves e gs = record { goes = rw e refl; quiet = λ k bs. refl }

    pub colon-there : get_or s j 0 ≡ 58 → Ends s (colon ∷ []) i (Ok (j + 1))
    colon-there e =
        record {
          within = omega arith;
          onward = omega (arith, p.onward);
          goes = λ gs. to-colon gs ∙ moved-left s (colon ∷ gs) gs j h (colon-moves e gs);
        }

-- ---- a name

module _ (s : List ℕ) (i : ℕ) where
  pub name-stops : (f : Fault) → Ends s (chars ∷ []) i (Err f) → Ends s (chars ∷ colon ∷ []) i (Err f)
  name-stops f v = record { within = v.within; onward = v.onward; goes = λ gs. v.goes (colon ∷ gs) }

  pub name-then : (j : ℕ) (e : Ended) → Ends s (chars ∷ []) i (Ok j) → Ends s (colon ∷ []) j e → Ends s (chars ∷ colon ∷ []) i e
  name-then j e v w =
      record {
        within = w.within;
        onward = omega (arith, v.onward, w.onward);
        goes = λ gs. v.goes (colon ∷ gs) ∙ w.goes gs;
      }

-- ---- each by what was begun

pub nothing-more : (s : List ℕ) (g : Begun) (i : ℕ) → i ≤ length s → head_of g ≡ [] → BegunEnds s g i (Ok i)
nothing-more s g i h e =
    record { within = h; onward = omega arith; goes = λ gs b. ap (λ (l : List Part). left s (l ++ gs) i) e }

pub parts_more : (s : List ℕ) (g : Begun) (i : ℕ) (e : Ended) (ps : List Part) → head_of g ≡ ps → Ends s ps i e → BegunEnds s g i e
parts_more s g i e ps q v =
    record { within = v.within; onward = v.onward; goes = λ gs b. ap (λ (l : List Part). left s (l ++ gs) i) q ∙ v.goes gs }

pub number_more : (s : List ℕ) (g : Begun) (i : ℕ) (e : Ended) (d : Digits) → head_of g ≡ number d ∷ []
    → ((gs : List Part) → Behind g gs → AtSpot gs)
    → NumberEnds s d i e → BegunEnds s g i e
number_more s g i e d q f v =
    record {
      within = v.within;
      onward = v.onward;
      goes = λ gs b.
          let a = f gs b in
          ap (λ (l : List Part). left s (l ++ gs) i) q
          ∙ (ap (λ (l : List Part). left s (number d ∷ l) i) a.whole
          ∙ (v.goes a.spot a.levels a.rest ∙ ap (λ (l : List Part). reached s l e) (sym a.whole)));
    }

pub begun-as : (s : List ℕ) (g h : Begun) (i : ℕ) (e : Ended) → g ≡ h → BegunEnds s h i e → BegunEnds s g i e
begun-as s g h i e q v = subst (λ (x : Begun). BegunEnds s x i e) (sym q) v

module _ (s : List ℕ) (i : ℕ) where
  pub after_nothing : i ≤ length s → BegunEnds s Nothing i (Ok i)
  unfolding head_of
  after_nothing h = nothing-more s Nothing i h refl

  pub after-comma : i ≤ length s → BegunEnds s Comma i (Ok i)
  unfolding head_of
  after-comma h = nothing-more s Comma i h refl

  pub after-bracket : i ≤ length s → BegunEnds s Bracket i (Ok i)
  unfolding head_of
  after-bracket h = nothing-more s Bracket i h refl

  module _ (e : Ended) where
    pub after-name : Ends s (chars ∷ colon ∷ []) i e → BegunEnds s Name i e
    unfolding head_of
    after-name v = parts_more s Name i e (chars ∷ colon ∷ []) refl v

    pub after_text : Ends s (chars ∷ []) i e → BegunEnds s Text i e
    unfolding head_of
    after_text v = parts_more s Text i e (chars ∷ []) refl v

    pub after-true : Ends s (letters (text "rue")) i e → BegunEnds s True i e
    unfolding head_of
    after-true v = parts_more s True i e (word "rue") refl v

    pub after-false : Ends s (letters (text "alse")) i e → BegunEnds s False i e
    unfolding head_of
    after-false v = parts_more s False i e (word "alse") refl v

    pub after-null : Ends s (letters (text "ull")) i e → BegunEnds s Null i e
    unfolding head_of
    after-null v = parts_more s Null i e (word "ull") refl v

    pub after_minus : NumberEnds s unsigned i e → BegunEnds s Minus i e
    unfolding head_of Behind
    after_minus v = number_more s Minus i e unsigned refl (λ gs b. b) v

    pub after-zero : NumberEnds s after_zero i e → BegunEnds s Zero i e
    unfolding head_of Behind
    after-zero v = number_more s Zero i e after_zero refl (λ gs b. b) v

    pub after-digit : NumberEnds s after_digit i e → BegunEnds s Digit i e
    unfolding head_of Behind
    after-digit v = number_more s Digit i e after_digit refl (λ gs b. b) v
