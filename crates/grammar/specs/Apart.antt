-- Choices of bytes that share none, and what follows for rules: where all choices of a list are apart, the rule that has a byte is the
-- chosen one.
use Rattle.std.specs.Prelude.{ℕ, ◌≤◌, ◌<◌, ◌≡◌, refl, Bool, true, false, ◌&&◌, ◌||◌, List, [], ◌∷◌, leb, ltb, None, Some}
use Rattle.std.proofs.Common.{arith, ltb-true, leb-true}
use Rattle.std.proofs.lemmas.Bool.{lt-leb}
use Rattle.paper.specs.Refusals.{between}
use Rattle.laws.specs.Tests.{and_left, and_right}
use Rattle.grammar.specs.Made.{OneOf, here, there}
use Rattle.paper.specs.Grammar.{Bytes, among, Rule}
use Rattle.paper.specs.Machine.{chosen}

-- two ranges, a range and a choice, two choices
abbrev pub apart_range : ℕ × ℕ → ℕ × ℕ → Bool
apart_range r q = ltb r.1 q.0 || ltb q.1 r.0

unfoldable pub apart_from : ℕ × ℕ → Bytes → Bool
apart_from r [] = true
apart_from r (q ∷ qs) = apart_range r q && apart_from r qs

unfoldable pub apart : Bytes → Bytes → Bool
apart [] qs = true
apart (r ∷ rs) qs = apart_from r qs && apart rs qs

-- a choice and all rules of a list, all rules of two lists, the rules of one list
unfoldable pub apart_rules : Bytes → List Rule → Bool
apart_rules c [] = true
apart_rules c (r ∷ rs) = apart c r.byte && apart_rules c rs

unfoldable pub apart_lists : List Rule → List Rule → Bool
apart_lists [] qs = true
apart_lists (r ∷ rs) qs = apart_rules r.byte qs && apart_lists rs qs

unfoldable pub distinct : List Rule → Bool
distinct [] = true
distinct (r ∷ rs) = apart_rules r.byte rs && distinct rs

-- ---- a byte is in one of them only

or_cases : (t u : Bool) → (t || u) ≡ true → (t ≡ false) → u ≡ true
or_cases true u e f = cc
or_cases false u e f = e

between-low : (l h b : ℕ) → between l h b ≡ true → l ≤ b
between-low l h b e = leb-true l b (and_left (leb l b) (leb b h) e)

between-high : (l h b : ℕ) → between l h b ≡ true → b ≤ h
between-high l h b e = leb-true b h (and_right (leb l b) (leb b h) e)

and-false : (t u : Bool) → u ≡ false → (t && u) ≡ false
and-false true u e = e
and-false false u e = refl

outside_high : (l h b : ℕ) → h < b → between l h b ≡ false
outside_high l h b k = and-false (leb l b) (leb b h) (lt-leb b h k)

outside_low : (l h b : ℕ) → b < l → between l h b ≡ false
outside_low l h b k = rw (lt-leb l b k)

range-apart : (r q : ℕ × ℕ) (b : ℕ) → apart_range r q ≡ true → between r.0 r.1 b ≡ true → between q.0 q.1 b ≡ false
range-apart r q b e h = go (ltb r.1 q.0) refl e
  where
    go : (t : Bool) → ltb r.1 q.0 ≡ t → (t || ltb q.1 r.0) ≡ true → between q.0 q.1 b ≡ false
    go true f g = outside_low q.0 q.1 b (omega (arith, ltb-true r.1 q.0 f, between-high r.0 r.1 b h))
    go false f g = outside_high q.0 q.1 b (omega (arith, ltb-true q.1 r.0 g, between-low r.0 r.1 b h))

from-apart : (r : ℕ × ℕ) (qs : Bytes) (b : ℕ) → apart_from r qs ≡ true → between r.0 r.1 b ≡ true → among qs b ≡ false
unfolding apart_from among
from-apart r [] b e h = refl
from-apart r (q ∷ qs) b e h =
    rw (range-apart r q b (and_left (apart_range r q) (apart_from r qs) e) h)
    (from-apart r qs b (and_right (apart_range r q) (apart_from r qs) e) h)

pub bytes_apart : (rs qs : Bytes) (b : ℕ) → apart rs qs ≡ true → among rs b ≡ true → among qs b ≡ false
unfolding apart among
bytes_apart [] qs b e h = let z : ◌≡◌ {A = ℕ} 0 1 = cc in absurd (omega arith)
bytes_apart (r ∷ rs) qs b e h =
    go (between r.0 r.1 b) refl h (bytes_apart rs qs b (and_right (apart_from r qs) (apart rs qs) e))
  where
    go : (t : Bool) → between r.0 r.1 b ≡ t → (t || among rs b) ≡ true → (among rs b ≡ true → among qs b ≡ false)
        → among qs b ≡ false
    go true f g ih = from-apart r qs b (and_left (apart_from r qs) (apart rs qs) e) f
    go false f g ih = ih g

-- no rule of the list has the byte
none-chosen : (c : Bytes) (rs : List Rule) (b : ℕ) → apart_rules c rs ≡ true → among c b ≡ true → chosen rs b ≡ None
unfolding apart_rules chosen
none-chosen c [] b e h = refl
none-chosen c (r ∷ rs) b e h =
    rw (bytes_apart c r.byte b (and_left (apart c r.byte) (apart_rules c rs) e) h)
    (none-chosen c rs b (and_right (apart c r.byte) (apart_rules c rs) e) h)

apart-one : (c : Bytes) (r : Rule) (rs : List Rule) (b : ℕ) → OneOf r rs → apart_rules c rs ≡ true → among r.byte b ≡ true
    → among c b ≡ false
unfolding apart_rules
apart-one c r rs b o e h = go (among c b) refl
  where
    clash : (rs : List Rule) → OneOf r rs → apart_rules c rs ≡ true → among c b ≡ true → among r.byte b ≡ false
    clash [] o f g = elim o [ ]
    clash (q ∷ qs) here f g = bytes_apart c q.byte b (and_left (apart c q.byte) (apart_rules c qs) f) g
    clash (q ∷ qs) (there p) f g = clash qs p (and_right (apart c q.byte) (apart_rules c qs) f) g

    go : (t : Bool) → among c b ≡ t → among c b ≡ false
    go true f = let k : among r.byte b ≡ false = clash rs o e f in let z : ◌≡◌ {A = ℕ} 0 1 = cc in absurd (omega arith)
    go false f = f

-- the rule that has the byte is the one that is chosen
pub chosen-it : (r : Rule) (rs : List Rule) (b : ℕ) → distinct rs ≡ true → OneOf r rs → among r.byte b ≡ true
    → chosen rs b ≡ Some r.rest
unfolding distinct chosen
chosen-it r [] b e o h = elim o [ ]
chosen-it r (q ∷ rs) b e here h = rw h
chosen-it r (q ∷ rs) b e (there o) h =
    rw (apart-one q.byte r rs b o (and_left (apart_rules q.byte rs) (distinct rs) e) h)
    (chosen-it r rs b (and_right (apart_rules q.byte rs) (distinct rs) e) o h)

-- where a rule of one list has the byte, no rule of a list apart from it is chosen
pub chosen_none : (rs qs : List Rule) (q : Rule) (b : ℕ) → apart_lists rs qs ≡ true → OneOf q qs → among q.byte b ≡ true
    → chosen rs b ≡ None
unfolding apart_lists chosen
chosen_none [] qs q b e o h = refl
chosen_none (r ∷ rs) qs q b e o h =
    rw (apart-one r.byte q qs b o (and_left (apart_rules r.byte qs) (apart_lists rs qs) e) h)
    (chosen_none rs qs q b (and_right (apart_rules r.byte qs) (apart_lists rs qs) e) o h)
