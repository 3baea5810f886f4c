-- What the grammar makes the machine reads: where the parts are in order, the byte decides the rule, and what is left is made of the parts
-- after it.
use Rattle.std.specs.Prelude.{ℕ, ◌+◌, ◌≡◌, refl, Bool, true, false, not, ◌&&◌, ◌||◌, List, [], ◌∷◌, ◌++◌, if◌then◌else◌, Option, None, Some}
use Rattle.std.specs.Option.{option_map}
use Rattle.std.proofs.Common.{arith}
use Rattle.laws.specs.Tests.{and_left, and_right, no_none}
use Rattle.grammar.specs.Made.{Made, space, without, by}
use Rattle.paper.specs.Grammar.{Part, among, blank, optional, rules}
use Rattle.paper.specs.Grammar.{one, chars, escape, number, colon, at}
use Rattle.paper.specs.Machine.{given, chosen, settled, move, step, complete, fault_from}
use Rattle.grammar.specs.Going.{chosen-rule}
use Rattle.grammar.specs.Apart.{chosen-it, chosen_none}
use Rattle.grammar.specs.Tables.{no_true, rules-distinct, leads, loose, optional-loose, number-apart, full, sound}
use Rattle.grammar.specs.Tables.{rules-orderly, rule-orderly, orderly-sound}

-- what comes after a byte of a text that is made of these parts
pub record Reads (gs : List Part) (b : ℕ) (bs : List ℕ) : Type 0 where
  pub after : List Part
  pub stepped : step gs b ≡ Some after
  pub made : Made after bs
  pub order : sound after ≡ true

-- a part with a byte of one of its rules stays and is moved on
rule-steps : (g : Part) (gs : List Part) (b : ℕ) (ps : List Part) → chosen (rules g) b ≡ Some ps → step (g ∷ gs) b ≡ Some (ps ++ gs)
unfolding settled move
rule-steps g gs b ps e = go (optional g) refl
  where
    go : (t : Bool) → optional g ≡ t
        → move (if optional g then given (chosen (rules g) b) gs (λ qs. g ∷ gs) else g ∷ gs) b ≡ Some (ps ++ gs)
    go true h = rw (h, e) (rw e)
    go false h = rw h (rw e)

pub followed : (g : Part) (gs : List Part) → sound (g ∷ gs) ≡ true → loose g ≡ true → leads gs ≡ true
unfolding sound
followed g gs s l = go (loose g) l (and_left (not (loose g) || leads gs) (full g && sound gs) s)
  where
    go : (t : Bool) → t ≡ true → (not t || leads gs) ≡ true → leads gs ≡ true
    go true h k = k
    go false h k = let z : ◌≡◌ {A = ℕ} 0 1 = cc in absurd (omega arith)

pub rest-sound : (g : Part) (gs : List Part) → sound (g ∷ gs) ≡ true → sound gs ≡ true
unfolding sound
rest-sound g gs s = and_right (full g) (sound gs) (and_right (not (loose g) || leads gs) (full g && sound gs) s)

-- a number ends before a byte of what follows it
number-ends : (g : Part) (gs : List Part) (b : ℕ) (hs : List Part) → optional g ≡ true → leads gs ≡ true → step gs b ≡ Some hs
    → step (g ∷ gs) b ≡ Some hs
unfolding optional leads settled move
number-ends (one c) gs b hs o l e = no_true o
number-ends chars gs b hs o l e = no_true o
number-ends escape gs b hs o l e = no_true o
number-ends (number d) [] b hs o l e = no_true l
number-ends (number d) (one c ∷ gs) b hs o l e = no_true l
number-ends (number d) (chars ∷ gs) b hs o l e = no_true l
number-ends (number d) (escape ∷ gs) b hs o l e = no_true l
number-ends (number d) (number f ∷ gs) b hs o l e = no_true l
number-ends (number d) (colon ∷ gs) b hs o l e = no_true l
number-ends (number d) (at s n ∷ gs) b hs o l e =
    let m : option_map (λ ps. ps ++ gs) (chosen (rules (at s n)) b) ≡ Some hs = e in
    go (chosen (rules (at s n)) b) refl m
  where
    go : (c : Option (List Part)) → chosen (rules (at s n)) b ≡ c → option_map (λ ps. ps ++ gs) c ≡ Some hs
        → step (number d ∷ at s n ∷ gs) b ≡ Some hs
    go None h f = absurd (no_none hs f)
    go (Some ps) h f =
        let r = chosen-rule (rules (at s n)) b ps h in
        let z : chosen (rules (number d)) b ≡ None =
        chosen_none (rules (number d)) (rules (at s n)) r.0 b (number-apart d s n o l) r.1 r.2 in
        rw (o, z) e
number-ends colon gs b hs o l e = no_true o
number-ends (at s n) gs b hs o l e = no_true o

blank-steps : (b : ℕ) → among blank b ≡ true → step [] b ≡ Some []
unfolding settled move
blank-steps b h = rw h

-- the byte decides the rule
pub reads : {gs : List Part} {b : ℕ} {bs : List ℕ} → Made gs (b ∷ bs) → sound gs ≡ true → Reads gs b bs
reads {b = b} (space h m) s = record { after = []; stepped = blank-steps b h; made = m; order = s }
reads {b = b} {bs = bs} (without {g = g} {gs = gs} o m) s =
    let v = reads m (rest-sound g gs s) in
    record {
      after = v.after;
      stepped = number-ends g gs b v.after o (followed g gs s (optional-loose g o))
          v.stepped;
      made = v.made;
      order = v.order;
    }
reads {b = b} (by {g = g} {gs = gs} r o h m) s =
    record {
      after = r.rest ++ gs;
      stepped = rule-steps g gs b r.rest (chosen-it r (rules g) b (rules-distinct g) o h);
      made = m;
      order =
          orderly-sound (loose g) r.rest gs (rule-orderly (loose g) r (rules g) o (rules-orderly g)) (rest-sound g gs s)
          (followed g gs s);
    }

-- no part is to come where no byte is
none-optional : (gs : List Part) → leads gs ≡ true → Made gs [] → ⊥
unfolding leads optional
none-optional (at s n ∷ gs) l (without o m) = no_true o
none-optional [] l m = no_true l
none-optional (one c ∷ gs) l m = no_true l
none-optional (chars ∷ gs) l m = no_true l
none-optional (escape ∷ gs) l m = no_true l
none-optional (number d ∷ gs) l m = no_true l
none-optional (colon ∷ gs) l m = no_true l

pub all_read : (gs : List Part) → sound gs ≡ true → Made gs [] → complete gs ≡ true
all_read [] s m = refl
all_read (g ∷ gs) s (without o m) = absurd (none-optional gs (followed g gs s (optional-loose g o)) m)

-- a text made of these parts has no fault
pub made-faultless : (gs : List Part) (i : ℕ) (bs : List ℕ) → sound gs ≡ true → Made gs bs → fault_from gs i bs ≡ None
unfolding fault_from
made-faultless gs i [] s m = rw (all_read gs s m)
made-faultless gs i (b ∷ bs) s m = let v = reads m s in rw v.stepped (made-faultless v.after (i + 1) bs v.order v.made)
