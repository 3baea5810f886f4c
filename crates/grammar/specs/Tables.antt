-- The grammar's table, looked through part by part: no two rules of a part share a byte, a number's rules share none with what can follow
-- a number, and each rule's parts stand in an order in which numbers are followed so.
use Rattle.std.specs.Prelude.{ℕ, zero, suc, ◌≡◌, refl, Bool, true, false, not, ◌&&◌, ◌||◌, List, [], ◌∷◌, ◌++◌, leb}
use Rattle.std.proofs.Common.{arith}
use Rattle.laws.specs.Tests.{and_left, and_right, and_both}
use Rattle.grammar.specs.Made.{OneOf, here, there}
use Rattle.paper.specs.Grammar.{Digits, Spot, Part, Rule, ends, optional, rules}
use Rattle.paper.specs.Grammar.{one, chars, escape, number, colon, at, unsigned, after_zero, after_digit, after_fraction, after_e}
use Rattle.paper.specs.Grammar.{after_exponent}
use Rattle.paper.specs.Grammar.{value, items, more_items, object, members, member, more_members}
use Rattle.grammar.specs.Apart.{apart_from, apart, apart_rules, apart_lists, distinct}

-- ---- no two rules of a part share a byte

pub rules-distinct : (g : Part) → distinct (rules g) ≡ true
unfolding distinct rules apart_rules apart apart_from
rules-distinct (one c) = refl
rules-distinct chars = refl
rules-distinct escape = refl
rules-distinct (number unsigned) = refl
rules-distinct (number after_zero) = refl
rules-distinct (number after_digit) = refl
rules-distinct (number after_fraction) = refl
rules-distinct (number after_e) = refl
rules-distinct (number after_exponent) = refl
rules-distinct colon = refl
rules-distinct (at value zero) = refl
rules-distinct (at value (suc n)) = refl
rules-distinct (at items zero) = refl
rules-distinct (at items (suc n)) = refl
rules-distinct (at more_items n) = refl
rules-distinct (at object n) = refl
rules-distinct (at members n) = refl
rules-distinct (at member n) = refl
rules-distinct (at more_members n) = refl

-- ---- what can follow a number

-- more items or more members
unfoldable pub more : Spot → Bool
more value = false
more items = false
more more_items = true
more object = false
more members = false
more member = false
more more_members = true

-- the parts begin so
unfoldable pub leads : List Part → Bool
leads [] = false
leads (one c ∷ gs) = false
leads (chars ∷ gs) = false
leads (escape ∷ gs) = false
leads (number d ∷ gs) = false
leads (colon ∷ gs) = false
leads (at s n ∷ gs) = more s

-- a number can end the part
unfoldable pub is_value : Spot → Bool
is_value value = true
is_value items = false
is_value more_items = false
is_value object = false
is_value members = false
is_value member = false
is_value more_members = false

unfoldable pub loose : Part → Bool
loose (one c) = false
loose chars = false
loose escape = false
loose (number d) = true
loose colon = false
loose (at s n) = is_value s

pub optional-loose : (g : Part) → optional g ≡ true → loose g ≡ true
unfolding optional loose
optional-loose (one c) e = e
optional-loose chars e = e
optional-loose escape e = e
optional-loose (number d) e = refl
optional-loose colon e = e
optional-loose (at s n) e = let z : ◌≡◌ {A = ℕ} 0 1 = cc in absurd (omega arith)

pub no_true : {A : Type 0} → false ≡ true → A
no_true e = let z : ◌≡◌ {A = ℕ} 0 1 = cc in absurd (omega arith)

-- the bytes by which a number goes on are apart from those of what follows it
pub number-apart : (d : Digits) (s : Spot) (n : ℕ) → ends d ≡ true → more s ≡ true → apart_lists (rules (number d)) (rules (at s n)) ≡ true
unfolding ends more rules apart_lists apart_rules apart apart_from
number-apart unsigned s n e f = no_true e
number-apart after_zero value n e f = no_true f
number-apart after_zero items n e f = no_true f
number-apart after_zero more_items n e f = refl
number-apart after_zero object n e f = no_true f
number-apart after_zero members n e f = no_true f
number-apart after_zero member n e f = no_true f
number-apart after_zero more_members n e f = refl
number-apart after_digit value n e f = no_true f
number-apart after_digit items n e f = no_true f
number-apart after_digit more_items n e f = refl
number-apart after_digit object n e f = no_true f
number-apart after_digit members n e f = no_true f
number-apart after_digit member n e f = no_true f
number-apart after_digit more_members n e f = refl
number-apart after_fraction value n e f = no_true f
number-apart after_fraction items n e f = no_true f
number-apart after_fraction more_items n e f = refl
number-apart after_fraction object n e f = no_true f
number-apart after_fraction members n e f = no_true f
number-apart after_fraction member n e f = no_true f
number-apart after_fraction more_members n e f = refl
number-apart after_e s n e f = no_true e
number-apart after_exponent value n e f = no_true f
number-apart after_exponent items n e f = no_true f
number-apart after_exponent more_items n e f = refl
number-apart after_exponent object n e f = no_true f
number-apart after_exponent members n e f = no_true f
number-apart after_exponent member n e f = no_true f
number-apart after_exponent more_members n e f = refl

-- ---- the order of parts

-- there is a byte for the part
unfoldable pub full : Part → Bool
full (one []) = false
full (one (r ∷ c)) = leb r.0 r.1
full chars = true
full escape = true
full (number d) = true
full colon = true
full (at s n) = true

-- every part has a byte, and what a number can end is followed so
unfoldable pub sound : List Part → Bool
sound [] = true
sound (g ∷ gs) = (not (loose g) || leads gs) && (full g && sound gs)

-- so too with parts after it that begin so, where a number can end the last (l)
unfoldable pub orderly : Bool → List Part → Bool
orderly l [] = true
orderly l (g ∷ []) = (not (loose g) || l) && full g
orderly l (g ∷ h ∷ gs) = (not (loose g) || leads (h ∷ gs)) && (full g && orderly l (h ∷ gs))

unfoldable pub in_order : Bool → List Rule → Bool
in_order l [] = true
in_order l (r ∷ rs) = orderly l r.rest && in_order l rs

pub rules-orderly : (g : Part) → in_order (loose g) (rules g) ≡ true
unfolding in_order orderly loose is_value leads more full rules
rules-orderly (one c) = refl
rules-orderly chars = refl
rules-orderly escape = refl
rules-orderly (number unsigned) = refl
rules-orderly (number after_zero) = refl
rules-orderly (number after_digit) = refl
rules-orderly (number after_fraction) = refl
rules-orderly (number after_e) = refl
rules-orderly (number after_exponent) = refl
rules-orderly colon = refl
rules-orderly (at value zero) = refl
rules-orderly (at value (suc n)) = refl
rules-orderly (at items zero) = refl
rules-orderly (at items (suc n)) = refl
rules-orderly (at more_items n) = refl
rules-orderly (at object n) = refl
rules-orderly (at members n) = refl
rules-orderly (at member n) = refl
rules-orderly (at more_members n) = refl

pub rule-orderly : (l : Bool) (r : Rule) (rs : List Rule) → OneOf r rs → in_order l rs ≡ true → orderly l r.rest ≡ true
unfolding in_order
rule-orderly l r [] o e = elim o [ ]
rule-orderly l r (q ∷ rs) here e = and_left (orderly l q.rest) (in_order l rs) e
rule-orderly l r (q ∷ rs) (there o) e = rule-orderly l r rs o (and_right (orderly l q.rest) (in_order l rs) e)

-- a part that a number can end is followed so
either : (t u v : Bool) → (not t || u) ≡ true → (u ≡ true → v ≡ true) → (not t || v) ≡ true
either true u v e f = f e
either false u v e f = refl

pub orderly-sound : (l : Bool) (ps gs : List Part) → orderly l ps ≡ true → sound gs ≡ true → (l ≡ true → leads gs ≡ true)
    → sound (ps ++ gs) ≡ true
unfolding orderly sound leads
orderly-sound l [] gs e s k = s
orderly-sound l (g ∷ []) gs e s k =
    and_both (either (loose g) l (leads gs) (and_left (not (loose g) || l) (full g) e) k)
    (and_both (and_right (not (loose g) || l) (full g) e) s)
orderly-sound l (g ∷ h ∷ ps) gs e s k =
    let t : (full g && orderly l (h ∷ ps)) ≡ true = and_right (not (loose g) || leads (h ∷ ps)) (full g && orderly l (h ∷ ps)) e in
    and_both
    (either (loose g) (leads (h ∷ ps)) (leads (h ∷ (ps ++ gs)))
    (and_left (not (loose g) || leads (h ∷ ps)) (full g && orderly l (h ∷ ps)) e) (same-lead h ps (ps ++ gs)))
    (and_both (and_left (full g) (orderly l (h ∷ ps)) t) (orderly-sound l (h ∷ ps) gs (and_right (full g) (orderly l (h ∷ ps)) t) s k))
  where
    same-lead : (h : Part) (xs ys : List Part) → leads (h ∷ xs) ≡ true → leads (h ∷ ys) ≡ true
    same-lead (one c) xs ys e = e
    same-lead chars xs ys e = e
    same-lead escape xs ys e = e
    same-lead (number d) xs ys e = e
    same-lead colon xs ys e = e
    same-lead (at s n) xs ys e = e
