-- The token that begins with a byte: none with a comma; else one, which is a name `data` of the outermost object exactly if a name begins
-- there in the first level and spells so.
use Rattle.std.specs.Prelude.{ℕ, zero, suc, ◌+◌, ◌/◌, ◌-◌, ◌<◌, ◌≡◌, refl, Bool, true, false, ◌&&◌, ◌||◌, List, [], ◌∷◌, ◌++◌, eqb, length, get_or, if◌then◌else◌, None}
use Rattle.std.proofs.Common.{sym, ap, ◌∙◌, add-one, drop-cons}
use Rattle.std.proofs.Math.ListN.{drop}
use Rattle.paper.specs.Refusals.{between}
use Rattle.paper.specs.Numbers.{text, alike}
use Rattle.paper.specs.Grammar.{Part, Spot, Bytes, among, blank, these, optional, at, levels_inside}
use Rattle.paper.specs.Grammar.{value, object, member, more_items, more_members}
use Rattle.paper.specs.Machine.{settled, move}
use Rattle.paper.specs.JsonRead.{Token, outer, token_of, begins, spells, is_data}
use Rattle.laws.specs.Tests.{no_none}
use Rattle.json_text.specs.Bytes.{not_byte}
use Rattle.json_levels.specs.declared.Levels.{Levels}
use Rattle.json_levels.specs.declared.Next.{Next}
use Rattle.json_levels.specs.declared.Next.TheVariants.{Object, First, More, Value, Member}
use Rattle.json_levels.specs.declared.Turn.{Turn}
use Rattle.json_levels.specs.declared.Begun.{Begun}
use Rattle.json_levels.specs.Parts.{array?, first_of, more_of, inside, more, around, parts_at, parts_of, comes, FirstByte, NoName}
use Rattle.json_levels.specs.Parts.{TurnedAt, Turned, outermost}

-- a name in the first level, which spells so
unfoldable pub named_by : Begun → ℕ → Bool → Bool
named_by Begun.Nothing d x = false
named_by Begun.Comma d x = false
named_by Begun.Bracket d x = false
named_by Begun.Name d x = eqb d 1 && x
named_by Begun.Text d x = false
named_by Begun.Minus d x = false
named_by Begun.Zero d x = false
named_by Begun.Digit d x = false
named_by Begun.True d x = false
named_by Begun.False d x = false
named_by Begun.Null d x = false

-- one token, at byte i
pub record TokenAt (named : Bool) (s : List ℕ) (i : ℕ) (ks : List Token) : Type 0 where
  pub token : Token
  pub alone : ks ≡ token ∷ []
  pub place : token.place ≡ i + 1
  pub here : token.text ≡ drop i s
  pub data? : is_data token ≡ named

unfoldable pub TokensAt : Begun → Bool → List ℕ → ℕ → List Token → Type 0
TokensAt Begun.Nothing x s i ks = Unit {0}
TokensAt Begun.Comma x s i ks = ks ≡ []
TokensAt Begun.Bracket x s i ks = TokenAt x s i ks
TokensAt Begun.Name x s i ks = TokenAt x s i ks
TokensAt Begun.Text x s i ks = TokenAt x s i ks
TokensAt Begun.Minus x s i ks = TokenAt x s i ks
TokensAt Begun.Zero x s i ks = TokenAt x s i ks
TokensAt Begun.Digit x s i ks = TokenAt x s i ks
TokensAt Begun.True x s i ks = TokenAt x s i ks
TokensAt Begun.False x s i ks = TokenAt x s i ks
TokensAt Begun.Null x s i ks = TokenAt x s i ks

-- ---- a byte at a spot

abbrev blank_comma : Bytes
blank_comma = these " \t\n\r,"

pub among-more : (xs ys : Bytes) (b : ℕ) → among (xs ++ ys) b ≡ (among xs b || among ys b)
unfolding among
among-more [] ys b = refl
among-more (x ∷ xs) ys b = rw (among-more xs ys b) (or_assoc (between x.0 x.1 b) (among xs b) (among ys b))
  where
    or_assoc : (p q r : Bool) → (p || (q || r)) ≡ ((p || q) || r)
    or_assoc true q r = refl
    or_assoc false q r = refl

pub among_none : (b : ℕ) → among [] b ≡ false
unfolding among
among_none b = refl

no-blank-comma : (b : ℕ) → among blank b ≡ false → (b ≡ 44 → ⊥) → among blank_comma b ≡ false
no-blank-comma b h n = among-more blank ((44, 44) ∷ []) b ∙ rw (h, not_byte 44 b [] n ∙ among_none b)

byte-here : (s : List ℕ) (i : ℕ) → i < length s → get_or s i 0 ∷ drop (i + 1) s ≡ drop i s
byte-here s i h = ap (λ (n : ℕ). get_or s i 0 ∷ drop n s) (add-one i) ∙ sym (drop-cons s i 0 h)

-- no name: not outermost, or no quote
no-data : (o : Bool) (b : ℕ) (bs : List ℕ) (x : Bool) → (o && eqb b 34) ≡ false → (o && (begins (text "\"") (b ∷ bs) && x)) ≡ false
unfolding alike
no-data false b bs x e = refl
no-data true b bs x e = rw e

module _ (p : Spot) (n : ℕ) (hs : List Part) (d : ℕ) (s : List ℕ) (i : ℕ) (h : i < length s) where
  abbrev b : ℕ
  b = get_or s i 0

  abbrev ks : List Token
  ks = token_of (settled (at p n ∷ hs) b) (i + 1) b (drop (i + 1) s)

  abbrev spelt : Bool
  spelt = spells (text "data") (drop (i + 1) s)

  comma-token : b ≡ 44 → ks ≡ []
  unfolding settled optional token_of among
  comma-token e = rw e

  name-token : b ≡ 34 → outer p n ≡ eqb d 1 → TokenAt (eqb d 1 && spelt) s i ks
  unfolding settled optional token_of among alike
  name-token e o =
      record {
        token = record { place = i + 1; outermost = outer p n; text = b ∷ drop (i + 1) s };
        alone = rw e;
        place = refl;
        here = byte-here s i h;
        data? = rw (o, e) refl;
      }

  other-token : among blank b ≡ false → NoName (outer p n) b → TokenAt false s i ks
  unfolding settled optional token_of
  other-token e f =
      record {
        token = record { place = i + 1; outermost = outer p n; text = b ∷ drop (i + 1) s };
        alone = rw (no-blank-comma b e f.0);
        place = refl;
        here = byte-here s i h;
        data? = no-data (outer p n) b (drop (i + 1) s) _ f.1;
      }

  spot-tokens : (g : Begun) → among blank b ≡ false → FirstByte g (outer p n) d b → TokensAt g (named_by g d spelt) s i ks
  unfolding FirstByte TokensAt named_by
  spot-tokens Begun.Nothing e f = tt
  spot-tokens Begun.Comma e f = comma-token f
  spot-tokens Begun.Name e f = name-token f.0 f.1
  spot-tokens Begun.Bracket e f = other-token e f
  spot-tokens Begun.Text e f = other-token e f
  spot-tokens Begun.Minus e f = other-token e f
  spot-tokens Begun.Zero e f = other-token e f
  spot-tokens Begun.Digit e f = other-token e f
  spot-tokens Begun.True e f = other-token e f
  spot-tokens Begun.False e f = other-token e f
  spot-tokens Begun.Null e f = other-token e f

-- ---- by what may come

-- after the object nothing begins
none-tokens : (g : Begun) (x : Bool) (gs : List Part) (s : List ℕ) (i : ℕ) (ks : List Token) → None ≡ comes g gs → TokensAt g x s i ks
unfolding TokensAt comes
none-tokens Begun.Nothing x gs s i ks e = tt
none-tokens Begun.Comma x gs s i ks e = absurd (no_none _ e)
none-tokens Begun.Bracket x gs s i ks e = absurd (no_none _ e)
none-tokens Begun.Name x gs s i ks e = absurd (no_none _ e)
none-tokens Begun.Text x gs s i ks e = absurd (no_none _ e)
none-tokens Begun.Minus x gs s i ks e = absurd (no_none _ e)
none-tokens Begun.Zero x gs s i ks e = absurd (no_none _ e)
none-tokens Begun.Digit x gs s i ks e = absurd (no_none _ e)
none-tokens Begun.True x gs s i ks e = absurd (no_none _ e)
none-tokens Begun.False x gs s i ks e = absurd (no_none _ e)
none-tokens Begun.Null x gs s i ks e = absurd (no_none _ e)

outer-more : (c n : ℕ) → outer (more_of c) n ≡ false
unfolding outer
outer-more c n = by_kind (array? c)
  where
    by_kind : (a : Bool) → outer (if a then more_items else more_members) n ≡ false
    by_kind true = refl
    by_kind false = refl

more-tokens : (k c d : ℕ) (s : List ℕ) (i : ℕ) (r : Turn) → i < length s → among blank (get_or s i 0) ≡ false
    → TurnedAt (more k c) false d (get_or s i 0) r
    → TokensAt r.begun (named_by r.begun d (spells (text "data") (drop (i + 1) s))) s i
    (token_of (settled (more k c) (get_or s i 0)) (i + 1) (get_or s i 0) (drop (i + 1) s))
unfolding more settled move
more-tokens zero c d s i r h e t = none-tokens r.begun _ (parts_of r.levels) s i _ (sym (rw e at (sym t.goes)))
more-tokens (suc k) c d s i r h e t = spot-tokens (more_of c) (levels_inside - k) (more k (c / 2)) d s i h r.begun e
    (rw (outer-more c (levels_inside - k)) t.first)

tokens-by : (x : Next) (k c : ℕ) (s : List ℕ) (i : ℕ) (r : Turn) → i < length s → among blank (get_or s i 0) ≡ false
    → TurnedAt (parts_at x k c) (outermost x k c) k (get_or s i 0) r
    → TokensAt r.begun (named_by r.begun k (spells (text "data") (drop (i + 1) s))) s i
    (token_of (settled (parts_at x k c) (get_or s i 0)) (i + 1) (get_or s i 0) (drop (i + 1) s))
unfolding outer
tokens-by Object k c s i r h e t = spot-tokens object levels_inside [] k s i h r.begun e t.first
tokens-by First k c s i r h e t = spot-tokens (first_of c) (inside k) (around k c) k s i h r.begun e t.first
tokens-by More k c s i r h e t = more-tokens k c k s i r h e t
tokens-by Value k c s i r h e t = spot-tokens value (inside k) (more k c) k s i h r.begun e t.first
tokens-by Member k c s i r h e t = spot-tokens member (inside k) (around k c) k s i h r.begun e t.first

pub tokens-at : (v : Levels) (s : List ℕ) (i : ℕ) (r : Turn) → i < length s → among blank (get_or s i 0) ≡ false → Turned v (get_or s i 0) r
    → TokensAt r.begun (named_by r.begun v.depth (spells (text "data") (drop (i + 1) s))) s i
    (token_of (settled (parts_of v) (get_or s i 0)) (i + 1) (get_or s i 0) (drop (i + 1) s))
tokens-at v s i r h e t = tokens-by v.next v.depth v.bits s i r h e t
