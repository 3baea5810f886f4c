-- JSON's grammar as a table that can be computed with: a text is made of parts, one after the other, and for each part the table has the
-- bytes that it can begin with and the parts that follow such a byte. That this is the RFC's grammar (`Rfc`) is proved in crate `grammar`.
use Rattle.std.specs.Prelude.{ℕ, zero, suc, Bool, true, false, ◌||◌, List, [], ◌∷◌, ◌++◌, map}
use Prim.Native.String.{String}
use Rattle.paper.specs.Refusals.{between}
use Rattle.paper.specs.Numbers.{text}

-- ---- bytes

-- a choice of bytes, as ranges: from, to
abbrev pub Bytes : Type 0
Bytes = List (ℕ × ℕ)

-- the byte is one of these
unfoldable pub among : Bytes → ℕ → Bool
among [] b = false
among (r ∷ rs) b = between r.0 r.1 b || among rs b

-- the bytes from l to h, and the bytes of a text
abbrev pub range : ℕ → ℕ → Bytes
range l h = (l, h) ∷ []

abbrev pub these : String → Bytes
these s = map (λ b. (b, b)) (text s)

-- space, tab, line feed, carriage return
abbrev pub blank : Bytes
blank = these " \t\n\r"

abbrev pub digit : Bytes
digit = range 0x30 0x39

abbrev pub hex_digit : Bytes
hex_digit = digit ++ (range 0x41 0x46 ++ range 0x61 0x66)

-- a character of one byte that stands for itself in a string: no control, no quote, no backslash
abbrev pub plain : Bytes
plain = range 0x20 0x21 ++ (range 0x23 0x5b ++ range 0x5d 0x7f)

-- a further byte of a character
abbrev pub further : Bytes
further = range 0x80 0xbf

-- ---- parts

-- where a number is: after its minus; after its 0; after a digit before the point; after one behind it; after the e; after a digit
-- behind that
pub data Digits : Type 0 where
  unsigned after_zero after_digit after_fraction after_e after_exponent : Digits

-- where blanks may stand: before a value; after `[`; after an item; before the object; after `{`; before a member; after a member
pub data Spot : Type 0 where
  value items more_items object members member more_members : Spot

-- one of these bytes; the characters of a string and its closing quote; what follows a backslash; the rest of a number; a name's colon;
-- what
-- stands at a spot, nested at most n levels inside
pub data Part : Type 0 where
  one : Bytes → Part
  chars : Part
  escape : Part
  number : Digits → Part
  colon : Part
  at : Spot → ℕ → Part

-- a byte that a part can begin with, and the parts that follow it
pub record Rule : Type 0 where
  pub byte : Bytes
  pub rest : List Part

infix 4 ◌⇒◌
abbrev pub ◌⇒◌ : Bytes → List Part → Rule
b ⇒ ps = record { byte = b; rest = ps }

-- each byte of a text, in order
abbrev pub word : String → List Part
word s = map (λ b. one ((b, b) ∷ [])) (text s)

-- a number can end there
unfoldable pub ends : Digits → Bool
ends unsigned = false
ends after_zero = true
ends after_digit = true
ends after_fraction = true
ends after_e = false
ends after_exponent = true

-- the part may be left out
unfoldable pub optional : Part → Bool
optional (one c) = false
optional chars = false
optional escape = false
optional (number d) = ends d
optional colon = false
optional (at s n) = false

-- ---- the table

-- a fraction, an exponent
abbrev pub fraction : Rule
fraction = these "." ⇒ one digit ∷ number after_fraction ∷ []

abbrev pub power : Rule
power = these "eE" ⇒ number after_e ∷ []

-- 0, or a digit 1-9 and more
abbrev pub digits : List Rule
digits = (these "0" ⇒ number after_zero ∷ []) ∷ (range 0x31 0x39 ⇒ number after_digit ∷ []) ∷ []

-- an array or an object, where a level is left
abbrev pub nested : ℕ → List Rule
nested zero = []
nested (suc n) = (these "[" ⇒ at items n ∷ []) ∷ (these "{" ⇒ at members n ∷ []) ∷ []

-- a value: string, number, true, false, null, array, object
abbrev pub values : ℕ → List Rule
values n =
    (these "\"" ⇒ chars ∷ [])
    ∷ (these "-" ⇒ number unsigned ∷ [])
    ∷ (these "t" ⇒ word "rue")
    ∷ (these "f" ⇒ word "alse")
    ∷ (these "n" ⇒ word "ull")
    ∷ (digits ++ nested n)

-- a member: its name, a colon, its value; then more
abbrev pub named : ℕ → Rule
named n = these "\"" ⇒ chars ∷ colon ∷ at value n ∷ at more_members n ∷ []

-- with parts that follow
abbrev pub before : List Part → Rule → Rule
before ps r = r.byte ⇒ (r.rest ++ ps)

-- blanks may stand before every value, name, colon, comma and bracket
unfoldable pub rules : Part → List Rule
rules (one c) = (c ⇒ []) ∷ []
rules chars =
    (plain ⇒ chars ∷ [])
    ∷ (these "\"" ⇒ [])
    ∷ (these "\\" ⇒ escape ∷ chars ∷ [])
    ∷ (range 0xc2 0xdf ⇒ one further ∷ chars ∷ [])
    ∷ (range 0xe0 0xe0 ⇒ one (range 0xa0 0xbf) ∷ one further ∷ chars ∷ [])
    ∷ (range 0xe1 0xec ++ range 0xee 0xef ⇒ one further ∷ one further ∷ chars ∷ [])
    ∷ (range 0xed 0xed ⇒ one (range 0x80 0x9f) ∷ one further ∷ chars ∷ [])
    ∷ (range 0xf0 0xf0 ⇒ one (range 0x90 0xbf) ∷ one further ∷ one further ∷ chars ∷ [])
    ∷ (range 0xf1 0xf3 ⇒ one further ∷ one further ∷ one further ∷ chars ∷ [])
    ∷ (range 0xf4 0xf4 ⇒ one (range 0x80 0x8f) ∷ one further ∷ one further ∷ chars ∷ [])
    ∷ []
rules escape = (these "\"\\/bfnrt" ⇒ []) ∷ (these "u" ⇒ one hex_digit ∷ one hex_digit ∷ one hex_digit ∷ one hex_digit ∷ []) ∷ []
rules (number unsigned) = digits
rules (number after_zero) = fraction ∷ power ∷ []
rules (number after_digit) = (digit ⇒ number after_digit ∷ []) ∷ fraction ∷ power ∷ []
rules (number after_fraction) = (digit ⇒ number after_fraction ∷ []) ∷ power ∷ []
rules (number after_e) = (these "+-" ⇒ one digit ∷ number after_exponent ∷ []) ∷ (digit ⇒ number after_exponent ∷ []) ∷ []
rules (number after_exponent) = (digit ⇒ number after_exponent ∷ []) ∷ []
rules (at value n) = (blank ⇒ at value n ∷ []) ∷ values n
rules (at items n) = (blank ⇒ at items n ∷ []) ∷ (these "]" ⇒ []) ∷ map (before (at more_items n ∷ [])) (values n)
rules (at more_items n) = (blank ⇒ at more_items n ∷ []) ∷ (these "," ⇒ at value n ∷ at more_items n ∷ []) ∷ (these "]" ⇒ []) ∷ []
rules (at object n) = (blank ⇒ at object n ∷ []) ∷ (these "{" ⇒ at members n ∷ []) ∷ []
rules (at members n) = (blank ⇒ at members n ∷ []) ∷ (these "}" ⇒ []) ∷ named n ∷ []
rules (at member n) = (blank ⇒ at member n ∷ []) ∷ named n ∷ []
rules colon = (blank ⇒ colon ∷ []) ∷ (these ":" ⇒ []) ∷ []
rules (at more_members n) = (blank ⇒ at more_members n ∷ []) ∷ (these "," ⇒ at member n ∷ []) ∷ (these "}" ⇒ []) ∷ []

-- nesting to 16 levels, the object being the first
abbrev pub levels_inside : ℕ
levels_inside = 15

-- the parts of a whole text
abbrev pub start : List Part
start = at object levels_inside ∷ []
