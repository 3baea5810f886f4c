-- The levels that are open as the parts that are still to come, and what a byte begins as the parts in front of them.
use Rattle.std.specs.Prelude.{ℕ, zero, suc, ◌+◌, ◌-◌, ◌/◌, ◌%◌, ◌≤◌, ◌<◌, ◌≡◌, Bool, false, ◌&&◌, List, [], ◌∷◌, ◌++◌, eqb, if◌then◌else◌, Option, None, Some}
use Rattle.paper.specs.Grammar.{Part, Spot, number, chars, colon, at, word, unsigned, after_zero, after_digit, levels_inside}
use Rattle.paper.specs.Grammar.{value, items, more_items, object, members, member, more_members}
use Rattle.paper.specs.Grammar.{among, blank, digit}
use Rattle.paper.specs.Machine.{step}
use Rattle.paper.specs.JsonRead.{outer}
use Rattle.json_levels.specs.declared.Levels.{Levels}
use Rattle.json_levels.specs.declared.Turn.{Turn}
use Rattle.json_levels.specs.declared.Next.{Next}
use Rattle.json_levels.specs.declared.Next.TheVariants.{Object, First, More, Value, Member}
use Rattle.json_levels.specs.declared.Begun.{Begun}
use Rattle.json_levels.specs.declared.Begun.TheVariants.{Nothing, Comma, Bracket, Name, Text, Minus, Zero, Digit, True, False, Null}

-- the level of these bits is an array's
abbrev pub array? : ℕ → Bool
array? b = eqb (b % 2) 1

-- what may follow a value there, and what may follow its opening bracket
abbrev pub more_of : ℕ → Spot
more_of b = if array? b then more_items else more_members

abbrev pub first_of : ℕ → Spot
first_of b = if array? b then items else members

-- how many levels a level at this depth may hold
abbrev pub inside : ℕ → ℕ
inside d = levels_inside + 1 - d

-- what follows a value: more of its level, then of the level around it
unfoldable pub more : ℕ → ℕ → List Part
more zero b = []
more (suc d) b = at (more_of b) (levels_inside - d) ∷ more d (b / 2)

-- what follows the level
abbrev pub around : ℕ → ℕ → List Part
around d b = more (d - 1) (b / 2)

abbrev pub parts_at : Next → ℕ → ℕ → List Part
parts_at Object d b = at object levels_inside ∷ []
parts_at First d b = at (first_of b) (inside d) ∷ around d b
parts_at More d b = more d b
parts_at Value d b = at value (inside d) ∷ more d b
parts_at Member d b = at member (inside d) ∷ around d b

abbrev pub parts_of : Levels → List Part
parts_of v = parts_at v.next v.depth v.bits

-- ---- how many levels, and bits enough for them

unfoldable pub room : ℕ → ℕ
room zero = 1
room (suc d) = room d + room d

-- some level is open, and none past the sixteenth
pub record Open (d b : ℕ) : Type 0 where
  pub some : 1 ≤ d
  pub most : d ≤ levels_inside + 1
  pub bits : b < room d

unfoldable pub StandingAt : Next → ℕ → ℕ → Type 0
StandingAt Object d b = Unit {0}
StandingAt First d b = Open d b
StandingAt More d b = (d ≤ levels_inside + 1) × (b < room d)
StandingAt Value d b = Open d b
StandingAt Member d b = Open d b × (array? b ≡ false)

abbrev pub Standing : Levels → Type 0
Standing v = StandingAt v.next v.depth v.bits

-- ---- what a byte begins

-- the parts that follow its first byte
unfoldable pub head_of : Begun → List Part
head_of Nothing = []
head_of Comma = []
head_of Bracket = []
head_of Name = chars ∷ colon ∷ []
head_of Text = chars ∷ []
head_of Minus = number unsigned ∷ []
head_of Zero = number after_zero ∷ []
head_of Digit = number after_digit ∷ []
head_of True = word "rue"
head_of False = word "alse"
head_of Null = word "ull"

-- the parts to come, or none where nothing begins
unfoldable pub comes : Begun → List Part → Option (List Part)
comes Nothing gs = None
comes Comma gs = Some gs
comes Bracket gs = Some gs
comes Name gs = Some (head_of Name ++ gs)
comes Text gs = Some (head_of Text ++ gs)
comes Minus gs = Some (head_of Minus ++ gs)
comes Zero gs = Some (head_of Zero ++ gs)
comes Digit gs = Some (head_of Digit ++ gs)
comes True gs = Some (head_of True ++ gs)
comes False gs = Some (head_of False ++ gs)
comes Null gs = Some (head_of Null ++ gs)

abbrev pub turned : Turn → Option (List Part)
turned r = comes r.begun (parts_of r.levels)

-- the byte is no comma, and opens no name of the outermost object
abbrev pub NoName : Bool → ℕ → Type 0
NoName o b = (b ≡ 44 → ⊥) × ((o && eqb b 34) ≡ false)

-- its first byte: a comma; the quote of a name, in the outermost object itself or not; or neither (o: names of that object stand here)
unfoldable pub FirstByte : Begun → Bool → ℕ → ℕ → Type 0
FirstByte Nothing o d b = Unit {0}
FirstByte Comma o d b = b ≡ 44
FirstByte Name o d b = (b ≡ 34) × (o ≡ eqb d 1)
FirstByte Bracket o d b = NoName o b
FirstByte Text o d b = NoName o b
FirstByte Minus o d b = NoName o b
FirstByte Zero o d b = NoName o b
FirstByte Digit o d b = NoName o b
FirstByte True o d b = NoName o b
FirstByte False o d b = NoName o b
FirstByte Null o d b = NoName o b

-- the parts begin at a spot
pub record AtSpot (gs : List Part) : Type 0 where
  pub spot : Spot
  pub levels : ℕ
  pub rest : List Part
  pub whole : gs ≡ at spot levels ∷ rest

-- what is behind it stands at a spot
unfoldable pub Behind : Begun → List Part → Type 0
Behind Nothing gs = Unit {0}
Behind Comma gs = Unit {0}
Behind Bracket gs = Unit {0}
Behind Name gs = AtSpot gs
Behind Text gs = AtSpot gs
Behind Minus gs = AtSpot gs
Behind Zero gs = AtSpot gs
Behind Digit gs = AtSpot gs
Behind True gs = AtSpot gs
Behind False gs = AtSpot gs
Behind Null gs = AtSpot gs

-- ---- promises

abbrev pub so : Begun → Next → ℕ → ℕ → Turn
so g x d b = record { begun = g; levels = record { next = x; depth = d; bits = b } }

-- with gs to come, of which the first has names of the outermost object or not, byte b turns so
pub record TurnedAt (gs : List Part) (o : Bool) (d b : ℕ) (r : Turn) : Type 0 where
  pub goes : step gs b ≡ turned r
  pub stands : Standing r.levels
  pub first : FirstByte r.begun o d b
  pub behind : Behind r.begun (parts_of r.levels)

abbrev pub outermost : Next → ℕ → ℕ → Bool
outermost Object d b = false
outermost First d b = outer (first_of b) (inside d)
outermost More d b = false
outermost Value d b = false
outermost Member d b = outer member (inside d)

abbrev pub Turned : Levels → ℕ → Turn → Type 0
Turned v b r = TurnedAt (parts_of v) (outermost v.next v.depth v.bits) v.depth b r

-- a byte that begins no blank, string, number or word
pub record Other (b : ℕ) : Type 0 where
  pub no_blank : among blank b ≡ false
  pub no_quote : b ≡ 34 → ⊥
  pub no_minus : b ≡ 45 → ⊥
  pub no_digit : among digit b ≡ false
  pub no_true : b ≡ 116 → ⊥
  pub no_false : b ≡ 102 → ⊥
  pub no_null : b ≡ 110 → ⊥
