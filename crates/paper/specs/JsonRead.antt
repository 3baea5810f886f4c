-- Paper 02, request [5], "Read what agencies send back": a text into the cells of an array whose type and extent the caller names.
-- The place of every refusal is 0.
use Rattle.std.specs.Prelude.{ℕ, ◌+◌, ◌-◌, ◌*◌, ◌/◌, ◌%◌, Bool, true, false, ◌&&◌, ◌||◌, not, List, [], ◌∷◌, ◌++◌, eqb, leb, take, drop, length, get_or, replicate, ℤ, pos, neg_ℤ, if◌then◌else◌, Option, None, Some, Ok, Err}
use Prim.Native.Char.{code}
use Rattle.std.specs.Option.{option_map}
use Rattle.std.specs.Int.Signed.{le_z}
use Rattle.paper.specs.declared.Axis.{Axis}
use Rattle.paper.specs.declared.Cell.{Cell}
use Rattle.paper.specs.declared.Cell.TheVariants.{Empty, Int, Truth}
use Rattle.paper.specs.declared.Name.{Name}
use Rattle.paper.specs.declared.Sizes.{Sizes}
use Rattle.paper.specs.Limits.{INT, FLOAT, cell_bytes, smallest_int, largest_int}
use Rattle.paper.specs.Refusals.{Res, ◌>>=◌, ◌>>◌, refusal, ensure, present, between}
use Rattle.paper.specs.Refusals.{bad_bytes1, bad_extent2, unfit7, small_output14, not_json15, misfit16}
use Rattle.paper.specs.Numbers.{text, same, none?, concat, over}
use Rattle.paper.specs.Axes.{width, cells, good_extent}
use Rattle.paper.specs.Cells.{is_type, cells_bytes}
use Rattle.paper.specs.Bundle.{After, version_told, names_fit}
use Rattle.paper.specs.Grammar.{Part, Spot, among, these, digit, start, levels_inside}
use Rattle.paper.specs.Grammar.{one, chars, escape, number, colon, at}
use Rattle.paper.specs.Grammar.{value, items, more_items, object, members, member, more_members}
use Rattle.paper.specs.Machine.{given, settled, step, fault}

-- ---- tokens

-- where a value, a bracket or a name begins: its place, whether it is in the outermost object itself, and the text from there on
pub record Token : Type 0 where
  pub place : ℕ
  pub outermost : Bool
  pub text : List ℕ

-- names of the outermost object itself stand here
unfoldable pub outer : Spot → ℕ → Bool
outer value n = false
outer items n = false
outer more_items n = false
outer object n = false
outer members n = eqb n levels_inside
outer member n = eqb n levels_inside
outer more_members n = false

-- the token that begins with byte b, read at the first of these parts: at a spot, and no blank or comma
unfoldable pub token_of : List Part → ℕ → ℕ → List ℕ → List Token
token_of [] i b bs = []
token_of (one c ∷ gs) i b bs = []
token_of (chars ∷ gs) i b bs = []
token_of (escape ∷ gs) i b bs = []
token_of (number d ∷ gs) i b bs = []
token_of (colon ∷ gs) i b bs = []
token_of (at s n ∷ gs) i b bs =
    if among (these " \t\n\r,") b then [] else record { place = i; outermost = outer s n; text = b ∷ bs } ∷ []

-- the tokens from place i on, as far as the text goes on
unfoldable pub tokens_from : List Part → ℕ → List ℕ → List Token
tokens_from gs i [] = []
tokens_from gs i (b ∷ bs) = given (step gs b) [] (λ after. token_of (settled gs b) i b bs ++ tokens_from after (i + 1) bs)

-- ---- the member `data`

-- the text begins with these bytes
abbrev pub begins : List ℕ → List ℕ → Bool
begins w bs = same (take (length w) bs) w

-- a letter escaped: \u00 and its two digits (those of d, a and t are below a)
abbrev pub escaped : ℕ → List ℕ
escaped c = text "\\u00" ++ ((code "0" + c / 16) ∷ (code "0" + c % 16) ∷ [])

-- the text begins with these letters, each as it is or escaped, and a quote
unfoldable pub spells : List ℕ → List ℕ → Bool
spells [] bs = begins (text "\"") bs
spells (c ∷ cs) bs = (begins (c ∷ []) bs && spells cs (drop 1 bs)) || (begins (escaped c) bs && spells cs (drop 6 bs))

-- a name `data` of the outermost object, escapes undone
abbrev pub is_data : Token → Bool
is_data k = k.outermost && (begins (text "\"") k.text && spells (text "data") (drop 1 k.text))

-- the first `data`, and the tokens after it
unfoldable pub data_in : List Token → Option (Token × List Token)
data_in [] = None
data_in (k ∷ ks) = if is_data k then Some (k, ks) else data_in ks

-- the place of the second
abbrev pub second_in : List Token → Option ℕ
second_in ks = given (data_in ks) None (λ d. given (data_in d.1) None (λ e. Some e.0.place))

-- 15 at that place, if there is one
abbrev pub unless15 : Option ℕ → Res (Unit {0})
unless15 wrong = given wrong (Ok tt) (λ i. Err (refusal not_json15 0 i))

-- the tokens after `data`: 15 at the second `data` (it stands before any fault: there the tokens end), at the fault, or one past the end
unfoldable pub data_of : List ℕ → Res (List Token)
data_of bs = do
  let ks = tokens_from start 1 bs
  unless15 (second_in ks)
  unless15 (fault bs)
  d ← present (data_in ks) (refusal not_json15 0 (length bs + 1))
  Ok d.1

-- ---- the cells

-- the digits that a text begins with, and their number
unfoldable pub digits_of : List ℕ → List ℕ
digits_of [] = []
digits_of (b ∷ bs) = if among digit b then b ∷ digits_of bs else []

unfoldable pub number_of : ℕ → List ℕ → ℕ
number_of n [] = n
number_of n (b ∷ bs) = number_of (n * 10 + (b - code "0")) bs

-- a whole number without fraction or exponent
unfoldable pub natural : List ℕ → Option ℕ
natural bs =
    let ds : List ℕ = digits_of bs in
    if none? ds || among (these ".eE") (get_or bs (length ds) 0) then None else Some (number_of 0 ds)

abbrev pub integer : List ℕ → Option ℤ
integer bs = if begins (text "-") bs then option_map (λ n. neg_ℤ (pos n)) (natural (drop 1 bs)) else option_map pos (natural bs)

-- a value as a cell of the type: null; a whole number in INT range; true or false
unfoldable pub cell_in : ℕ → List ℕ → Option Cell
cell_in t bs =
    if begins (text "null") bs then Some Empty else
    (if eqb t INT then given (integer bs) None (λ z. if le_z smallest_int z && le_z z largest_int then Some (Int z) else None) else
    (if begins (text "true") bs then Some (Truth true) else (if begins (text "false") bs then Some (Truth false) else None)))

-- what is due, one token after the other
pub data Due : Type 0 where
  opening : Due
  closing : Due
  cell : Due

-- for these axes: a bracket, what is due for each position, the closing bracket; without axes a cell
unfoldable pub due : List Axis → List Due
due [] = cell ∷ []
due (a ∷ E) = opening ∷ (concat (replicate (width a) (due E)) ++ (closing ∷ []))

-- the cells that a token gives where that is due; none if it doesn't fit
unfoldable pub fits : ℕ → Due → List ℕ → Option (List Cell)
fits t opening bs = if begins (text "[") bs then Some [] else None
fits t closing bs = if begins (text "]") bs then Some [] else None
fits t cell bs = option_map (λ c. c ∷ []) (cell_in t bs)

-- the cells: 16 at the first token that is not what is due (the tokens of a whole object do not run out: json_trip, Enough)
unfoldable pub fitted : ℕ → List Due → List Token → Res (List Cell)
fitted t [] ks = Ok []
fitted t (d ∷ ds) [] = Err (refusal misfit16 0 0)
fitted t (d ∷ ds) (k ∷ ks) = do
  cs ← present (fits t d k.text) (refusal misfit16 0 k.place)
  more ← fitted t ds ks
  Ok (cs ++ more)

-- ---- reading

-- in a version: 1 for the type or axis count, 2 for the extent, 7 for FLOAT, 15, 16, last 14 for a cell buffer too short
unfoldable pub cells_as : Sizes → ℕ → List Name → List Axis → List ℕ → ℕ → Res (List Cell)
cells_as z t N E bs room = do
  ensure (is_type t && between 1 z.axes (length E)) bad_bytes1 0
  ensure (names_fit z N && good_extent N E) bad_extent2 0
  ensure (not (eqb t FLOAT)) unfit7 0
  ks ← data_of bs
  cs ← fitted t (due E) ks
  ensure (leb (cells E * cell_bytes) room) small_output14 0
  Ok cs

-- in the version told
unfoldable pub cells_in : ℕ → ℕ → List Name → List Axis → List ℕ → ℕ → Res (List Cell)
cells_in v t N E bs room = do
  z ← version_told v
  cells_as z t N E bs room

-- the number of cells is answered; bytes after the cells stay, a refusal leaves the cell buffer untouched
unfoldable pub fill_with : List ℕ → Res (List Cell) → After
fill_with buffer (Ok cs) = record { answer = Ok (length cs); buffer = over (cells_bytes cs) buffer }
fill_with buffer (Err r) = record { answer = Err r; buffer = buffer }

abbrev pub read_json : ℕ → ℕ → List Name → List Axis → List ℕ → List ℕ → After
read_json v t N E bs buffer = fill_with buffer (cells_in v t N E bs (length buffer))
