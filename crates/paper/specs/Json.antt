-- Paper 02, request [2], "JSON for the agencies": an array of a bundle written as the report's MDENCODE does it. The report's functions
-- are F, the nested brackets, and G, the object around them.
use Rattle.std.specs.Prelude.{ℕ, zero, suc, true, false, not, List, [], ◌∷◌, ◌++◌, map, eqb, leb, take, drop, length, Ok}
use Rattle.paper.specs.declared.Axis.{Axis}
use Rattle.paper.specs.declared.Cell.{Cell}
use Rattle.paper.specs.declared.Cell.TheVariants.{Empty, Int, Float, Truth}
use Rattle.paper.specs.Limits.{FLOAT}
use Rattle.paper.specs.Refusals.{Res, ◌>>=◌, ◌>>◌, ensure, unfit7, small_output14}
use Rattle.paper.specs.Numbers.{text}
use Rattle.paper.specs.Axes.{width, cells}
use Rattle.paper.specs.Bundle.{After, put_into}
use Rattle.paper.specs.Reference.{chosen}
use Rattle.paper.specs.Rests.{decimal}

-- INT in shortest decimal with `-` where negative, BOOLEAN as true and false, empty as null; a FLOAT cell is never written
unfoldable pub cell_text : Cell → List ℕ
cell_text Empty = text "null"
cell_text (Int z) = decimal z
cell_text (Float x) = []
cell_text (Truth true) = text "true"
cell_text (Truth false) = text "false"

-- texts with commas between them; no spaces
unfoldable pub commas : List (List ℕ) → List ℕ
commas [] = []
commas (t ∷ []) = t
commas (t ∷ u ∷ ts) = t ++ (text "," ++ commas (u ∷ ts))

-- the report's JSON_ARRAY: these texts in brackets
abbrev pub json_array : List (List ℕ) → List ℕ
json_array ts = text "[" ++ (commas ts ++ text "]")

-- the cells at each position of an axis of n positions, m cells at each
unfoldable pub layers : ℕ → ℕ → List Cell → List (List Cell)
layers zero m cs = []
layers (suc n) m cs = take m cs ∷ layers n m (drop m cs)

-- the report's F: with one axis its cells, with more the same again at each position of the first
unfoldable pub brackets : List Axis → List Cell → List ℕ
brackets [] cs = []
brackets (a ∷ []) cs = json_array (map cell_text cs)
brackets (a ∷ b ∷ E) cs = json_array (map (brackets (b ∷ E)) (layers (width a) (cells (b ∷ E)) cs))

-- the report's G: an object with one member `data`
abbrev pub json_text : List Axis → List Cell → List ℕ
json_text E cs = text "{\"data\":" ++ (brackets E cs ++ text "}")

-- array k of a bundle: 1 to 4 as for totals, 7 for FLOAT, then 14 when the text is longer than the buffer
unfoldable pub written : List ℕ → ℕ → ℕ → Res (List ℕ)
written bundle k room = do
  A ← chosen bundle k
  let json = json_text A.shape.axes A.cells
  ensure (not (eqb A.shape.type FLOAT)) unfit7 k
  ensure (leb (length json) room) small_output14 0
  Ok json

-- the text's length; as in packing, the buffer after the text is untouched, and all of it with a refusal
abbrev pub write_json : List ℕ → ℕ → List ℕ → After
write_json bundle k out = put_into out (written bundle k (length out))
