-- Paper 02, request [5], "Read what agencies send back": the report's examples and both sides of each line that the request draws,
-- computed from the definitions as one table under one claim.
use Rattle.std.specs.Prelude.{ℕ, ◌≡◌, refl, Bool, true, false, List, [], ◌∷◌, ◌++◌, map, pos, replicate}
use Prim.Native.String.{String}
use Rattle.paper.specs.declared.Cell.{Cell}
use Rattle.paper.specs.declared.Cell.TheVariants.{Empty, Int, Truth}
use Rattle.paper.specs.Limits.{INT, FLOAT, BOOLEAN, smallest_int}
use Rattle.paper.specs.Numbers.{text, concat, same}
use Rattle.paper.specs.Cells.{cells_bytes}
use Rattle.paper.specs.Bundle.{After}
use Rattle.paper.specs.Opened.{opened}
use Rattle.paper.specs.JsonRead.{cells_in, read_json}
use Rattle.paper.specs.Written.{all, Given, axis, axes_in, ints, counted, said}
use Rattle.paper.specs.Written as Written

-- ---- extents: x(1:2), y(1:2); x(1:3); x(1:1); one with a name of nine letters; one of five axes

abbrev square : List Given
square = axis "x" (pos 1) (pos 2) ∷ axis "y" (pos 1) (pos 2) ∷ []

abbrev line : ℕ → List Given
line n = axis "x" (pos 1) (pos n) ∷ []

abbrev one : List Given
one = line 1

abbrev three : List Given
three = line 3

abbrev nine : List Given
nine = axis "locations" (pos 1) (pos 1) ∷ []

abbrev five : List Given
five = map (λ n. axis n (pos 1) (pos 1)) ("a" ∷ "b" ∷ "c" ∷ "d" ∷ "e" ∷ [])

-- ---- the questions

-- in a version, with a type, an extent and room: the cells' bytes or the refusal
abbrev asked : ℕ → ℕ → List Given → List ℕ → ℕ → List ℕ
asked v t G bs room = said cells_bytes (cells_in v t (map (λ g. g.name) G) (axes_in G) bs room)

-- INT cells from a text, one INT cell from bytes, three BOOLEAN cells from a text
abbrev read : List Given → String → List ℕ
read G s = asked 1 INT G (text s) 1000

abbrev bytes : List ℕ → List ℕ
bytes bs = asked 2 INT one bs 1000

abbrev truths : String → List ℕ
truths s = asked 1 BOOLEAN three (text s) 1000

-- what the call says and leaves of a buffer of n bytes, all 7
abbrev leaves : String → ℕ → List ℕ → List ℕ → Bool
leaves s n answer after =
    let p : After = read_json 1 INT (map (λ g. g.name) one) (axes_in one) (text s) (replicate n 7) in
    all (same (said Written.one p.answer) answer ∷ same p.buffer after ∷ [])

-- cells read, and refusals
abbrev cells_are : List Cell → List ℕ
cells_are cs = 0 ∷ cells_bytes cs

abbrev at15 : ℕ → List ℕ
at15 i = 15 ∷ 0 ∷ i ∷ []

abbrev at16 : ℕ → List ℕ
at16 i = 16 ∷ 0 ∷ i ∷ []

-- bytes between two texts; `{"a":` and n brackets, closed again, and then `data`
abbrev amid : String → List ℕ → String → List ℕ
amid a bs b = text a ++ (bs ++ text b)

abbrev deep : ℕ → List ℕ
deep n = text "{\"a\":" ++ (concat (replicate n (text "[")) ++ (concat (replicate n (text "]")) ++ text ",\"data\":[1]}"))

-- ---- the table

abbrev pub table : List Bool
table =
    -- the report's examples
    same (read (axis "x" (pos 1) (pos 6) ∷ []) "{ \"data\": [1, 2, 3, 4, 5, 6] }") (cells_are (counted 1 6))
    ∷ same (read (axis "t" (pos 0) (pos 0) ∷ axis "x" (pos 0) (pos 2) ∷ axis "y" (pos 0) (pos 1) ∷ [])
    "{ \"data\": [[[1, 2], [3, 4], [5, 6]]] }") (cells_are (counted 1 6))
    ∷ same (read square "{\"data\":[[1,2],[5,6]]}") (cells_are (ints (pos 1 ∷ pos 2 ∷ pos 5 ∷ pos 6 ∷ [])))
    -- 5.1 blanks before and after; anything else after the object
    ∷ same (read one " \t{\"data\":[1]}\n\r ") (cells_are (counted 1 1))
    ∷ same (read one "{\"data\":[1]} x") (at15 14)
    -- 5.2 a byte order mark, no object, nothing, only blanks
    ∷ same (bytes (0xef ∷ 0xbb ∷ 0xbf ∷ text "{\"data\":[1]}")) (at15 1)
    ∷ same (read one "[1]") (at15 1)
    ∷ same (read one "") (at15 1)
    ∷ same (read one "  ") (at15 3)
    -- 5.3 UTF-8 byte by byte; control bytes; 127
    ∷ same (bytes (amid "{\"" (0xc0 ∷ 0x80 ∷ []) "\":1}")) (at15 3)
    ∷ same (bytes (amid "{\"" (0xf5 ∷ []) "\":1}")) (at15 3)
    ∷ same (bytes (amid "{\"" (0x80 ∷ []) "\":1}")) (at15 3)
    ∷ same (bytes (amid "{\"" (0xe0 ∷ 0x80 ∷ 0x80 ∷ []) "\":1}")) (at15 4)
    ∷ same (bytes (amid "{\"" (0xed ∷ 0xa0 ∷ 0x80 ∷ []) "\":1}")) (at15 4)
    ∷ same (bytes (amid "{\"" (0xf0 ∷ 0x80 ∷ []) "\":1}")) (at15 4)
    ∷ same (bytes (amid "{\"" (0xf4 ∷ 0x90 ∷ []) "\":1}")) (at15 4)
    ∷ same (bytes (amid "{\"" (0xe2 ∷ 0x82 ∷ []) "\":1}")) (at15 5)
    ∷ same (bytes (amid "{\"" (0xe2 ∷ 0x82 ∷ 0xac ∷ 0xf0 ∷ 0x9f ∷ 0x98 ∷ 0x80 ∷ 127 ∷ []) "\":1,\"data\":[1]}"))
    (cells_are (counted 1 1))
    ∷ same (bytes (amid "{\"" (31 ∷ []) "\":1}")) (at15 3)
    -- 5.4 escapes: a lone surrogate, hex in both cases, `data` escaped
    ∷ same (read one "{\"\\ud800\":\"\\uAbCd\\n\\/\",\"data\":[1]}") (cells_are (counted 1 1))
    ∷ same (read one "{\"d\\u0061ta\":[1]}") (cells_are (counted 1 1))
    ∷ same (read one "{\"d\\x\":[1]}") (at15 5)
    ∷ same (read one "{\"d\\u00g\":[1]}") (at15 8)
    -- 5.5 numbers elsewhere, and where they break
    ∷ same (read one "{\"a\":-0.5e+07,\"data\":[1]}") (cells_are (counted 1 1))
    ∷ same (read one "{\"a\":01}") (at15 7)
    ∷ same (read one "{\"a\":-x}") (at15 7)
    ∷ same (read one "{\"a\":-}") (at15 7)
    ∷ same (read one "{\"a\":1.}") (at15 8)
    ∷ same (read one "{\"a\":1") (at15 7)
    ∷ same (read one "{\"a\":tru") (at15 9)
    -- 5.6 sixteen levels, and the seventeenth bracket
    ∷ same (bytes (deep 15)) (cells_are (counted 1 1))
    ∷ same (bytes (deep 16)) (at15 21)
    -- 5.7 a second `data`, in the outermost object only, at once; a fault inside its name wins; the second's quote stands
    ∷ same (read one "{\"data\":[1],\"data\":[1]}") (at15 13)
    ∷ same (read one "{\"data\":1,\"data\"") (at15 11)
    ∷ same (read one "{\"data\":1,\"data") (at15 16)
    ∷ same (read one "{\"data\":1,\"da\\q") (at15 15)
    ∷ same (read one "{\"data\":[1],\"a\":{\"data\":2,\"data\":3}}") (cells_are (counted 1 1))
    ∷ same (read one "{\"data\":1,\"data\":2,\"data\":?") (at15 11)
    -- 5.8 a whole object without `data`: one past the end of the text
    ∷ same (read one "{}  ") (at15 5)
    ∷ same (read one "{\"a\":{\"data\":[1]}}") (at15 19)
    -- 5.9 a fault after a misfit
    ∷ same (read one "{\"data\":2.5]") (at15 12)
    -- 5.10 misfits: too few, too many, a number for a bracket, a bracket for a cell, an object, a string, fraction, exponent, range, kinds
    ∷ same (read three "{\"data\":[1,2]}") (at16 13)
    ∷ same (read three "{\"data\":[1,2,3,4]}") (at16 16)
    ∷ same (read square "{\"data\":[1,2]}") (at16 10)
    ∷ same (read one "{\"data\":[[1]]}") (at16 10)
    ∷ same (read one "{\"data\":{}}") (at16 9)
    ∷ same (read one "{\"data\":[\"1\"]}") (at16 10)
    ∷ same (read one "{\"data\":[1.0]}") (at16 10)
    ∷ same (read one "{\"data\":[ -1e2]}") (at16 11)
    ∷ same (read one "{\"data\":[-9223372036854775809]}") (at16 10)
    ∷ same (read one "{\"data\":[-9223372036854775808]}") (cells_are (Int smallest_int ∷ []))
    ∷ same (read one "{\"data\":[9223372036854775808]}") (at16 10)
    ∷ same (read one "{\"data\":[true]}") (at16 10)
    ∷ same (truths "{\"data\":[true,false,1]}") (at16 21)
    ∷ same (truths "{\"data\":[true,null,false]}") (cells_are (Truth true ∷ Empty ∷ Truth (false) ∷ []))
    ∷ same (read one "{\"data\":null}") (at16 9)
    -- 5.11 -0 is 0
    ∷ same (read one "{\"data\":[-0]}") (cells_are (Int (pos 0) ∷ []))
    -- 5.12, 5.22 the order 1, 2, 7, 15, 16, 14, all with place 0; versions, names and axis counts
    ∷ same (asked 0 4 [] [] 0) (1 ∷ 0 ∷ 0 ∷ [])
    ∷ same (asked 3 INT one (text "{\"data\":[1]}") 9) (1 ∷ 0 ∷ 0 ∷ [])
    ∷ same (asked 1 4 one [] 0) (1 ∷ 0 ∷ 0 ∷ [])
    ∷ same (asked 1 INT [] [] 0) (1 ∷ 0 ∷ 0 ∷ [])
    ∷ same (asked 1 INT five (text "{\"data\":[[[[[1]]]]]}") 9) (1 ∷ 0 ∷ 0 ∷ [])
    ∷ same (asked 2 INT five (text "{\"data\":[[[[[1]]]]]}") 9) (cells_are (counted 1 1))
    ∷ same (asked 1 INT nine (text "{\"data\":[1]}") 9) (2 ∷ 0 ∷ 0 ∷ [])
    ∷ same (asked 2 INT nine (text "{\"data\":[1]}") 9) (cells_are (counted 1 1))
    ∷ same (asked 1 FLOAT (axis "X" (pos 1) (pos 1) ∷ []) [] 0) (2 ∷ 0 ∷ 0 ∷ [])
    ∷ same (asked 1 INT (line 4097) [] 0) (2 ∷ 0 ∷ 0 ∷ [])
    ∷ same (asked 1 FLOAT one [] 0) (7 ∷ 0 ∷ 0 ∷ [])
    ∷ leaves "{\"data\":[}" 8 (at15 10) (replicate 8 7)
    ∷ leaves "{\"data\":[]}" 8 (at16 10) (replicate 8 7)
    ∷ leaves "{\"data\":[1]}" 8 (14 ∷ 0 ∷ 0 ∷ []) (replicate 8 7)
    ∷ leaves "{\"data\":[1]}" 9 (0 ∷ 1 ∷ []) (cells_bytes (counted 1 1))
    ∷ leaves "{\"data\":[1]}" 11 (0 ∷ 1 ∷ []) (cells_bytes (counted 1 1) ++ replicate 2 7)
    -- 5.13 equal names of other members
    ∷ same (read one "{\"a\":1,\"a\":[],\"data\":[1]}") (cells_are (counted 1 1))
    -- 5.15 to 5.21, 5.24
    ∷ same (read (line 2) "{\"data\":[1,{\"a\":[]}]}") (at16 12)
    ∷ same (read one "{\"Data\":[1]}") (at15 13)
    ∷ same (read one "{\"d\\\\u0061ta\":[1]}") (at15 19)
    ∷ same (read one "{\"data\":[[[[[[[[[[[[[[[[1]]]]]]]]]]]]]]]]}") (at15 24)
    ∷ same (read one "{\"a\":\"\\u00") (at15 11)
    ∷ same (read one "{\"data\":[18446744073709551617]}") (at16 10)
    ∷ same (read square "{\"data\":[null,null]}") (at16 10)
    ∷ same (bytes (amid "{" (0xc3 ∷ 0xa9 ∷ []) "}")) (at15 2)
    ∷ []

pub sent_back : all table ≡ true
unfolding opened
sent_back = refl
