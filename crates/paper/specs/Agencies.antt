-- Paper 02, request [2], "JSON for the agencies": the printed example, the three arrays of the report's table 5 without their spaces,
-- and the edges of the call, computed from the definitions as one table under one claim.
use Rattle.std.specs.Prelude.{ℕ, ◌≡◌, refl, Bool, true, false, List, [], ◌∷◌, ◌++◌, pos, negsuc, replicate}
use Prim.Native.String.{String}
use Rattle.paper.specs.declared.Cell.{Cell}
use Rattle.paper.specs.declared.Cell.TheVariants.{Empty, Int, Truth}
use Rattle.paper.specs.Limits.{INT, FLOAT, smallest_int, largest_int}
use Rattle.paper.specs.Numbers.{text, same}
use Rattle.paper.specs.Bundle.{After}
use Rattle.paper.specs.Json.{json_text, write_json}
use Rattle.paper.specs.Opened.{opened}
use Rattle.paper.specs.Written.{all, bundle_of, Given, axes_in, axis, array, ints, counted, said, one, m1}

-- ---- a text alone

abbrev writes : List Given → List Cell → String → Bool
writes G cs t = same (json_text (axes_in G) cs) (text t)

abbrev line : ℕ → List Given
line n = axis "x" (pos 1) (pos n) ∷ []

-- x(1:2), y(1:2)
abbrev square : List Given
square = axis "x" (pos 1) (pos 2) ∷ axis "y" (pos 1) (pos 2) ∷ []

-- i(-1:1), j(-1:1), and t(0:0), x(0:2), y(0:1)
abbrev kernel : List Given
kernel = axis "i" m1 (pos 1) ∷ axis "j" m1 (pos 1) ∷ []

abbrev solid : List Given
solid = axis "t" (pos 0) (pos 0) ∷ axis "x" (pos 0) (pos 2) ∷ axis "y" (pos 0) (pos 1) ∷ []

-- four axes: two positions, one, three, one
abbrev four : List Given
four = axis "a" (pos 5) (pos 6) ∷ axis "b" (pos 0) (pos 0) ∷ axis "c" m1 (pos 1) ∷ axis "d" (pos 9) (pos 9) ∷ []

-- ---- the call

-- array 1 the printed example, array 2 of FLOAT
abbrev bundle : List ℕ
bundle = bundle_of (array INT square (ints (pos 1 ∷ pos 2 ∷ pos 5 ∷ pos 6 ∷ [])) ∷ array FLOAT (line 1) (Empty ∷ []) ∷ [])

-- what the call says and leaves: array k, in a buffer of n bytes, all 7
abbrev call : List ℕ → ℕ → ℕ → After
call bs k n = write_json bs k (replicate n 7)

abbrev leaves : After → List ℕ → List ℕ → Bool
leaves p answer out = all (same (said one p.answer) answer ∷ same p.buffer out ∷ [])

abbrev printed : List ℕ
printed = text "{\"data\":[[1,2],[5,6]]}"

-- ---- the table

abbrev pub table : List Bool
table =
    -- the printed example; the three of table 5
    writes square (ints (pos 1 ∷ pos 2 ∷ pos 5 ∷ pos 6 ∷ [])) "{\"data\":[[1,2],[5,6]]}"
    ∷ writes (line 6) (counted 1 6) "{\"data\":[1,2,3,4,5,6]}"
    ∷ writes kernel (ints (m1 ∷ m1 ∷ m1 ∷ m1 ∷ pos 8 ∷ m1 ∷ m1 ∷ m1 ∷ m1 ∷ [])) "{\"data\":[[-1,-1,-1],[-1,8,-1],[-1,-1,-1]]}"
    ∷ writes solid (counted 1 6) "{\"data\":[[[1,2],[3,4],[5,6]]]}"
    -- the numbers' ends; a single cell; the truth values; an all-empty array; four axes
    ∷ writes (line 3) (Int smallest_int ∷ Empty ∷ Int largest_int ∷ []) "{\"data\":[-9223372036854775808,null,9223372036854775807]}"
    ∷ writes (line 5) (ints (pos 0 ∷ m1 ∷ pos 9 ∷ pos 10 ∷ negsuc 99 ∷ [])) "{\"data\":[0,-1,9,10,-100]}"
    ∷ writes (line 1) (ints (pos 0 ∷ [])) "{\"data\":[0]}"
    ∷ writes (line 3) (Truth true ∷ Empty ∷ Truth false ∷ []) "{\"data\":[true,null,false]}"
    ∷ writes square (replicate 4 Empty) "{\"data\":[[null,null],[null,null]]}"
    ∷ writes four (counted 1 6) "{\"data\":[[[[1],[2],[3]]],[[[4],[5],[6]]]]}"
    -- a buffer of the text's length, a longer one, and one that is a byte short
    ∷ leaves (call bundle 1 22) (0 ∷ 22 ∷ []) printed
    ∷ leaves (call bundle 1 25) (0 ∷ 22 ∷ []) (printed ++ replicate 3 7)
    ∷ leaves (call bundle 1 21) (14 ∷ 0 ∷ 0 ∷ []) (replicate 21 7)
    -- FLOAT is 7 before 14; no such array is 4; a bundle of no bytes is 1
    ∷ leaves (call bundle 2 0) (7 ∷ 2 ∷ 0 ∷ []) []
    ∷ leaves (call bundle 2 30) (7 ∷ 2 ∷ 0 ∷ []) (replicate 30 7)
    ∷ leaves (call bundle 0 30) (4 ∷ 0 ∷ 0 ∷ []) (replicate 30 7)
    ∷ leaves (call bundle 3 30) (4 ∷ 3 ∷ 0 ∷ []) (replicate 30 7)
    ∷ leaves (call [] 1 30) (1 ∷ 0 ∷ 0 ∷ []) (replicate 30 7)
    ∷ []

pub agencies : all table ≡ true
unfolding opened
agencies = refl
