-- Paper 02, request [6], "Longer names, six axes": both sides of each line that it draws, computed from the definitions as one table
-- under one claim.
use Rattle.std.specs.Prelude.{ℕ, ◌≡◌, refl, Bool, true, List, [], ◌∷◌, ◌++◌, map, length, take, drop, replicate, ℤ, pos, Ok}
use Rattle.paper.specs.declared.Sizes.{Sizes}
use Rattle.paper.specs.declared.Cell.{Cell}
use Rattle.paper.specs.declared.Cell.TheVariants.{Int}
use Rattle.paper.specs.Limits.{INT, version1, version2}
use Rattle.paper.specs.Refusals.{◌>>=◌}
use Rattle.paper.specs.Numbers.{le_bytes, text, distance, position_bytes, same, concat}
use Rattle.paper.specs.Axes.{letters_of, Array}
use Rattle.paper.specs.Cells.{encode, cells_bytes}
use Rattle.paper.specs.Bundle.{read_bundle, bundle_bytes, pack}
use Rattle.paper.specs.Reference.{reference}
use Rattle.paper.specs.Listing.{plan, run, page}
use Rattle.paper.specs.Stretch.{Side, stretch}
use Rattle.paper.specs.Rests.{rests}
use Rattle.paper.specs.Written.{all, Given, axis, array, counted, step_for, said, one, is}
use Rattle.paper.specs.Opened.{opened}

-- ---- arrays

-- six axes, of one, two, one, one, one and two positions, named by up to sixteen letters
abbrev six : List Given
six =
    axis "a" (pos 1) (pos 1) ∷ axis "location_of_work" (pos 1) (pos 2) ∷ axis "c" (pos 0) (pos 0) ∷ axis "d" (pos 5) (pos 5)
    ∷ axis "location" (pos 7) (pos 7) ∷ axis "f" (pos 3) (pos 4) ∷ []

-- one axis with a name of 8, 9, 16 letters
abbrev line : Given → List Given
line g = g ∷ []

abbrev eight : List Given
eight = line (axis "location" (pos 1) (pos 2))

abbrev nine : List Given
nine = line (axis "locations" (pos 1) (pos 2))

-- five axes of one position each
abbrev five : List Given
five =
    axis "a" (pos 1) (pos 1) ∷ axis "b" (pos 1) (pos 1) ∷ axis "c" (pos 1) (pos 1) ∷ axis "d" (pos 1) (pos 1)
    ∷ axis "e" (pos 1) (pos 1) ∷ []

abbrev bundle : Sizes → List Given → List ℕ
bundle z G = bundle_bytes z (array INT G (counted 1 2) ∷ [])

abbrev sixes : List ℕ
sixes = bundle_bytes version2 (array INT six (counted 1 4) ∷ [])

-- ---- the questions

-- how many arrays are read
abbrev reads : List ℕ → List ℕ
reads bs = said one (read_bundle bs >>= (λ As. Ok (length As)))

-- a bundle with other version bytes
abbrev versioned : ℕ → ℕ → List ℕ → List ℕ
versioned lo hi bs = take 3 bs ++ (lo ∷ hi ∷ drop 5 bs)

-- is-empty of array 1, and so many steps of it; its axes renamed
abbrev empties : Sizes → List ℕ
empties z = step_for z (12 ∷ 1 ∷ 0 ∷ 0 ∷ []) (4 ∷ [])

abbrev steps : ℕ → List ℕ
steps n = concat (replicate n (empties version2))

abbrev renames : List Given → List ℕ
renames G = step_for version2 (5 ∷ 1 ∷ 0 ∷ 0 ∷ []) (concat (map (λ g. letters_of g.name) G))

-- T; and a run with room for four cells
abbrev plans : List ℕ → List ℕ → List ℕ
plans bs recipe = said (λ f. one f.total) (plan bs recipe)

abbrev runs : List ℕ → List ℕ → List ℕ
runs bs recipe = said one (run bs recipe (replicate 36 7)).answer

-- packing one array, told a version, and what it leaves
abbrev packs : ℕ → List Given → List Cell → List ℕ
packs v G cs = said one (pack v ((array INT G cs).shape ∷ []) (cells_bytes cs) (replicate 250 7)).answer

-- a stretch of two such arrays glued on axis 1, told a version
abbrev side : List Given → List Cell → Side
side G cs = let A : Array = array INT G cs in record { type = INT; names = A.shape.names; axes = A.shape.axes; bytes = cells_bytes cs }

abbrev stretches : ℕ → List Given → List Given → List ℕ
stretches v G H = said (λ p. []) (stretch v (side G (counted 1 2)) (side H (counted 1 2)) 1 1)

-- two of the cells are over 2: a listing of six axes, rows of 28 bytes
abbrev over_two : List ℕ
over_two = step_for version2 (10 ∷ 1 ∷ 0 ∷ 0 ∷ []) (10 ∷ 0 ∷ 0 ∷ 0 ∷ le_bytes 8 2)

abbrev listing : List ℕ
listing = (page sixes over_two (replicate 36 7) 1 (replicate 60 7)).rows

abbrev positions : List ℤ → List ℕ
positions zs = concat (map (λ z. position_bytes (distance z)) zs)

-- ---- the table

abbrev pub table : List Bool
table =
    -- a bundle of version 2 with six axes is read, and referred to; its axes have 32 bytes each
    same (reads sixes) (0 ∷ 1 ∷ [])
    ∷ same (one (length sixes)) (one 236)
    ∷ same (said encode (reference sixes 1 (pos 1 ∷ pos 2 ∷ pos 0 ∷ pos 5 ∷ pos 7 ∷ pos 4 ∷ []))) (is (Int (pos 4)))
    -- other versions are refused: 0, 3, and 2 in the high byte
    ∷ same (reads (versioned 0 0 sixes)) (1 ∷ 0 ∷ 0 ∷ [])
    ∷ same (reads (versioned 3 0 sixes)) (1 ∷ 0 ∷ 0 ∷ [])
    ∷ same (reads (versioned 2 1 sixes)) (1 ∷ 0 ∷ 0 ∷ [])
    -- version 1 with five axes stays 1; version 2 takes them
    ∷ same (reads (bundle_bytes version1 (array INT five (counted 1 1) ∷ []))) (1 ∷ 1 ∷ 0 ∷ [])
    ∷ same (reads (bundle_bytes version2 (array INT five (counted 1 1) ∷ []))) (0 ∷ 1 ∷ [])
    -- recipes of 36 and of 100 bytes a step, each with its own version; a mixed pair is 4
    ∷ same (runs (bundle version1 eight) (empties version1)) (0 ∷ 2 ∷ [])
    ∷ same (runs (bundle version2 eight) (empties version2)) (0 ∷ 2 ∷ [])
    ∷ same (runs (bundle version1 eight) (empties version2)) (4 ∷ 0 ∷ 0 ∷ [])
    ∷ same (runs (bundle version2 eight) (empties version1)) (4 ∷ 0 ∷ 0 ∷ [])
    -- up to sixteen steps, 1,600 bytes; a byte of detail past the 32nd counts
    ∷ same (plans (bundle version2 nine) (steps 16)) (0 ∷ 32 ∷ [])
    ∷ same (plans (bundle version2 nine) (steps 17)) (4 ∷ 0 ∷ 0 ∷ [])
    ∷ same (runs (bundle version2 nine) (take 60 (empties version2) ++ (1 ∷ replicate 39 0))) (4 ∷ 1 ∷ 0 ∷ [])
    -- rename: six names of sixteen bytes; a slot past A's axes is zero, else 4
    ∷ same (runs sixes (renames six)) (0 ∷ 4 ∷ [])
    ∷ same (runs (bundle version2 eight) (renames nine)) (0 ∷ 2 ∷ [])
    ∷ same (runs (bundle version2 eight) (renames (nine ++ eight))) (4 ∷ 1 ∷ 0 ∷ [])
    -- packing: told 1 or 2, another is 1 before all else; over 8 letters is 2 in version 1
    ∷ same (packs 1 eight (counted 1 2)) (0 ∷ 50 ∷ [])
    ∷ same (packs 2 eight (counted 1 2)) (0 ∷ 58 ∷ [])
    ∷ same (packs 1 nine (counted 1 2)) (2 ∷ 1 ∷ 0 ∷ [])
    ∷ same (packs 2 nine (counted 1 2)) (0 ∷ 58 ∷ [])
    ∷ same (packs 1 five (counted 1 1)) (1 ∷ 1 ∷ 0 ∷ [])
    ∷ same (packs 2 five (counted 1 1)) (0 ∷ 177 ∷ [])
    ∷ same (packs 0 nine []) (1 ∷ 0 ∷ 0 ∷ [])
    ∷ same (packs 3 eight (counted 1 2)) (1 ∷ 0 ∷ 0 ∷ [])
    ∷ same (packs 65537 eight (counted 1 2)) (1 ∷ 0 ∷ 0 ∷ [])
    -- a stretch: the version first, with place 0; a name too long is 2 with its side's place
    ∷ same (stretches 1 eight eight) (0 ∷ [])
    ∷ same (stretches 2 nine nine) (0 ∷ [])
    ∷ same (stretches 1 nine eight) (2 ∷ 1 ∷ 0 ∷ [])
    ∷ same (stretches 1 eight nine) (2 ∷ 2 ∷ 0 ∷ [])
    ∷ same (stretches 3 nine nine) (1 ∷ 0 ∷ 0 ∷ [])
    -- the rows of six axes: ordinalities 3 and 4, as bytes and as `rests` prints them
    ∷ same listing
    ((3 ∷ 0 ∷ 0 ∷ 0 ∷ positions (pos 1 ∷ pos 2 ∷ pos 0 ∷ pos 5 ∷ pos 7 ∷ pos 3 ∷ []))
    ++ ((4 ∷ 0 ∷ 0 ∷ 0 ∷ positions (pos 1 ∷ pos 2 ∷ pos 0 ∷ pos 5 ∷ pos 7 ∷ pos 4 ∷ [])) ++ replicate 4 7))
    ∷ same (rests sixes over_two) (text "found 2\n3 1 2 0 5 7 3\n4 1 2 0 5 7 4\n")
    ∷ []

pub versions : all table ≡ true
unfolding opened
versions = refl
