-- "Eleven hours, whole": the example of two workers and three turns, computed from the definitions as one table under one claim.
use Rattle.std.specs.Prelude.{ℕ, ◌*◌, ◌≡◌, refl, Bool, true, List, [], ◌∷◌, ◌++◌, replicate, pos}
use Rattle.paper.specs.declared.Cell.{Cell}
use Rattle.paper.specs.Limits.{INT, word_bytes}
use Rattle.paper.specs.Numbers.{le_bytes, text, distance, position_bytes, same, part}
use Rattle.paper.specs.Cells.{cells_bytes}
use Rattle.paper.specs.Listing.{Paged, run, page}
use Rattle.paper.specs.Rests.{rests}
use Rattle.paper.specs.Opened.{opened}
use Rattle.paper.specs.Written.{all, bundle_of, Given, m1, axis, array, ints, step, numbers, said, one, paged}

-- ---- the roster: who 1:2, turn 1:3, minutes from Monday 00:00

abbrev turns : List Given
turns = axis "who" (pos 1) (pos 2) ∷ axis "turn" (pos 1) (pos 3) ∷ []

abbrev starts : List Cell
starts = ints (pos 1320 ∷ pos 2760 ∷ pos 4200 ∷ pos 360 ∷ pos 1200 ∷ pos 3240 ∷ [])

abbrev ends : List Cell
ends = ints (pos 1800 ∷ pos 3240 ∷ pos 4680 ∷ pos 840 ∷ pos 1680 ∷ pos 3720 ∷ [])

abbrev roster : List ℕ
roster = bundle_of (array INT turns starts ∷ array INT turns ends ∷ [])

-- ---- the recipe

-- trim an array to turns l:h of both workers
abbrev trim_turns : ℕ → ℕ → ℕ → List ℕ
trim_turns a l h = step (1 ∷ a ∷ 0 ∷ 0 ∷ []) (numbers (pos 1 ∷ pos 2 ∷ pos l ∷ pos h ∷ []))

-- an operand less another; an operand below 660
abbrev less : ℕ → ℕ → List ℕ
less a b = step (9 ∷ a ∷ b ∷ 0 ∷ []) (2 ∷ [])

abbrev below660 : ℕ → List ℕ
below660 a = step (10 ∷ a ∷ 0 ∷ 0 ∷ []) (8 ∷ 0 ∷ 0 ∷ 0 ∷ le_bytes word_bytes 660)

-- trim 1 to turns 2:3; shift by 0, -1; trim 2 to turns 1:2; step 2 less step 3; that below 660
abbrev recipe : List ℕ
recipe =
    trim_turns 1 2 3
    ++ (step (4 ∷ 17 ∷ 0 ∷ 0 ∷ []) (numbers (pos 0 ∷ m1 ∷ [])) ++ (trim_turns 2 1 2 ++ (less 18 19 ++ below660 20)))

-- the one that forgot the shift
abbrev unshifted : List ℕ
unshifted = trim_turns 1 2 3 ++ (trim_turns 2 1 2 ++ (less 17 18 ++ below660 19))

-- ---- the table

-- a page call with room for two rows
abbrev page_from : ℕ → Paged
page_from start = page roster recipe (replicate 180 7) start (replicate 25 7)

abbrev pub table : List Bool
table =
    -- the listing: one row, ordinality 3, who 2, turn 1; then one past the last cell's; the bytes after the row stay
    same (said paged (page_from 1).answer) (0 ∷ 1 ∷ 5 ∷ [])
    ∷ same (page_from 1).rows ((3 ∷ 0 ∷ 0 ∷ 0 ∷ position_bytes (distance (pos 2))) ++ (position_bytes (distance (pos 1)) ++ replicate 13 7))
    -- the values: the rests, step 4's four cells after twelve others, are 960 960, 360 1560
    ∷ same (part (9 * 12) (9 * 4) (run roster recipe (replicate 180 7)).buffer) (cells_bytes (ints (pos 960 ∷ pos 960 ∷ pos 360 ∷ pos 1560 ∷ [])))
    -- the work area: 180 bytes done, 179 refused 10
    ∷ same (said one (run roster recipe (replicate 180 7)).answer) (0 ∷ 20 ∷ [])
    ∷ same (said one (run roster recipe (replicate 179 7)).answer) (10 ∷ 0 ∷ 0 ∷ [])
    -- what is printed, with the shift and without
    ∷ same (rests roster recipe) (text "found 1\n3 2 1\n")
    ∷ same (rests roster unshifted) (text "refused 8 3 22\n")
    ∷ []

pub eleven-hours : all table ≡ true
unfolding opened
eleven-hours = refl
