-- Paper 02, request [1], "Blank turns listed as rested": comparisons with an empty cell, the single operators 5 to 7 and the question
-- that asked for them, computed from the definitions as one table under one claim.
use Rattle.std.specs.Prelude.{ℕ, ◌≡◌, refl, Bool, true, false, List, [], ◌∷◌, ◌++◌, map, pos, replicate}
use Rattle.std.specs.Float.{fin}
use Rattle.paper.specs.declared.Cell.{Cell}
use Rattle.paper.specs.declared.Cell.TheVariants.{Empty, Int, Float, Truth}
use Rattle.paper.specs.declared.PairOp.TheVariants.{Eq, Ne, Lt, Le, Gt, Ge}
use Rattle.paper.specs.declared.SingleOp.{SingleOp}
use Rattle.paper.specs.declared.SingleOp.TheVariants.{IsTrue, IsFalse, IsUnknown}
use Rattle.paper.specs.Limits.{INT, FLOAT, BOOLEAN, limit_bytes, word_bytes}
use Rattle.paper.specs.Numbers.{le_bytes, distance, position_bytes, concat, same}
use Rattle.paper.specs.Operators.{pair_cell, single_cell}
use Rattle.paper.specs.Listing.{Paged, run, page}
use Rattle.paper.specs.Opened.{opened}
use Rattle.paper.specs.Written.{all, bundle_of, Given, axis, array, step, said, one, is, operated, paged}

-- ---- at one cell

-- all six comparisons give an empty cell
abbrev unknown : Cell → Cell → Bool
unknown a b = all (map (λ o. same (operated (pair_cell o a b)) (is Empty)) (Eq ∷ Ne ∷ Lt ∷ Le ∷ Gt ∷ Ge ∷ []))

-- a single operator gives these for TRUE, FALSE and an empty cell
abbrev valued : SingleOp → Bool → Bool → Bool → Bool
valued o t f e =
    same
    (concat (map (λ c. operated (single_cell o c)) (Truth true ∷ Truth false ∷ Empty ∷ [])))
    (concat (map (λ b. is (Truth b)) (t ∷ f ∷ e ∷ [])))

-- ---- the rests of two people, who 1:2, turn 1:2, in minutes: turn 2 of person 1 is blank

abbrev turns : List Given
turns = axis "who" (pos 1) (pos 2) ∷ axis "turn" (pos 1) (pos 2) ∷ []

abbrev rests : List ℕ
rests = bundle_of (array INT turns (Int (pos 960) ∷ Empty ∷ Int (pos 360) ∷ Int (pos 1560) ∷ []) ∷ [])

-- array 1 below 660; a single operator on an operand
abbrev below660 : List ℕ
below660 = step (10 ∷ 1 ∷ 0 ∷ 0 ∷ []) (8 ∷ 0 ∷ 0 ∷ 0 ∷ le_bytes word_bytes 660)

abbrev single : ℕ → ℕ → List ℕ
single a o = step (12 ∷ a ∷ 0 ∷ 0 ∷ []) (o ∷ [])

-- the listing's answer and its rows, in a buffer with room for four; a row
abbrev listing : List ℕ → Paged
listing recipe = page rests recipe (replicate 108 7) 1 (replicate 48 7)

abbrev row : ℕ → ℕ → ℕ → List ℕ
row o w t = le_bytes limit_bytes o ++ (position_bytes (distance (pos w)) ++ position_bytes (distance (pos t)))

-- the listing of a recipe: these rows, as many as n, and the end
abbrev lists : List ℕ → ℕ → List ℕ → Bool
lists recipe n rows = all (same (said paged (listing recipe).answer) (0 ∷ n ∷ 5 ∷ []) ∷ same (listing recipe).rows rows ∷ [])

-- ---- a single operator on array 1 of a type, with one empty cell

abbrev one_cell : ℕ → List ℕ
one_cell t = bundle_of (array t (axis "i" (pos 1) (pos 1) ∷ []) (Empty ∷ []) ∷ [])

abbrev runs : ℕ → ℕ → List ℕ
runs t o = said one (run (one_cell t) (single 1 o) (replicate 9 7)).answer

-- ---- the table

abbrev pub table : List Bool
table =
    -- a comparison with an empty cell gives an empty cell, on either side, of every type, and of two empty cells
    unknown Empty (Int (pos 660))
    ∷ unknown (Int (pos 660)) Empty
    ∷ unknown Empty (Float (fin false 0 (pos 0)))
    ∷ unknown (Float (fin false 0 (pos 0))) Empty
    ∷ unknown Empty (Truth false)
    ∷ unknown (Truth true) Empty
    ∷ unknown Empty Empty
    -- 5 is-true, 6 is-false, 7 is-unknown, never empty themselves
    ∷ valued IsTrue true false false
    ∷ valued IsFalse false true false
    ∷ valued IsUnknown false false true
    -- NOT of "rest below 660": the turns with rest enough, and not the blank one
    ∷ lists (below660 ++ single 17 3) 2 (row 1 1 1 ++ (row 4 2 2 ++ replicate 24 7))
    -- NOT of is-true of it: the blank one too
    ∷ lists (below660 ++ (single 17 5 ++ single 18 3)) 3 (row 1 1 1 ++ (row 2 1 2 ++ (row 4 2 2 ++ replicate 12 7)))
    -- is-false of it: the turns with rest enough; is-unknown of it: the blank one
    ∷ lists (below660 ++ single 17 6) 2 (row 1 1 1 ++ (row 4 2 2 ++ replicate 24 7))
    ∷ lists (below660 ++ single 17 7) 1 (row 2 1 2 ++ replicate 36 7)
    -- an empty cell is not TRUE: the rests below 660 are as before
    ∷ lists below660 1 (row 3 2 1 ++ replicate 36 7)
    -- single operators 5 to 7 on BOOLEAN are done; on INT and FLOAT 7; 8 is 4
    ∷ same (concat (map (runs BOOLEAN) (5 ∷ 6 ∷ 7 ∷ []))) (0 ∷ 1 ∷ 0 ∷ 1 ∷ 0 ∷ 1 ∷ [])
    ∷ same (concat (map (runs INT) (5 ∷ 6 ∷ 7 ∷ []))) (7 ∷ 1 ∷ 0 ∷ 7 ∷ 1 ∷ 0 ∷ 7 ∷ 1 ∷ 0 ∷ [])
    ∷ same (concat (map (runs FLOAT) (5 ∷ 6 ∷ 7 ∷ []))) (7 ∷ 1 ∷ 0 ∷ 7 ∷ 1 ∷ 0 ∷ 7 ∷ 1 ∷ 0 ∷ [])
    ∷ same (runs BOOLEAN 8) (4 ∷ 1 ∷ 0 ∷ [])
    ∷ []

pub blanks : all table ≡ true
unfolding opened
blanks = refl
