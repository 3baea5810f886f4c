-- Paper 02, request [3], "Which axis doesn't match?": each figure that each operation can give, and both sides of each line that it draws,
-- computed from the definitions as one table under one claim.
use Rattle.std.specs.Prelude.{ℕ, ◌*◌, ◌≡◌, refl, Bool, true, List, [], ◌∷◌, map, eqb, replicate, pos}
use Rattle.paper.specs.declared.Operation.{Operation}
use Rattle.paper.specs.declared.Operation.TheVariants.{Moves, Works}
use Rattle.paper.specs.declared.Move.TheVariants.{Update, Put, Glue}
use Rattle.paper.specs.declared.Work.TheVariants.{Pair}
use Rattle.paper.specs.declared.PairOp.TheVariants.{Sub}
use Rattle.paper.specs.Limits.{INT}
use Rattle.paper.specs.Numbers.{same}
use Rattle.paper.specs.Axes.{cells}
use Rattle.paper.specs.Recipe.{agree}
use Rattle.paper.specs.Stretch.{Side, stretch}
use Rattle.paper.specs.Written.{all, Given, axis, axes_in, said}
use Rattle.paper.specs.Opened.{opened}

-- ---- axes

-- n(l:h)
abbrev x12 : Given
x12 = axis "x" (pos 1) (pos 2)

abbrev y12 : Given
y12 = axis "y" (pos 1) (pos 2)

-- x(1:2) y(1:2); t(0:1) and these
abbrev square : List Given
square = x12 ∷ y12 ∷ []

abbrev cube : List Given
cube = axis "t" (pos 0) (pos 1) ∷ square

-- another name, lower limit, upper limit; both limits; all three
abbrev q12 : Given
q12 = axis "q" (pos 1) (pos 2)

abbrev x02 : Given
x02 = axis "x" (pos 0) (pos 2)

abbrev x13 : Given
x13 = axis "x" (pos 1) (pos 3)

abbrev x23 : Given
x23 = axis "x" (pos 2) (pos 3)

abbrev y02 : Given
y02 = axis "y" (pos 0) (pos 2)

abbrev y13 : Given
y13 = axis "y" (pos 1) (pos 3)

abbrev q23 : Given
q23 = axis "q" (pos 2) (pos 3)

-- six axes, the last as given
abbrev six : Given → List Given
six g =
    axis "a" (pos 1) (pos 1) ∷ axis "b" (pos 1) (pos 1) ∷ axis "c" (pos 1) (pos 1) ∷ axis "d" (pos 1) (pos 1) ∷ axis "e" (pos 1) (pos 1)
    ∷ g ∷ []

-- ---- the questions

-- the difference by an operation with axis index k
abbrev differ : Operation → ℕ → List Given → List Given → ℕ
differ op k G H = agree op k (map (λ g. g.name) G) (axes_in G) (map (λ g. g.name) H) (axes_in H)

abbrev pair : List Given → List Given → ℕ
pair G H = differ (Works (Pair Sub)) 0 G H

abbrev update : List Given → List Given → ℕ
update G H = differ (Moves Update) 0 G H

abbrev place : ℕ → List Given → List Given → ℕ
place k G H = differ (Moves Put) k G H

abbrev glue : ℕ → List Given → List Given → ℕ
glue k G H = differ (Moves Glue) k G H

-- what a stretch along axis k answers at its first cell
abbrev side : List Given → Side
side G = record { type = INT; names = map (λ g. g.name) G; axes = axes_in G; bytes = replicate (9 * cells (axes_in G)) 0 }

abbrev stretched : ℕ → List Given → List Given → List ℕ
stretched k G H = said (λ p. []) (stretch 1 (side G) (side H) k 1)

-- ---- the table

abbrev pub table : List Bool
table =
    -- pair: nothing; the number of axes; each figure of each axis
    eqb (pair square square) 0
    ∷ eqb (pair square (x12 ∷ [])) 4
    ∷ eqb (pair square cube) 4
    ∷ eqb (pair square (q12 ∷ y12 ∷ [])) 11
    ∷ eqb (pair square (x02 ∷ y12 ∷ [])) 12
    ∷ eqb (pair square (x13 ∷ y12 ∷ [])) 13
    ∷ eqb (pair square (x12 ∷ q12 ∷ [])) 21
    ∷ eqb (pair square (x12 ∷ y02 ∷ [])) 22
    ∷ eqb (pair square (x12 ∷ y13 ∷ [])) 23
    -- the first axis that differs, and of it name before lower before upper
    ∷ eqb (pair square (x13 ∷ q12 ∷ [])) 13
    ∷ eqb (pair square (x23 ∷ y13 ∷ [])) 12
    ∷ eqb (pair square (q23 ∷ y12 ∷ [])) 11
    ∷ eqb (pair square (y12 ∷ x12 ∷ [])) 11
    -- six axes
    ∷ eqb (pair (six x12) (six q12)) 61
    ∷ eqb (pair (six x12) (six x02)) 62
    ∷ eqb (pair (six x12) (six x13)) 63
    -- update: names alone
    ∷ eqb (update square (x23 ∷ y13 ∷ [])) 0
    ∷ eqb (update square (q12 ∷ y12 ∷ [])) 11
    ∷ eqb (update square (x23 ∷ q12 ∷ [])) 21
    ∷ eqb (update square (x12 ∷ [])) 4
    -- place: names alone, A's axis left out, the index counted in A; into one axis
    ∷ eqb (place 1 cube (x23 ∷ y13 ∷ [])) 0
    ∷ eqb (place 1 cube (q12 ∷ y12 ∷ [])) 21
    ∷ eqb (place 1 cube (x12 ∷ q12 ∷ [])) 31
    ∷ eqb (place 2 cube (q12 ∷ y12 ∷ [])) 11
    ∷ eqb (place 2 cube (axis "t" (pos 0) (pos 1) ∷ q12 ∷ [])) 31
    ∷ eqb (place 3 cube (axis "t" (pos 0) (pos 1) ∷ q12 ∷ [])) 21
    ∷ eqb (place 1 cube cube) 4
    ∷ eqb (place 1 cube (x12 ∷ [])) 4
    ∷ eqb (place 1 (x12 ∷ []) (x12 ∷ [])) 4
    -- glue: all names, and limits but the gluing axis's
    ∷ eqb (glue 1 square (x23 ∷ y12 ∷ [])) 0
    ∷ eqb (glue 1 square (q23 ∷ y12 ∷ [])) 11
    ∷ eqb (glue 1 square (x23 ∷ q12 ∷ [])) 21
    ∷ eqb (glue 1 square (x23 ∷ y02 ∷ [])) 22
    ∷ eqb (glue 1 square (x23 ∷ y13 ∷ [])) 23
    ∷ eqb (glue 2 square (x02 ∷ y13 ∷ [])) 12
    ∷ eqb (glue 2 square (x13 ∷ q12 ∷ [])) 13
    ∷ eqb (glue 2 square (x12 ∷ y13 ∷ [])) 0
    ∷ eqb (glue 1 square cube) 4
    -- a stretch passes it on, with place 0
    ∷ same (stretched 1 square (x23 ∷ y12 ∷ [])) (0 ∷ [])
    ∷ same (stretched 1 square (x23 ∷ y02 ∷ [])) (8 ∷ 0 ∷ 22 ∷ [])
    ∷ same (stretched 2 square (x13 ∷ q12 ∷ [])) (8 ∷ 0 ∷ 13 ∷ [])
    ∷ same (stretched 1 square (x12 ∷ [])) (8 ∷ 0 ∷ 4 ∷ [])
    ∷ []

pub which : all table ≡ true
unfolding opened
which = refl
