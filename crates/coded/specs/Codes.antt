-- One number for type and operator, and the cell that a mark and a word stand for where they are known to be a cell's.
use Rattle.std.specs.Prelude.{ℕ, ◌+◌, ◌-◌, ◌*◌, ◌/◌, ◌%◌, ◌≡◌, Bool, false, not, ◌&&◌, ◌||◌, List, [], ◌∷◌, T, eqb, leb, if◌then◌else◌, Option, None, Some, Ok}
use Rattle.std.specs.Float.{binary64}
use Rattle.std.specs.Float.Ieee.{of_bits, nan_bits}
use Rattle.std.specs.Int.{w64}
use Rattle.std.proofs.Common.{to_z}
use Rattle.paper.specs.Limits.{INT, FLOAT}
use Rattle.paper.specs.Cells.{is_type}
use Rattle.paper.specs.Operators.{pair_op, pair_no, single_op, single_no, takes, takes_one, pair_cell, single_cell, Answer}
use Rattle.paper.specs.declared.Cell.{Cell}
use Rattle.paper.specs.declared.Cell.TheVariants.{Empty, Int, Float, Truth}
use Rattle.paper.specs.declared.PairOp.{PairOp}
use Rattle.paper.specs.declared.SingleOp.{SingleOp}

-- the cell of a type that a mark and a word stand for. Of a mark, and of a truth value, the lowest bit counts: the loop joins them bit by bit
unfoldable pub standing : ℕ → ℕ → ℕ → Cell
standing kind mark n =
    if eqb (mark % 2) 0 then Empty else
    (if eqb kind INT then Int (to_z w64 n) else (if eqb kind FLOAT then Float (of_bits binary64 n) else Truth (eqb (n % 2) 1)))

-- the word is no NaN's: so it is of every FLOAT cell, an empty one too
abbrev pub NoNan : ℕ → Type 0
NoNan n = T (not (nan_bits binary64 n))

-- ---- codes, from a type and an operator's number

abbrev pub pair_code : ℕ → ℕ → ℕ
pair_code kind n = (kind - 1) * 16 + n

abbrev pub single_code : ℕ → ℕ → ℕ
single_code kind n = 48 + n * 4 + kind

-- of an operator that takes the type; else 0
unfoldable pub pair_code_of : ℕ → PairOp → ℕ
pair_code_of kind op = if is_type kind && takes op kind then pair_code kind (pair_no op) else 0

unfoldable pub single_code_of : ℕ → SingleOp → ℕ
single_code_of kind op = if is_type kind && takes_one op kind then single_code kind (single_no op) else 0

-- ---- what a code says

-- its type
abbrev pub kind_of : ℕ → ℕ
kind_of code = if leb code 47 then code / 16 + 1 else (code - 48) % 4

abbrev pub by_pair : Option PairOp → Cell → Cell → Answer
by_pair (Some op) a b = pair_cell op a b
by_pair None a b = Ok Empty

abbrev pub by_single : Option SingleOp → Cell → Answer
by_single (Some op) a = single_cell op a
by_single None a = Ok Empty

abbrev pub among : ℕ → List ℕ → Bool
among k [] = false
among k (x ∷ xs) = eqb k x || among k xs

-- the codes of the operators with the types that they take, by type, the highest first
abbrev pub int_codes : List ℕ
int_codes = 11 ∷ 10 ∷ 9 ∷ 8 ∷ 7 ∷ 6 ∷ 5 ∷ 4 ∷ 3 ∷ 2 ∷ 1 ∷ []

abbrev pub float_codes : List ℕ
float_codes = 27 ∷ 26 ∷ 25 ∷ 24 ∷ 23 ∷ 22 ∷ 20 ∷ 19 ∷ 18 ∷ 17 ∷ []

abbrev pub truth_codes : List ℕ
truth_codes = 45 ∷ 44 ∷ 39 ∷ 38 ∷ []

abbrev pub single_codes : List ℕ
single_codes = 79 ∷ 75 ∷ 71 ∷ 67 ∷ 66 ∷ 65 ∷ 63 ∷ 58 ∷ 57 ∷ 54 ∷ 53 ∷ []

abbrev pub known : ℕ → Bool
known code =
    if leb 48 code then among code single_codes else (if leb 32 code then among code truth_codes else (if leb 16 code then among code float_codes else among code int_codes))

-- what a code gives at two cells, of which a single operator sees the first
unfoldable pub code_cell : ℕ → Cell → Cell → Answer
code_cell code a b =
    if known code then (if leb code 47 then by_pair (pair_op (code % 16)) a b else by_single (single_op ((code - 48) / 4)) a) else Ok Empty

-- what is asked of the words: a FLOAT code's are no NaN's
abbrev pub Judged : ℕ → ℕ → ℕ → Type 0
Judged code x y = kind_of code ≡ FLOAT → NoNan x × NoNan y

-- what a code gives at two marks and words
abbrev pub answered : ℕ → ℕ → ℕ → ℕ → ℕ → Answer
answered code i x j y = code_cell code (standing (kind_of code) i x) (standing (kind_of code) j y)
