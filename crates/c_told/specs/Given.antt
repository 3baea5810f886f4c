-- What is given: the bytes of each answer. A cell has its nine bytes, as in a bundle; every other figure is a number of four bytes.
use Rattle.std.specs.Prelude.{ℕ, ◌+◌, List, [], ◌∷◌, length, replicate, pos, Some, None, Option}
use Rattle.paper.specs.declared.Cell.{Cell}
use Rattle.paper.specs.declared.Cell.TheVariants.{Int}
use Rattle.paper.specs.declared.Foreseen.{Foreseen}
use Rattle.paper.specs.declared.Listed.{Listed}
use Rattle.paper.specs.declared.Part.{Part}
use Rattle.paper.specs.declared.Part.TheVariants.{Left, Right}
use Rattle.paper.specs.declared.Totalled.{Totalled}
use Rattle.paper.specs.declared.Totalled.TheVariants.{Count, Is}
use Rattle.paper.specs.Limits.{cell_bytes}
use Rattle.paper.specs.Axes.{cells, Shape}
use Rattle.paper.specs.Cells.{encode}
use Rattle.c_told.specs.Said.{numbers}

-- one number: a count, a length, T
abbrev pub number_bytes : ℕ → List ℕ
number_bytes n = numbers (n ∷ [])

-- an array: its type, its axis count, its number of cells, the byte at which they begin
abbrev pub array_bytes : Shape × ℕ → List ℕ
array_bytes (s, at) = numbers (s.type ∷ length s.axes ∷ cells s.axes ∷ at ∷ [])

-- a walk: 1 and the cell; at the end zeros
abbrev pub seen_bytes : Option Cell → List ℕ
seen_bytes (Some c) = 1 ∷ encode c
seen_bytes None = replicate (1 + cell_bytes) 0

-- a total: a cell; a count as an INT cell
abbrev pub total_bytes : Totalled → List ℕ
total_bytes (Count n) = encode (Int (pos n))
total_bytes (Is c) = encode c

-- a plan: T, and the last result's type, axis count and number of cells
abbrev pub foreseen_bytes : Foreseen → List ℕ
foreseen_bytes f = numbers (f.total ∷ f.kind ∷ f.axes ∷ f.cells ∷ [])

-- a page: rows written, where to go on
abbrev pub listed_bytes : Listed → List ℕ
listed_bytes l = numbers (l.written ∷ l.next.0 ∷ [])

-- a stretch: 1 for the left and 2 for the right, the bytes from and up to which it is handed out
abbrev pub part_bytes : Part → List ℕ
part_bytes (Left a e) = numbers (1 ∷ a ∷ e ∷ [])
part_bytes (Right a e) = numbers (2 ∷ a ∷ e ∷ [])
