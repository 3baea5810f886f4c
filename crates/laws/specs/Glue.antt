-- Two arrays glued along an axis. The glued array goes in blocks, one for each coordinate of the axes before: a block of the first
-- array, then the same block of the second, where a block is the cells of the gluing axis and the axes after it.
use Rattle.std.specs.Prelude.{ℕ, ◌+◌, ◌-◌, ◌*◌, ◌/◌, ◌%◌, get_or, drop, if◌then◌else◌}
use mathlib.Core.List.{List}
use Rattle.std.proofs.Math.Dec.{ltb}
use Rattle.paper.specs.declared.Axis.{Axis}
use Rattle.paper.specs.Axes.{width, cells, limited}

-- a's axis made longer by b's
abbrev pub glued_axis : Axis → Axis → Axis
glued_axis a b = limited a.lo (a.hi + width b)

-- with m cells of one list and n of another in turn, again and again: how many such turns lie before cell j, how far it is into
-- its turn, and the cell
abbrev pub turn : ℕ → ℕ → ℕ → ℕ
turn m n j = j / (m + n)

abbrev pub in_turn : ℕ → ℕ → ℕ → ℕ
in_turn m n j = j % (m + n)

abbrev pub by_turns : {C : Type 0} → C → ℕ → ℕ → List C → List C → ℕ → C
by_turns d m n cs ds j =
    if ltb (in_turn m n j) m then get_or cs (turn m n j * m + in_turn m n j) d
    else get_or ds (turn m n j * n + (in_turn m n j - m)) d

-- the cells of a block: of axis k and the axes after it
abbrev pub block_cells : ℕ → List Axis → ℕ
block_cells k E = cells (drop (k - 1) E)
