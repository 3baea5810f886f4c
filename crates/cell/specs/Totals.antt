-- What the running totals stand for: an exact total its cells' sum, a mean what is left to do with the cells to come.
use Rattle.std.specs.Prelude.{◌≡◌, ℕ, ◌+◌, ◌*◌, ◌^◌, ◌≤◌, List, length, ℤ, pos, ◌-ℤ◌, ◌==◌, if◌then◌else◌, Ok, Err, Some, None, Option}
use Rattle.std.specs.Float.Ieee as Ieee
use Rattle.paper.specs.declared.Cell.{Cell}
use Rattle.paper.specs.declared.Cell.TheVariants.{Float}
use Rattle.paper.specs.Limits.{most_cells}
use Rattle.paper.specs.Refusals.{Res, ◌>>=◌, refusal, no_fit12}
use Rattle.paper.specs.Totals.{Numbered, int_total, Running, sum_on, float_sum}
use Rattle.cell.specs.declared.sums.Exact.{Exact}
use Rattle.cell.specs.declared.means.Mean.{Mean}

-- the distances above the smallest INT, by their halves, less 2 ^ 63 for each cell
abbrev pub worth : Exact → ℤ
worth t = pos (t.high * 2 ^ 32 + t.low) -ℤ pos (t.count * 2 ^ 63)

-- t holds these cells, and has room in its fields for an array's
pub record Sums (t : Exact) (cs : List Numbered) : Type 0 where
  pub few : t.count ≤ most_cells
  pub count : t.count ≡ length cs
  pub highs : t.high ≤ t.count * 2 ^ 32
  pub lows : t.low ≤ t.count * 2 ^ 32
  pub total : worth t ≡ int_total cs

-- the running sum that a mean stands for
abbrev pub running : Mean → Running
running m = record { sum = m.sum; count = m.count }

-- with these cells to come: from the first of them, or on from the sum
unfoldable pub onward : (Running → Ieee.Float) → ℕ → Mean → List Numbered → Res Cell
onward made k m cs = if m.count == 0 then float_sum made k cs else (sum_on k (running m) cs >>= (λ r. Ok (Float (made r))))

-- and after a cell of ordinality o was added: 12 names that cell
unfoldable pub after : (Running → Ieee.Float) → ℕ → ℕ → Option Mean → List Numbered → Res Cell
after made k o (Some m) cs = onward made k m cs
after made k o None cs = Err (refusal no_fit12 k o)

-- the number of cells in the mean that goes on
abbrev pub counted : Option Mean → ℕ
counted (Some m) = m.count
counted None = 0
