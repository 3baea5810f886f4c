-- `json_write::cells_length` meets its contract: what is counted and what is left are the bytes of all.
use Rattle.std.proofs.Common.{ℕ, ◌+◌, ◌-◌, ◌*◌, ◌≤◌, ◌≡◌, ap, ◌∙◌, zero-add, mul-le-mul_right, arith, length}
use native.Mathlib.Nat.{sub-zero}
use Rattle.paper.specs.declared.Cell.{Cell}
use Rattle.paper.specs.Limits.{most_cells}
use Rattle.paper.specs.Json.{cell_text}
use Rattle.decimal.specs.Digits.{most_signed}
use Rattle.json_write.specs.Lengths.{cells_long, long-more, long-end, cells-most}
use Rattle.json_write.specs.Whole.{cell_by}
use Rattle.json_write.proofs.cells_length.Goals as goal
use Rattle.json_write.proofs.cells_length.Goals.{After-cell_length-long}

-- one cell more
module _ (c : After-cell_length-long) where
  abbrev f : ℕ → Cell
  f = cell_by c.args.s.now c.args.from c.args.kind

  abbrev i : ℕ
  i = c.loop-i.i

  abbrev n : ℕ
  n = c.args.n

  counted : c.cell_length-long.result ≡ length (cell_text (f i))
  counted = c.cell_length-long.ensures ∙ ap (λ (x : Cell). length (cell_text x)) c.held_cell.ensures

  more : cells_long f i (n - i) ≡ length (cell_text (f i)) + cells_long f (i + 1) (n - (i + 1))
  more = long-more f i n c.loop-i-test.true

  few : cells_long f 0 n ≤ most_cells * most_signed
  few = omega (arith, cells-most f n 0, mul-le-mul_right most_signed c.requires.1)

pub loop-i-init : goal.loop-i-init
loop-i-init c = simp (zero-add, sub-zero)

pub held_cell-requires : goal.held_cell-requires
held_cell-requires c = omega (arith, c.requires.0)

pub overflow_add-long : goal.overflow_add-long
overflow_add-long c =
    let a = (goal.at.overflow_add-long c).After-cell_length-long in
    omega (arith, c.loop-i.invariant, counted a, more a, few a)

pub loop-i-preserved : goal.loop-i-preserved
loop-i-preserved c =
    let a = (goal.at.loop-i-preserved c).After-cell_length-long in
    omega (arith, c.loop-i.invariant, counted a, more a)

pub returns : goal.returns
returns c =
    let v = c.loop-i in
    omega (arith, v.invariant, long-end (cell_by c.args.s.now c.args.from c.args.kind) v.i c.args.n c.loop-i-test.false)
