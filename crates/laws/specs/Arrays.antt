-- An array's cells: the one at a coordinate is the one at its ordinality, and outside the extent there is none.
use Rattle.std.specs.Prelude.{ℕ, ◌+◌, ◌-◌, ◌≡◌, false, List}
use Rattle.std.proofs.Common.{ap}
use native.Mathlib.Omega.{arith}
use Rattle.std.proofs.Math.ListN.{get_or}
use Rattle.paper.specs.declared.Cell.TheVariants.{Empty}
use Rattle.paper.specs.Axes.{inside, offset, ordinality, Array, cell_no, at}
use Rattle.laws.specs.Places.{Inside, true-inside}

module _ (A : Array) where
  pub at-inside : (p : List ℕ) → Inside A.shape.axes p → at A p ≡ get_or A.cells (offset A.shape.axes p) Empty
  unfolding at
  at-inside p h =
      let e : offset A.shape.axes p + 1 - 1 ≡ offset A.shape.axes p = omega arith in
      rw (true-inside A.shape.axes p h) (ap (λ (n : ℕ). get_or A.cells n Empty) e)

  pub at-outside : (p : List ℕ) → inside A.shape.axes p ≡ false → at A p ≡ Empty
  unfolding at
  at-outside p e = rw e

  -- by ordinality
  pub at-ordinality : (p : List ℕ) → Inside A.shape.axes p → at A p ≡ cell_no A (ordinality A.shape.axes p)
  unfolding at
  at-ordinality p h = rw (true-inside A.shape.axes p h)
