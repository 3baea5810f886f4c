-- `extent::names::goes_on`: what its loops keep.
use Rattle.std.proofs.Common.{ℕ, ◌-◌, List, ◌++◌, ◌≡◌}
use Rattle.extent.specs.Names.{Left}
use Rattle.paper.specs.Axes.{name_rest}
use Rattle.paper.specs.Limits.{half_name}
use Rattle.paper.specs.Numbers.{le_bytes}
use Rattle.extent.proofs.names.goes_on.Given as goal

abbrev pub invariant-loop-at : goal.invariant-loop-at
invariant-loop-at l =
    Left l._at l.left × ((R : List ℕ) → name_rest (le_bytes (half_name - l._at) l.left ++ R) ≡ name_rest (le_bytes (half_name - l.i) l.n ++ R))
