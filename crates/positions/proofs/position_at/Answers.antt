-- `positions::position_at` meets its contract.
-- The distance of the number at the byte.
use Rattle.std.proofs.Common.{ℕ, ap, ◌∙◌, w32, to_z}
use Rattle.paper.specs.Numbers.{distance}
use Rattle.positions.proofs.position_at.Goals as goal

pub returns : goal.returns
returns c = c.distance_of.ensures ∙ ap (λ (n : ℕ). distance (to_z w32 n)) c.half.ensures
