-- Positions: the distance that carries a position, the position itself and its four bytes give one another back. So the order and the
-- differences of positions are those of their distances.
use Rattle.std.specs.Prelude.{◌≡◌, ℕ, ◌*◌, ◌≤◌}
use Rattle.std.proofs.Common.{ap, ◌∙◌, to_z, of_z}
use Rattle.std.specs.Int.{w32}
use mir.ValLaws.{to_z-of_z, of_z_fits}
use Rattle.paper.specs.Limits.{reach, limit_bytes}
use Rattle.paper.specs.Numbers.{le_of, position, distance, position_bytes}
use Rattle.laws.specs.Numbers.{le_of-le_bytes}
use Rattle.laws.specs.Positions.{distance_back, position-fits, four-lt}

-- a position's bytes are read as that position
pub position-read : (d : ℕ) → d ≤ 2 * reach → distance (to_z w32 (le_of (position_bytes d))) ≡ d
position-read d h =
    ap (λ (n : ℕ). distance (to_z w32 n)) (le_of-le_bytes limit_bytes (of_z w32 (position d)) (four-lt _ (of_z_fits w32 (position d) (position-fits d h)).fits))
    ∙ ap distance (to_z-of_z w32 (position d) (position-fits d h)) ∙ distance_back d h
