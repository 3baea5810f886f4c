-- A position moved by a signed 32-bit amount, on the distances: an amount in the lower half of the bits raises the distance, one in the
-- upper half lowers it, and below the range there is no position.
use Rattle.std.specs.Prelude.{◌≡◌, refl, Bool, true, false, ℕ, ◌+◌, ◌-◌, ◌*◌, ◌^◌, ◌≤◌, ◌<◌, ltb, ℤ, ◌+ℤ◌, if◌then◌else◌}
use Rattle.std.proofs.Common.{sym, ap, arith, ltb-true, ltb-false, to_z, of_z}
use Rattle.std.specs.Int.{w32}
use Rattle.paper.specs.Limits.{reach}
use Rattle.paper.specs.Numbers.{position, distance, no_position, moved}
use Rattle.laws.specs.Parts.{up, dn, One, one-part, add_parts, parts-eq, to_z-low, to_z-high, bits-low, bits-high}
use Rattle.laws.specs.Positions.{position-parts, distance-from, distance-low}

-- d is the distance of a position
pub record Near (d : ℕ) : Type 0 where
  pub near : d ≤ 2 * reach

-- the distance m lower than d
abbrev pub lower : ℕ → ℕ → ℕ
lower d m = if ltb d m then no_position else d - m

-- the half of the bits at which a signed number turns negative, and the amount of the bits n in the upper half
abbrev pub turning : ℕ
turning = 2 ^ 31

abbrev pub amount : ℕ → ℕ
amount n = no_position - n + 1

-- ---- a number d - reach + m, and one d - reach - m

risen : (z : ℤ) (d m : ℕ) → up z + reach ≡ d + m + dn z → One z → d + m ≡ distance z
risen z d m e o = omega (arith, distance-from z (omega arith))

sunk : (z : ℤ) (d m : ℕ) → up z + reach + m ≡ d + dn z → One z → lower d m ≡ distance z
sunk z d m e o = by (ltb d m) refl
  where
    by : (b : Bool) → ltb d m ≡ b → (if b then no_position else d - m) ≡ distance z
    by true q = let l = ltb-true d m q in sym (distance-low z (omega arith))
    by false q = let l = ltb-false d m q in omega (arith, distance-from z (omega arith))

module _ (d n : ℕ) where
  pub moved_up : n < turning → d + n ≡ moved d (to_z w32 n)
  moved_up h = risen (position d +ℤ to_z w32 n) d n (omega (arith, position-parts d, add_parts (position d) (to_z w32 n), to_z-low w32 n h)) (one-part (position d +ℤ to_z w32 n))

  pub moved_down : turning ≤ n → n < 2 ^ 32 → lower d (amount n) ≡ moved d (to_z w32 n)
  moved_down h k = sunk (position d +ℤ to_z w32 n) d (amount n) (omega (arith, position-parts d, add_parts (position d) (to_z w32 n), to_z-high w32 n h k)) (one-part (position d +ℤ to_z w32 n))

-- 0 moved by a number is that number
pub from_zero : (z : ℤ) → moved reach z ≡ distance z
from_zero z = ap distance (parts-eq (position reach +ℤ z) z (omega (arith, position-parts reach, add_parts (position reach) z, one-part z)))

-- ---- a position's bits

pub bits_below : (d : ℕ) → d < reach → d + (2 ^ 32 - reach) ≡ of_z w32 (position d)
bits_below d h = omega (arith, position-parts d, bits-high w32 (position d) (omega (arith, position-parts d)) (omega (arith, position-parts d)))

pub bits-from : (d : ℕ) → reach ≤ d → d - reach ≡ of_z w32 (position d)
bits-from d h = omega (arith, position-parts d, bits-low w32 (position d) (omega (arith, position-parts d)))
