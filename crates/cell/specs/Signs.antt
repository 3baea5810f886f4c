-- The top bit of a word, which is the sign of the number that it is read as.
use Rattle.std.specs.Prelude.{ℕ, ◌/◌, ◌^◌, Bool, not, ◌&&◌, ◌==◌}

-- neither x nor y has z's
unfoldable pub signs_apart : ℕ → ℕ → ℕ → Bool
signs_apart x y z = not (x / 2 ^ 63 == z / 2 ^ 63) && not (y / 2 ^ 63 == z / 2 ^ 63)
