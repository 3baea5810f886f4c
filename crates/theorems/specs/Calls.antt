-- Demand 3 of the page call as it is written: calls of `run::page`, each starting where the last said, joined until the end is named, are
-- the rows of the coordinates whose cell is TRUE in the last result, once each, in row-major order. It leans on the call's own contract.
use Prim.Native.Nat.{ℕ, zero, suc, ◌+◌, ◌^◌, ◌<◌}
use Rattle.std.specs.Prelude.{◌≡◌, List, Option, None, Ok}
use Rattle.paper.specs.declared.Listed.{Listed}
use Rattle.paper.specs.Axes.{Shape}
use Rattle.theorems.specs.Made.{PageCall, Pages, rows_left}
use Rattle.theorems.specs.Listings.{page_then}

-- call i from `start` on is a page call over work area `area i` and row buffer `buffer i`; the start and where to go on are 32-bit numbers
pub record InTurn (B bs : List ℕ) (area buffer : ℕ → List ℕ) (call : ℕ → ℕ → PageCall) : Type 0 where
  pub made : (i start : ℕ) → start < 2 ^ 32 → Pages B bs (area i) start (buffer i) (call i start)
  pub next : (i start : ℕ) (l : Listed) → (call i start).answer ≡ Ok l → l.next.0 < 2 ^ 32

-- the rows of n calls at most, joined, the first from `start` on; none if one is refused or the end isn't named
unfoldable pub calls_from : (ℕ → ℕ → PageCall) → Shape → ℕ → ℕ → ℕ → Option (List ℕ)
calls_from call s zero i start = None
calls_from call s (suc n) i start =
    page_then s (rows_left (call i start)) ((call i start).answer) (λ next. calls_from call s n (i + 1) next)
