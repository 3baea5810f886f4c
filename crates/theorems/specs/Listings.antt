-- Demand 3: the pages of an accepted listing from ordinality 1, each starting where the last said, until the end is named, are finitely
-- many, and joined they are the rows of the coordinates whose cell is TRUE, once each, in row-major order. TRUE is judged in the values,
-- one whole array at a time; of a page only its answer and its bytes are looked at.
use Prim.Native.Nat.{ℕ, zero, suc, ◌+◌, ◌*◌}
use Rattle.std.specs.Prelude.{eqb, take, if◌then◌else◌, Option, None, Some, Ok, Err}
use Rattle.std.specs.Option.{option_map}
use mathlib.Core.List.{List, ◌++◌}
use Rattle.paper.specs.declared.Listed.{Listed}
use Rattle.paper.specs.Refusals.{Res}
use Rattle.paper.specs.Axes.{cells, Shape, Array, at}
use Rattle.paper.specs.Cells.{is_true}
use Rattle.paper.specs.Listing.{row_bytes, Paged, page}
use Rattle.laws.specs.Places.{coordinates}
use Rattle.laws.specs.Kept.{keep}

-- ---- what is asked

-- the coordinates whose cell is TRUE, in row-major order
unfoldable pub true_coordinates : Array → List (List ℕ)
true_coordinates A = keep (λ p. is_true (at A p)) (coordinates A.shape.axes)

-- the rows that a page wrote, and then those of the pages from where it says to go on; the end is one past the last cell
unfoldable pub page_then : Shape → List ℕ → Res Listed → (ℕ → Option (List ℕ)) → Option (List ℕ)
page_then s rows (Err r) later = None
page_then s rows (Ok l) later =
    let wrote : List ℕ = take (l.written * row_bytes s) rows in
    if eqb l.next.0 (cells s.axes + 1) then Some wrote else option_map (λ more. wrote ++ more) (later l.next.0)

-- the rows of the pages from `start` on, joined, s being the shape of what is listed: page i has work area `area i` and row buffer
-- `buffer i`. None if a call is refused, or if n calls don't name the end
unfoldable pub pages_from : List ℕ → List ℕ → (ℕ → List ℕ) → (ℕ → List ℕ) → Shape → ℕ → ℕ → ℕ → Option (List ℕ)
pages_from bundle recipe area buffer s zero i start = None
pages_from bundle recipe area buffer s (suc n) i start =
    let p : Paged = page bundle recipe (area i) start (buffer i) in
    page_then s p.rows p.answer (λ next. pages_from bundle recipe area buffer s n (i + 1) next)
