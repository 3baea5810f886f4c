-- Demand 3 of the page call as it is written: calls of `run::page`, each starting where the last said, joined until the end is named, are
-- the rows of the coordinates whose cell is TRUE in the last result, once each, in row-major order. It leans on the call's own contract.
use Prim.Native.Nat.{ℕ, zero, suc, ◌+◌, ◌^◌, ◌≤◌, ◌<◌}
use Rattle.std.specs.Prelude.{◌≡◌, List, map, length, Option, Some, Ok, Err}
use Rattle.paper.specs.Refusals.{Res}
use Rattle.std.proofs.Math.Path.{refl, ap}
use Rattle.std.proofs.Common.{◌∙◌, arith}
use Rattle.paper.specs.declared.Listed.{Listed}
use Rattle.paper.specs.Limits.{BOOLEAN}
use Rattle.paper.specs.Numbers.{last_of, concat}
use Rattle.paper.specs.Axes.{cells, Shape, Array}
use Rattle.paper.specs.Recipe.{Planned}
use Rattle.paper.specs.Values.{values, no_array}
use Rattle.paper.specs.Listing.{planned, bytes_of_all, last_shape, row_bytes, Paged}
use Rattle.laws.specs.Rows.{row_of}
use Rattle.theorems.specs.Made.{PageCall, rows_left, pages}
use Rattle.theorems.specs.Listings.{true_coordinates, page_then, pages_from}
use Rattle.theorems.proofs.Listings.{demand-3}
use Rattle.theorems.specs.Calls.{InTurn, calls_from}

-- only where the page says to go on is looked at
then_same : (s : Shape) (rows : List ℕ) (a : Res Listed) (f g : ℕ → Option (List ℕ))
    → ((l : Listed) → a ≡ Ok l → f l.next.0 ≡ g l.next.0) → page_then s rows a f ≡ page_then s rows a g
unfolding page_then
then_same s rows (Ok l) f g h = rw (h l refl)
then_same s rows (Err r) f g h = refl

module _ (B bs : List ℕ) (area buffer : ℕ → List ℕ) (call : ℕ → ℕ → PageCall) (k : InTurn B bs area buffer call) where
  calls-pages : (s : Shape) (n i start : ℕ) → start < 2 ^ 32 → calls_from call s n i start ≡ pages_from B bs area buffer s n i start
  unfolding calls_from pages_from
  calls-pages s zero i start h = refl
  calls-pages s (suc n) i start h =
      then_same s (rows_left (call i start)) (call i start).answer _ _ (λ l e. calls-pages s n (i + 1) l.next.0 (k.next i start l e))
      ∙ ap (λ (p : Paged). page_then s p.rows p.answer (λ next. pages_from B bs area buffer s n (i + 1) next))
      (pages (call i start) (k.made i start h))

  pub demand-3-of-calls : (As : List Array) (ps : List Planned) (Rs : List Array)
      → planned B bs ≡ Ok (As, ps) → (last_shape ps).type ≡ BOOLEAN → values As ps ≡ Ok Rs
      → ((i : ℕ) → bytes_of_all ps ≤ length (area i)) → ((i : ℕ) → row_bytes (last_shape ps) ≤ length (buffer i))
      → let A : Array = last_of no_array Rs in
      calls_from call (last_shape ps) (cells A.shape.axes) 0 1 ≡ Some (concat (map (row_of A.shape.axes) (true_coordinates A)))
  demand-3-of-calls As ps Rs e t v w r =
      calls-pages (last_shape ps) (cells (last_of no_array Rs).shape.axes) 0 1 (omega arith) ∙ demand-3 B bs area buffer As ps Rs e t v w r
