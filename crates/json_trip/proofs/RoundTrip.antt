-- "Writing and then reading with the same type and extent gives the same cells": of cells, of valid arrays, and of whatever is written of
-- a bundle; and what a refusal leaves.
use Rattle.std.specs.Prelude.{ℕ, ◌*◌, ◌≤◌, ◌≡◌, false, not, eqb, leb, length, Ok}
use Rattle.std.proofs.Common.{sym, ◌∙◌}
use Rattle.std.proofs.Math.Path.{ap}
use mathlib.Core.List.{List}
use Rattle.std.proofs.lemmas.Bool.{not-true}
use Rattle.paper.specs.declared.Version.{Version}
use Rattle.paper.specs.Limits.{FLOAT, cell_bytes, sizes_of}
use Rattle.paper.specs.Refusals.{unfit7, small_output14}
use Rattle.paper.specs.Axes.{cells, Array}
use Rattle.paper.specs.Bundle.{version_told, version_in, sizes_in}
use Rattle.paper.specs.Reference.{chosen}
use Rattle.paper.specs.Json.{json_text, written}
use Rattle.paper.specs.JsonRead.{cells_in}
use Rattle.laws.specs.Numbers.{Bytes}
use Rattle.laws.specs.Tests.{bind-got, ensure-got, got-one}
use Rattle.roundtrip.specs.Valid.{Valid}
use Rattle.json_write.specs.Whole.{chosen-valid}
use Rattle.json_trip.specs.RoundTrip.{round_trip}

-- so for every valid array that is not FLOAT
pub valid-trip : (u : Version) (v : ℕ) (A : Array) (room : ℕ) → version_told v ≡ Ok (sizes_of u) → Valid (sizes_of u) A
    → eqb A.shape.type FLOAT ≡ false → cells A.shape.axes * cell_bytes ≤ room
    → cells_in v A.shape.type A.shape.names A.shape.axes (json_text A.shape.axes A.cells) room ≡ Ok A.cells
valid-trip u v A room w a f r =
    round_trip u v A.shape.type A.shape.names A.shape.axes A.cells room w a.type a.rank a.short a.extent f
    a.full
    a.kinds r

-- and for whatever is written of a bundle, with the bundle's version told
pub written-trip : (bundle : List ℕ) (k out room v : ℕ) (w : List ℕ) → Bytes bundle → written bundle k out ≡ Ok w
    → version_told v ≡ Ok (sizes_in bundle)
    → (A : Array) × (chosen bundle k ≡ Ok A) × (cells A.shape.axes * cell_bytes ≤ room
    → cells_in v A.shape.type A.shape.names A.shape.axes w room ≡ Ok A.cells)
unfolding written
written-trip bundle k out room v w h e y =
    let a = bind-got (chosen bundle k) _ w e in
    let A = a.0 in
    let f = ensure-got (not (eqb A.shape.type FLOAT)) unfit7 k _ w a.2 in
    let g = ensure-got (leb (length (json_text A.shape.axes A.cells)) out) small_output14 0 _ w f.1 in
    let x = chosen-valid bundle k A h a.1 in (
      A,
      a.1,
      λ r. ap (λ (l : List ℕ). cells_in v A.shape.type A.shape.names A.shape.axes l room) (sym (got-one _ w g.1))
          ∙ valid-trip (version_in bundle) v A room y x (not-true (eqb A.shape.type FLOAT) f.0) r,
    )
