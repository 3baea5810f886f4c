-- "Writing and then reading with the same type and extent gives the same cells": of cells, of valid arrays, and of whatever is written of
-- a bundle; and what a refusal leaves.
use Rattle.std.specs.Prelude.{ℕ, ◌*◌, ◌≤◌, ◌≡◌, refl, true, false, eqb, length, None, Some, Ok, Err}
use Rattle.std.proofs.Common.{sym, ◌∙◌, arith, le-leb}
use Rattle.std.proofs.Math.Path.{ap}
use mathlib.Core.List.{List, [], ◌∷◌, ◌++◌, append-nil}
use Rattle.paper.specs.declared.Version.{Version}
use Rattle.paper.specs.declared.Name.{Name}
use Rattle.paper.specs.declared.Axis.{Axis}
use Rattle.paper.specs.declared.Cell.{Cell}
use Rattle.paper.specs.declared.Refusal.{Refusal}
use Rattle.paper.specs.Limits.{FLOAT, cell_bytes, sizes_of}
use Rattle.paper.specs.Refusals.{Res, between}
use Rattle.paper.specs.Numbers.{text, alike}
use Rattle.paper.specs.Axes.{cells, good_extent}
use Rattle.paper.specs.Cells.{is_type}
use Rattle.paper.specs.Bundle.{version_told, names_fit}
use Rattle.paper.specs.Grammar.{Part, among, optional, rules, start, at, value, more_members, levels_inside}
use Rattle.paper.specs.Machine as Machine
use Rattle.paper.specs.Machine.{settled, move, fault_from, fault}
use Rattle.paper.specs.Json.{brackets, json_text}
use Rattle.paper.specs.JsonRead.{Token, outer, token_of, tokens_from, spells, data_in, data_of, due, fitted, cells_as, cells_in, fill_with}
use Rattle.paper.specs.JsonRead.{read_json}
use Rattle.laws.specs.Tests.{between-true, none-refused}
use Rattle.laws.specs.Limits.{extent-true}
use Rattle.laws.specs.Sizes.{fits}
use Rattle.roundtrip.specs.Valid.{EachOfKind}
use Rattle.json_trip.specs.Steps.{Gives}
use Rattle.json_trip.specs.Rows.{brackets-give}

-- what stands where the value of `data` is due
abbrev at_data : List Part
at_data = at value levels_inside ∷ at more_members levels_inside ∷ []

-- the value and the closing brace of the written object
module _ (t : ℕ) (E : List Axis) (cs : List Cell)
    (g : Gives t 9 at_data (brackets E cs ++ text "}") (at more_members levels_inside ∷ []) (text "}") (due E) cs) where
  abbrev its_rest : List Token
  its_rest = tokens_from at_data 9 (brackets E cs ++ text "}")

  no-fault : fault (json_text E cs) ≡ None
  unfolding fault_from settled optional move rules Machine.chosen among
  no-fault = g.fault

  its-data : (k : Token) × (data_in (tokens_from start 1 (json_text E cs)) ≡ Some (k, its_rest))
  unfolding tokens_from settled optional move rules Machine.chosen among token_of outer data_in spells alike
  its-data = (_, refl)

  one-data : data_in its_rest ≡ None
  unfolding tokens_from settled optional move rules Machine.chosen among token_of outer data_in
  one-data = g.names

  its-tokens : data_of (json_text E cs) ≡ Ok its_rest
  unfolding data_of
  its-tokens = rw (its-data.1, one-data, no-fault)

  its-cells : fitted t (due E) its_rest ≡ Ok cs
  unfolding fitted
  its-cells = ap (λ ds. fitted t ds its_rest) (sym (append-nil (due E))) ∙ g.cells [] ∙ ap Ok (append-nil cs)

-- in the version told: an extent of one axis or more, its cells of the type, and room for them
pub round_trip : (u : Version) (v t : ℕ) (N : List Name) (E : List Axis) (cs : List Cell) (room : ℕ) → version_told v ≡ Ok (sizes_of u)
    → is_type t ≡ true → between 1 (sizes_of u).axes (length E) ≡ true → names_fit (sizes_of u) N ≡ true → good_extent N E ≡ true
    → eqb t FLOAT ≡ false → length cs ≡ cells E → EachOfKind t cs → cells E * cell_bytes ≤ room
    → cells_in v t N E (json_text E cs) room ≡ Ok cs
unfolding cells_in cells_as
round_trip u v t N E cs room w h b n e f l k r =
    let s = (extent-true N E e).0 in
    let d = between-true (sizes_of u).axes (length E) b in
    let m : length E ≤ levels_inside = omega (arith, d.1, (fits u).axes) in
    let g = brackets-give t f E s d.0 levels_inside m (at more_members levels_inside ∷ []) (text "}") 9 cs l k in
    rw (w, h, b, n, e, f, its-tokens t E cs g, its-cells t E cs g, le-leb (cells E * cell_bytes) room r)

-- a refusal leaves the cell buffer as it was
fill-leaves : (buffer : List ℕ) (m : Res (List Cell)) (r : Refusal) → (fill_with buffer m).answer ≡ Err r
    → (fill_with buffer m).buffer ≡ buffer
unfolding fill_with
fill-leaves buffer (Ok cs) r e = absurd (none-refused (length cs) r e)
fill-leaves buffer (Err x) r e = refl

pub read-leaves : (v t : ℕ) (N : List Name) (E : List Axis) (bs buffer : List ℕ) (r : Refusal)
    → (read_json v t N E bs buffer).answer ≡ Err r → (read_json v t N E bs buffer).buffer ≡ buffer
read-leaves v t N E bs buffer r e = fill-leaves buffer (cells_in v t N E bs (length buffer)) r e
