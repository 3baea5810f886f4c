-- The number of cells of a form that a call names, or the first refusal of the paper's tests.
use Rattle.std.specs.Prelude.{ℕ, ◌≤◌, ◌≡◌, ◌&&◌, List, length, Ok}
use Rattle.std.proofs.Common.{sym}
use Rattle.paper.specs.declared.Sizes.{Sizes}
use Rattle.paper.specs.declared.Name.{Name}
use Rattle.paper.specs.declared.Axis.{Axis}
use Rattle.paper.specs.Refusals.{Res, ◌>>◌, ensure, between, bad_bytes1, bad_extent2}
use Rattle.paper.specs.Axes.{cells, good_extent}
use Rattle.paper.specs.Bundle.{names_fit}
use Rattle.paper.specs.Cells.{is_type}
use Rattle.laws.specs.Tests.{and_right, between-true, ensure-got, got-one}
use Rattle.extent.specs.Judged.{Small, good-small}

-- bad type or axis count 1, a name too long or a bad extent 2
unfoldable pub form_cells : Sizes → ℕ → List Name → List Axis → ℕ → Res ℕ
form_cells z t N E k = do
  ensure (is_type t && between 1 z.axes (length E)) bad_bytes1 k
  ensure (names_fit z N && good_extent N E) bad_extent2 k
  Ok (cells E)

-- what is known where they hold
pub record Formed (E : List Axis) (n : ℕ) : Type 0 where
  pub some-axis : 1 ≤ length E
  pub small : Small E
  pub number : n ≡ cells E

pub formed : (z : Sizes) (t : ℕ) (N : List Name) (E : List Axis) (k n : ℕ) → form_cells z t N E k ≡ Ok n → Formed E n
unfolding form_cells
formed z t N E k n e =
    let a = ensure-got (is_type t && between 1 z.axes (length E)) bad_bytes1 k _ n e in
    let b = ensure-got (names_fit z N && good_extent N E) bad_extent2 k _ n a.1 in
    let r = between-true z.axes (length E) (and_right (is_type t) (between 1 z.axes (length E)) a.0) in
    record {
      some-axis = r.0;
      small = good-small N E (and_right (names_fit z N) (good_extent N E) b.0);
      number = sym (got-one (cells E) n b.1);
    }
