-- An extent's number of cells, if it is good.
use Rattle.std.specs.Prelude.{ℕ, ◌≤◌, ◌≡◌, refl, Bool, true, false, ◌&&◌, List, leb, if◌then◌else◌, Option, None, Some}
use Rattle.std.proofs.Common.{sym}
use Rattle.paper.specs.declared.Name.{Name}
use Rattle.paper.specs.declared.Axis.{Axis}
use Rattle.paper.specs.Limits.{most_cells}
use Rattle.paper.specs.Axes.{good_names, good_limits, good_extent, cells, within}
use Rattle.laws.specs.Tests.{some_one, no_none}
use Rattle.laws.specs.Limits.{Sound, extent-true}

-- the number of cells, if there are not too many
abbrev pub few_cells : List Axis → Option ℕ
few_cells E = if leb (cells E) most_cells then Some (cells E) else None

-- of a good extent
abbrev pub good_cells : List Name → List Axis → Option ℕ
good_cells N E = if good_extent N E then Some (cells E) else None

-- of a good extent that lies inside its maximum
abbrev pub cells_within : List Name → List Axis → List Axis → Option ℕ
cells_within N E M = if good_extent N E && within E M then Some (cells E) else None

-- ---- the whole, by its tests

module _ (N : List Name) (E : List Axis) where
  pub bad-names : good_names N ≡ false → None ≡ good_cells N E
  bad-names e = rw e

  pub bad-limits : good_names N ≡ true → good_limits E ≡ false → None ≡ good_cells N E
  bad-limits e f = rw (e, f)

  pub by-cells : good_names N ≡ true → good_limits E ≡ true → few_cells E ≡ good_cells N E
  by-cells e f = rw (e, f)

  module _ (M : List Axis) where
    pub not_within : within E M ≡ false → None ≡ cells_within N E M
    not_within e = rw e (by (good_extent N E))
      where
        by : (b : Bool) → None ≡ (if b && false then Some (cells E) else None)
        by true = refl
        by false = refl

    pub by-within : within E M ≡ true → good_cells N E ≡ cells_within N E M
    by-within e = rw e (by (good_extent N E))
      where
        by : (b : Bool) → (if b then Some (cells E) else None) ≡ (if b && true then Some (cells E) else None)
        by true = refl
        by false = refl

-- ---- what the answer tells

none-by : (b : Bool) (n : ℕ) → (if b then Some n else None) ≡ None → b ≡ false
none-by true n e = absurd (no_none n (sym e))
none-by false n e = refl

some-by : (b : Bool) (m n : ℕ) → Some n ≡ (if b then Some m else None) → (b ≡ true) × (m ≡ n)
some-by true m n e = (refl, some_one m n (sym e))
some-by false m n e = absurd (no_none n (sym e))

module _ (N : List Name) (E : List Axis) where
  pub good-none : good_cells N E ≡ None → good_extent N E ≡ false
  good-none e = none-by (good_extent N E) (cells E) e

  pub good-some : {n : ℕ} → Some n ≡ good_cells N E → (good_extent N E ≡ true) × (cells E ≡ n)
  good-some {n} e = some-by (good_extent N E) (cells E) n e

  pub within-none : (M : List Axis) → cells_within N E M ≡ None → (good_extent N E && within E M) ≡ false
  within-none M e = none-by (good_extent N E && within E M) (cells E) e

  pub within-some : (M : List Axis) {n : ℕ} → Some n ≡ cells_within N E M → ((good_extent N E && within E M) ≡ true) × (cells E ≡ n)
  within-some M {n} e = some-by (good_extent N E && within E M) (cells E) n e

-- ---- what a good extent is good for: places in it

pub record Small (E : List Axis) : Type 0 where
  pub sound : Sound E
  pub few : cells E ≤ most_cells

pub good-small : (N : List Name) (E : List Axis) → good_extent N E ≡ true → Small E
good-small N E g = let t = extent-true N E g in record { sound = t.0; few = t.1 }
