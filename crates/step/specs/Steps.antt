-- The step that a head names in a recipe's bytes, and parts of its detail where they lie.
use Rattle.std.specs.Prelude.{ℕ, ◌+◌, ◌*◌, ◌≤◌, ◌≡◌, true, ◌&&◌, List, length, Option}
use Rattle.paper.specs.declared.Cell.{Cell}
use Rattle.std.proofs.Common.{mul-le-mul_right, le_trans, sym, ap, ◌∙◌, arith, to_z}
use Rattle.std.specs.Int.{w32}
use Rattle.paper.specs.declared.Sizes.{Sizes}
use Rattle.paper.specs.declared.Axis.{Axis}
use Rattle.paper.specs.declared.PairOp.{PairOp}
use Rattle.paper.specs.declared.Operation.TheVariants.{Moves}
use Rattle.paper.specs.declared.Move.TheVariants.{Glue}
use Rattle.paper.specs.Limits.{limit_bytes, pair_bytes, word_bytes, scalar_at, sizes_of}
use Rattle.paper.specs.Numbers.{le_of, part, distance, position_at}
use Rattle.paper.specs.Cells.{filled}
use Rattle.paper.specs.Operators.{takes}
use Rattle.paper.specs.Recipe.{Step, uses, axis_in, is_scalar}
use Rattle.laws.specs.Tests.{and_yes, between-true}
use Rattle.laws.specs.Sizes.{fits}
use Rattle.positions.specs.Runs.{Holds, part-part}
use Rattle.extent.specs.Judged.{Small}
use Rattle.shape.specs.Joined.{Gluing}
use Rattle.step.specs.declared.StepHead.{StepHead}

-- the bytes of its detail
abbrev pub detail_of : StepHead → ℕ
detail_of h = (sizes_of h.version).detail

-- the step that a head names in a recipe's bytes
abbrev pub step_in : List ℕ → StepHead → Step
step_in bs h = record { operation = h.operation; a = h.a; b = h.b; axis = h.axis; detail = part h.at (detail_of h) bs }

-- its detail lies in the recipe, and A has no more axes than its version allows
pub record Detailed (bs : List ℕ) (h : StepHead) (E : List Axis) : Type 0 where
  pub holds : Holds h.at (detail_of h) bs
  pub few : length E ≤ (sizes_of h.version).axes

-- so the detail has a pair for each of A's axes, an amount, and a name
module _ {bs : List ℕ} {h : StepHead} {E : List Axis} (d : Detailed bs h E) where
  abbrev z : Sizes
  z = sizes_of h.version

  pub pairs-there : length E * pair_bytes ≤ detail_of h
  pairs-there = le_trans (mul-le-mul_right pair_bytes d.few) (fits h.version).pairs

  pub amounts-there : length E * limit_bytes ≤ detail_of h
  amounts-there = omega (arith, pairs-there)

  pub names-there : length E * z.name ≤ detail_of h
  names-there = le_trans (mul-le-mul_right z.name d.few) (fits h.version).names

-- what needs fewer bytes holds where more do
pub fewer : (at m n : ℕ) (bs : List ℕ) → m ≤ n → Holds at n bs → Holds at m bs
fewer at m n bs l q = record { room = omega (arith, l, q.room) }

-- ---- parts of the detail, where they lie in the recipe

pub position-there : (s : List ℕ) (h : StepHead) → position_at h.at s ≡ position_at 0 (part h.at (detail_of h) s)
position-there s h =
    let at = h.at in
    let z : at + 0 ≡ at = omega arith in
    sym (ap (λ (l : List ℕ). distance (to_z w32 (le_of l)))
    (part-part s at (detail_of h) 0 limit_bytes (omega (arith, (fits h.version).scalar)) ∙ ap (λ (j : ℕ). part j limit_bytes s) z))

pub scalar-there : (s : List ℕ) (h : StepHead) → part (h.at + scalar_at) word_bytes s ≡ part scalar_at word_bytes (part h.at (detail_of h) s)
scalar-there s h = sym (part-part s h.at (detail_of h) scalar_at word_bytes (fits h.version).scalar)

pub scalar-told : (o : PairOp) (t : ℕ) (s : List ℕ) (at : ℕ) → takes o t ≡ true → (g : Option Cell) (w : ℕ) → g ≡ filled t w
    → w ≡ le_of (part (at + scalar_at) word_bytes s)
    → is_scalar g ≡ (takes o t && is_scalar (filled t (le_of (part (at + scalar_at) word_bytes s))))
scalar-told o t s at y g w q e = ap is_scalar (q ∙ ap (filled t) e) ∙ and_yes _ _ y

-- a glue whose axis index is in A
pub gluing-in : (k : ℕ) (E F : List Axis) → axis_in (uses (Moves Glue)) (length E) k ≡ true → Small E → Small F → Gluing k E F
unfolding uses
gluing-in k E F h a b = let q = between-true (length E) k h in record { one = q.0; last = q.1; first = a.sound; second = b.sound }
