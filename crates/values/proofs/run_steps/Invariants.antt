-- `values::run_steps`: what its loops keep.
use Rattle.std.proofs.Common.{◌≡◌, ℕ, ◌+◌, ◌*◌, ◌≤◌, List, length}
use Rattle.paper.specs.Limits.{cell_bytes, most_cells, most_steps}
use Rattle.std.specs.Prelude.{Ok}
use Rattle.recipe.specs.Whole.{steps_of}
use Rattle.values.specs.Done.{Done, StepsDone, CellsDone}
use Rattle.values.specs.Found.{arrays_at}
use Rattle.values.proofs.run_steps.Given as goal

abbrev pub invariant-cells : goal.invariant-cells
invariant-cells l =
    (l.begun.count ≤ l.k) × (l.k ≤ l.n) × (l.n ≤ most_cells) × (l.base + l.n * cell_bytes ≤ length l.work) × (length l.work ≡ length l.initial.work) × (l.out ≡ l.initial.out)
    × ((W : List ℕ) (d : Done (arrays_at l.bundle l.plan) (steps_of l.recipe l.plan) W l.s) → CellsDone d l.begun.count l.initial.work → CellsDone d l.k l.work)

abbrev pub invariant-steps : goal.invariant-steps
invariant-steps l =
    (l.s ≤ l.m) × (l.m ≤ most_steps) × StepsDone (arrays_at l.bundle l.plan) (steps_of l.recipe l.plan) l.initial.work l.s l.work × (l.out ≡ Ok tt)
