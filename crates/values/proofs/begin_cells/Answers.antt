-- `values::begin_cells` meets its contract: all cells moved, or the quick loop as far as it came, for each kind of work.
use Rattle.std.proofs.Common.{◌≡◌, ◌+◌, ap, ◌∙◌, arith}
use Rattle.paper.specs.Limits.{scalar_at, word_bytes}
use Rattle.paper.specs.Numbers.{le_of, part}
use Rattle.paper.specs.declared.Operation.TheVariants.{Works}
use Rattle.paper.specs.declared.Work.{Work}
use Rattle.paper.specs.declared.Work.TheVariants.{Pair, Scalar, Single}
use Rattle.quick.specs.Operands.{pairing}
use Rattle.quick.specs.declared.operands.Pairing.{Pairing}
use Rattle.values.specs.Turns.{handed, pairing_of}
use Rattle.values.specs.Runs.{scalar-room, workable, started}
use Rattle.values.proofs.begin_cells.Goals as goal
use Rattle.values.proofs.begin_cells.Goals.{After-pair_code, After-pair_code-in-Scalar, After-single_code, Start}

pub returns-in-Moves : goal.returns-in-Moves
returns-in-Moves c = record { most = omega arith; filled = c.move_cells.ensures; works = λ h. absurd (omega arith) }

-- a step that works cells out
abbrev asked : Start → Work → Pairing
asked c w = pairing_of w (le_of (part (c.args.turn.step.at + scalar_at) word_bytes c.args.recipe.now)) c.args.turn.a c.args.turn.b

-- a pair
module _ (c : After-pair_code) where
  abbrev known : Start
  known = (goal.at.After-pair_code c).Start

  abbrev pair : Work
  pair = Pair c.in-Pair.o

  works : c.args.turn.step.operation ≡ Works pair
  works = c.in-Works.is ∙ ap Works c.in-Pair.is

  abbrev q : Pairing
  q = pairing c.pair_code.result 0 c.cells_of-x-in-Works.result c.cells_of-y.result

  told : q ≡ asked known pair
  told i = pairing (c.pair_code.ensures i) 0 (c.cells_of-x-in-Works.ensures i) (c.cells_of-y.ensures i)

pub returns-in-Pair : goal.returns-in-Pair
returns-in-Pair c =
    let s = (goal.at.returns-in-Pair c).After-pair_code in
    started (pair s) (works s) (q s) (told s) _ _ c.begin_arrays.ensures

-- an array and a scalar
pub word-scalar-requires : goal.word-scalar-requires
word-scalar-requires c = scalar-room c.requires

module _ (c : After-pair_code-in-Scalar) where
  abbrev known2 : Start
  known2 = (goal.at.After-pair_code-in-Scalar c).Start

  abbrev scalar : Work
  scalar = Scalar c.in-Scalar.hand c.in-Scalar.o

  works2 : c.args.turn.step.operation ≡ Works scalar
  works2 = c.in-Works.is ∙ ap Works c.in-Scalar.is

  abbrev q2 : Pairing
  q2 =
      handed c.in-Scalar.hand c.pair_code-in-Scalar.result c.word-scalar.result
      c.cells_of-x-in-Works.result

  told2 : q2 ≡ asked known2 scalar
  told2 i =
      handed c.in-Scalar.hand (c.pair_code-in-Scalar.ensures i) (c.word-scalar.ensures i)
      (c.cells_of-x-in-Works.ensures i)

pub returns-in-Scalar : goal.returns-in-Scalar
returns-in-Scalar c =
    let s = (goal.at.returns-in-Scalar c).After-pair_code-in-Scalar in
    started (scalar s) (works2 s) (q2 s) (told2 s) _ _ c.begin_scalar.ensures

-- a single operator
module _ (c : After-single_code) where
  abbrev known3 : Start
  known3 = (goal.at.After-single_code c).Start

  abbrev single : Work
  single = Single c.in-Single.o

  works3 : c.args.turn.step.operation ≡ Works single
  works3 = c.in-Works.is ∙ ap Works c.in-Single.is

  abbrev q3 : Pairing
  q3 = let x = c.cells_of-x-in-Works.result in pairing c.single_code.result 0 x x

  told3 : q3 ≡ asked known3 single
  told3 i = let x = c.cells_of-x-in-Works.ensures i in pairing (c.single_code.ensures i) 0 x x

pub returns-in-Single : goal.returns-in-Single
returns-in-Single c =
    let s = (goal.at.returns-in-Single c).After-single_code in
    started (single s) (works3 s) (q3 s) (told3 s) _ _ c.begin_arrays-in-Single.ensures

pub begin_arrays-requires : goal.begin_arrays-requires
begin_arrays-requires c = workable c.requires (pair c) (works c) (q c) (told c)

pub begin_scalar-requires : goal.begin_scalar-requires
begin_scalar-requires c = workable c.requires (scalar c) (works2 c) (q2 c) (told2 c)

pub begin_arrays-requires-in-Single : goal.begin_arrays-requires-in-Single
begin_arrays-requires-in-Single c = workable c.requires (single c) (works3 c) (q3 c) (told3 c)
