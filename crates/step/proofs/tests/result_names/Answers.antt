-- `step::tests::result_names` meets its contract: a move's, or A's.
use Rattle.std.proofs.Common.{◌≤◌, List, ◌≡◌, sym, subst, arith, rules, length}
use Rattle.paper.specs.declared.Name.{Name}
use Rattle.paper.specs.declared.Operation.{Operation}
use Rattle.paper.specs.Limits.{most_axes, sizes_of}
use Rattle.paper.specs.Recipe.{result_names}
use Rattle.paper.specs.Answers.{axes_of}
use Rattle.laws.specs.Answers.{axes-few}
use Rattle.laws.specs.Loops.{length-mapped}
use Rattle.step.specs.Steps.{step_in}
use Rattle.step.specs.Named.{NamesTold, names-kept}
use Rattle.step.proofs.tests.result_names.Goals as goal
use Rattle.step.proofs.tests.result_names.Goals.{Start}

module _ (c : Start) where
  abbrev told : Operation → List Name → Type 0
  told op new = NamesTold (sizes_of c.args.step.version).name op (step_in c.args.s.now c.args.step) c.args.m
      c.args.e new

  arm : (op : Operation) (new : List Name) → c.args.step.operation ≡ op → told op new → told c.args.step.operation new
  arm op new e t = subst (λ (x : Operation). told x new) (sym e) t

  full : length c.args.m ≡ most_axes
  full = search (rules, length-mapped)

  room : length (axes_of c.args.e) ≤ length c.args.m
  room = omega (arith, full, axes-few c.args.e)

pub returns-in-Moves : goal.returns-in-Moves
returns-in-Moves c = arm (goal.at.returns-in-Moves c).Start _ _ c.in-Moves.is c.moved_names.ensures

pub returns-in-Works : goal.returns-in-Works
unfolding result_names
returns-in-Works c =
    let s = (goal.at.returns-in-Works c).Start in
    arm s _ _ c.in-Works.is
    (names-kept (axes_of c.args.e) c.args.m (room s))
