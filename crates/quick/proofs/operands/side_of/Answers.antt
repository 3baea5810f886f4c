-- `quick::operands::side_of` meets its contract: by the side asked for. Assumes nothing.
use Rattle.std.proofs.Common.{eq-eqb, ne_eqb, eqb, ◌≡◌, true, false}
use Rattle.quick.specs.Operands.{work_side}
use Rattle.quick.proofs.operands.side_of.Goals as goal

pub returns-then-which-eq-IN_WORK : goal.returns-then-which-eq-IN_WORK
returns-then-which-eq-IN_WORK c = let e : eqb c.args.which work_side ≡ true = eq-eqb c.args.which work_side c.if-which-eq-IN_WORK.true in rw e

pub returns-else-which-eq-IN_WORK : goal.returns-else-which-eq-IN_WORK
returns-else-which-eq-IN_WORK c = let e : eqb c.args.which work_side ≡ false = ne_eqb c.args.which work_side c.if-which-eq-IN_WORK.false in rw e
