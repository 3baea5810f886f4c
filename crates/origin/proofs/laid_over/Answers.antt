-- `origin::laid_over` meets its contract: B's cell is the one found, A's is the one given.
use Rattle.std.proofs.Common.{ap, sym, ◌∙◌}
use Rattle.origin.specs.Origins.{over_a}
use Rattle.origin.proofs.laid_over.Goals as goal

pub returns-in-Some : goal.returns-in-Some
returns-in-Some c =
    ap (over_a c.args.j) (sym c.in-Some.is ∙ c.found_at-found.ensures)

pub returns-in-None : goal.returns-in-None
returns-in-None c = ap (over_a c.args.j) (sym c.in-None.is ∙ c.found_at-found.ensures)
