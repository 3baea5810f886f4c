-- `origin::in_first` meets its contract: A's cell is the one found.
use Rattle.std.proofs.Common.{ap, sym, ◌∙◌}
use Rattle.origin.specs.Origins.{in_a}
use Rattle.origin.proofs.in_first.Goals as goal

pub returns-in-Some : goal.returns-in-Some
returns-in-Some c = ap in_a (sym c.in-Some.is ∙ c.found_at-found.ensures)

pub returns-in-None : goal.returns-in-None
returns-in-None c = ap in_a (sym c.in-None.is ∙ c.found_at-found.ensures)
