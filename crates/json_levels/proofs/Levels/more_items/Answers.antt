-- `json_levels::Levels::more_items` meets its contract: each byte by its rule.
use Rattle.std.proofs.Common.{arith}
use Rattle.json_levels.specs.Begins.{told, items-comma, items-closed, items-none}
use Rattle.json_levels.proofs.Levels.more_items.Goals as goal

pub returns-in-44 : goal.returns-in-44
returns-in-44 c = told _ c.begun.ensures (items-comma c.args.self.depth c.args.self.bits c.requires.0 c.requires.1 c.args.b c.in-44.is)

pub returns-in-93 : goal.returns-in-93
returns-in-93 c = told _ c.closed.ensures (items-closed c.args.self.depth c.args.self.bits c.requires.0 c.requires.1 c.args.b c.in-93.is)

pub returns-in_default : goal.returns-in_default
returns-in_default c = told _ c.nothing.ensures (items-none c.args.self.depth c.args.self.bits c.requires.0 c.requires.1 c.args.b c.requires.2 (λ e. absurd (omega arith)) (λ e. absurd (omega arith)))
