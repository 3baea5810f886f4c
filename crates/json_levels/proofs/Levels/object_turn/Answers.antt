-- `json_levels::Levels::object_turn` meets its contract: each byte by its rule.
use Rattle.json_levels.specs.Begins.{told, object-begun, object-none}
use Rattle.json_levels.proofs.Levels.object_turn.Goals as goal

pub returns-then-b-eq123 : goal.returns-then-b-eq123
returns-then-b-eq123 c = told _ c.bracket.ensures (object-begun c.args.self.depth c.args.self.bits c.args.b c.if-b-eq123.true)

pub returns : goal.returns
returns c = told _ c.nothing.ensures (object-none c.args.self.depth c.args.self.bits c.args.b c.requires c.if-b-eq123.false)
