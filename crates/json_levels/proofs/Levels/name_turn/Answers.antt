-- `json_levels::Levels::name_turn` meets its contract: each byte by its rule.
use Rattle.json_levels.specs.Begins.{told, member-open, member-object, name-begun, name-none}
use Rattle.json_levels.proofs.Levels.name_turn.Goals as goal

pub returns-then-b-eq34 : goal.returns-then-b-eq34
returns-then-b-eq34 c = told _ c.begun.ensures (name-begun c.args.self.depth c.args.self.bits (member-open c.args.self.depth c.args.self.bits c.requires.0) (member-object c.args.self.depth c.args.self.bits c.requires.0) c.args.b c.if-b-eq34.true)

pub returns : goal.returns
returns c = told _ c.nothing.ensures (name-none c.args.self.depth c.args.self.bits c.args.b c.requires.1 c.if-b-eq34.false)
