-- `json_levels::Levels::more_turn` meets its contract: each byte by its rule.
use Rattle.std.proofs.Common.{eq-eqb, ne_eqb}
use Rattle.json_levels.specs.Begins.{told, none_after, standing-open}
use Rattle.json_levels.proofs.Levels.more_turn.Goals as goal

pub returns-then-self-eq0 : goal.returns-then-self-eq0
returns-then-self-eq0 c = told _ c.nothing.ensures (none_after c.args.self.depth c.args.self.bits c.args.b c.if-self-eq0.true c.requires.1)

pub more_items-requires : goal.more_items-requires
more_items-requires c = (standing-open c.args.self.depth c.args.self.bits c.if-self-eq0.false c.requires.0, eq-eqb _ 1 c.if-self-eq1.true, c.requires.1)

pub more_members-requires : goal.more_members-requires
more_members-requires c = (standing-open c.args.self.depth c.args.self.bits c.if-self-eq0.false c.requires.0, ne_eqb _ 1 c.if-self-eq1.false, c.requires.1)
