-- `json_levels::Levels::first_turn` meets its contract: each byte by its rule.
use Rattle.std.proofs.Common.{eq-eqb, ne_eqb}
use Rattle.json_levels.specs.Begins.{told, standing-member, first-closed, first-value, first_ended, first-name}
use Rattle.json_levels.proofs.Levels.first_turn.Goals as goal

pub returns-then-b-eq93 : goal.returns-then-b-eq93
returns-then-b-eq93 c = told _ c.closed.ensures (first-closed c.args.self.depth c.args.self.bits c.requires.0 (eq-eqb _ 1 c.if-self-eq1.true) c.args.b c.if-b-eq93.true)

pub returns-then-self-eq1 : goal.returns-then-self-eq1
returns-then-self-eq1 c = first-value c.args.self.depth c.args.self.bits c.requires.0 (eq-eqb _ 1 c.if-self-eq1.true) c.args.b _ c.requires.1 c.if-b-eq93.false c.value_turn.ensures

pub returns-then-b-eq125 : goal.returns-then-b-eq125
returns-then-b-eq125 c = told _ c.closed-then-b-eq125.ensures (first_ended c.args.self.depth c.args.self.bits c.requires.0 (ne_eqb _ 1 c.if-self-eq1.false) c.args.b c.if-b-eq125.true)

pub name_turn-requires : goal.name_turn-requires
name_turn-requires c = (standing-member c.args.self.depth c.args.self.bits c.requires.0 (ne_eqb _ 1 c.if-self-eq1.false), c.requires.1)

pub returns : goal.returns
returns c = first-name c.args.self.depth c.args.self.bits c.requires.0 (ne_eqb _ 1 c.if-self-eq1.false) c.args.b _ c.requires.1 c.if-b-eq125.false c.name_turn.ensures
