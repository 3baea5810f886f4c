-- `json_levels::Levels::level_turn` meets its contract: each byte by its rule.
use Rattle.std.proofs.Common.{arith}
use Rattle.json_levels.specs.Begins.{told, bits_most, value-deep, value-array, value-object, value_none}
use Rattle.json_levels.proofs.Levels.level_turn.Goals as goal

pub returns-then-self-eq-LEVELS : goal.returns-then-self-eq-LEVELS
returns-then-self-eq-LEVELS c = told _ c.nothing.ensures (value-deep c.args.self.depth c.args.self.bits c.requires.0 c.args.b c.requires.1 c.if-self-eq-LEVELS.true)

pub overflow_mul-self : goal.overflow_mul-self
overflow_mul-self c = omega (arith, bits_most c.args.self.depth c.args.self.bits c.requires.0)

pub overflow_add-self-in-91 : goal.overflow_add-self-in-91
overflow_add-self-in-91 c = omega (arith, bits_most c.args.self.depth c.args.self.bits c.requires.0)

pub returns-in-91 : goal.returns-in-91
returns-in-91 c = told _ c.bracket.ensures (value-array c.args.self.depth c.args.self.bits c.requires.0 c.args.b c.requires.1 (omega (arith, c.if-self-eq-LEVELS.false, c.requires.0.most)) c.in-91.is)

pub overflow_mul-self-in-123 : goal.overflow_mul-self-in-123
overflow_mul-self-in-123 c = omega (arith, bits_most c.args.self.depth c.args.self.bits c.requires.0)

pub returns-in-123 : goal.returns-in-123
returns-in-123 c = told _ c.bracket-in-123.ensures (value-object c.args.self.depth c.args.self.bits c.requires.0 c.args.b c.requires.1 (omega (arith, c.if-self-eq-LEVELS.false, c.requires.0.most)) c.in-123.is)

pub returns-in_default : goal.returns-in_default
returns-in_default c = told _ c.nothing-in_default.ensures (value_none c.args.self.depth c.args.self.bits c.requires.0 c.args.b c.requires.1 (omega (arith, c.if-self-eq-LEVELS.false, c.requires.0.most)) (λ e. absurd (omega arith)) (λ e. absurd (omega arith)))
