-- `json_levels::Levels::value_turn` meets its contract: each byte by its rule.
use Rattle.std.proofs.Common.{◌∙◌, sym, arith}
use Rattle.json_levels.specs.Begins.{told, value-text, value-minus, value-zero, value-digit, value-true, value-false, value-null}
use Rattle.json_levels.proofs.Levels.value_turn.Goals as goal

pub returns-in-34 : goal.returns-in-34
returns-in-34 c = told _ c.plain.ensures (value-text c.args.self.depth c.args.self.bits c.requires.0 c.args.b c.in-34.is)

pub returns-in-45 : goal.returns-in-45
returns-in-45 c = told _ c.plain-in-45.ensures (value-minus c.args.self.depth c.args.self.bits c.requires.0 c.args.b c.in-45.is)

pub returns-in-48 : goal.returns-in-48
returns-in-48 c = told _ c.plain-in-48.ensures (value-zero c.args.self.depth c.args.self.bits c.requires.0 c.args.b c.in-48.is)

pub returns-in_default : goal.returns-in_default
returns-in_default c = told _ c.plain-in_default.ensures (value-digit c.args.self.depth c.args.self.bits c.requires.0 c.args.b c.requires.1 (λ e. absurd (omega arith)) (sym c.is_digit.ensures ∙ c.if-is_digit.true))

pub returns-in-116 : goal.returns-in-116
returns-in-116 c = told _ c.plain-in-116.ensures (value-true c.args.self.depth c.args.self.bits c.requires.0 c.args.b c.in-116.is)

pub returns-in-102 : goal.returns-in-102
returns-in-102 c = told _ c.plain-in-102.ensures (value-false c.args.self.depth c.args.self.bits c.requires.0 c.args.b c.in-102.is)

pub returns-in-110 : goal.returns-in-110
returns-in-110 c = told _ c.plain-in-110.ensures (value-null c.args.self.depth c.args.self.bits c.requires.0 c.args.b c.in-110.is)
