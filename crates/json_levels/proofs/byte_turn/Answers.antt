-- `json_levels::byte_turn` meets its contract: each byte by its rule.
use Rattle.json_levels.specs.declared.Next.TheVariants.{First, Value}
use Rattle.json_levels.specs.Begins.{arm-standing, open-first, open-value}
use Rattle.json_levels.proofs.byte_turn.Goals as goal

pub first_turn-requires : goal.first_turn-requires
first_turn-requires c = (open-first _ _ (arm-standing c.args.v First c.in-First.is c.requires.0), c.requires.1)

pub value_turn-requires : goal.value_turn-requires
value_turn-requires c = (open-value _ _ (arm-standing c.args.v Value c.in-Value.is c.requires.0), c.requires.1)
