-- `json_text::strings::plain_end` meets its contract: plain bytes leave the string's characters as they are.
use Rattle.paper.specs.Grammar.{plain}
use Rattle.json_text.specs.Strings.{plain-over}
use Rattle.json_text.proofs.strings.plain_end.Goals as goal

pub returns : goal.returns
returns c = plain-over _ _ _ (c.run_end.ensures plain (λ b r p. p))
