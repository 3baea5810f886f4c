-- `json_text::strings::chars_end` meets its contract: the loop keeps what is left of the string, and stands at no plain byte.
use Rattle.json_text.specs.Strings.{string-missing, string-quote}
use Rattle.json_text.proofs.strings.chars_end.Goals as goal

pub returns-then-s-i-eq34 : goal.returns-then-s-i-eq34
returns-then-s-i-eq34 c = string-quote _ _ _ c.loop-i.invariant.going c.loop-i-test.true c.if-s-i-eq34.true

pub returns : goal.returns
returns c = string-missing _ _ _ c.loop-i.invariant.going c.loop-i-test.false
