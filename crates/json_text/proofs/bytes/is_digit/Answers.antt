-- `json_text::bytes::is_digit` meets its contract: the library's digits are the paper's.
use Rattle.std.proofs.Common.{◌∙◌}
use Rattle.json_text.specs.Kinds.{is-digit}
use Rattle.json_text.proofs.bytes.is_digit.Goals as goal

pub returns : goal.returns
returns c = c.is_ascii_digit.ensures.value ∙ is-digit c.args.b
