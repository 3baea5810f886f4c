-- `json_text::strings::further_end`: what its loop keeps: so many bytes are left, the next in its range.
use Rattle.std.proofs.Common.{◌-◌}
use Rattle.json_text.specs.Parts.{Going}
use Rattle.json_text.specs.Strings.{spanned}
use Rattle.json_text.proofs.strings.further_end.Given as goal

abbrev pub invariant-loop-i : goal.invariant-loop-i
invariant-loop-i l = Going l.s (spanned l.further l.initial.low l.initial.high) l.at (spanned (l.end - l.i) l.low l.high) l.i
