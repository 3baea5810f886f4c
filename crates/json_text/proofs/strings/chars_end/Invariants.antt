-- `json_text::strings::chars_end`: what its loop keeps.
use Rattle.std.proofs.Common.{◌-◌, length}
use Rattle.json_text.specs.Strings.{Plain}
use Rattle.json_text.proofs.strings.chars_end.Given as goal

abbrev pub invariant-loop-i : goal.invariant-loop-i
invariant-loop-i l = Plain l.s l.at l.i

abbrev pub decreases-loop-i : goal.decreases-loop-i
decreases-loop-i l = length l.s - l.i
