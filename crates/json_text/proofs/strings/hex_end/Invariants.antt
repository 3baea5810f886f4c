-- `json_text::strings::hex_end`: what its loop keeps: so many digits are left of the four.
use Rattle.std.proofs.Common.{◌+◌, ◌-◌}
use Rattle.json_text.specs.Parts.{Going}
use Rattle.json_text.specs.Strings.{hexes}
use Rattle.json_text.proofs.strings.hex_end.Given as goal

abbrev pub invariant-loop-i : goal.invariant-loop-i
invariant-loop-i l = Going l.s (hexes 4) l.at (hexes (l.at + 4 - l.i)) l.i
