-- `json_text::words::word_end`: what its loop keeps: the rest of the word is left.
use Rattle.std.proofs.Common.{◌+◌, drop}
use Rattle.json_text.specs.Parts.{Going}
use Rattle.json_text.specs.Words.{letters}
use Rattle.json_text.proofs.words.word_end.Given as goal

abbrev pub invariant-loop-i : goal.invariant-loop-i
invariant-loop-i l = Going l.s (letters l.w) l.at (letters (drop l.i l.w)) (l.at + l.i)
