-- `json_text::names::is_data`: what its loop keeps: the rest of the word is to be spelled from there on.
use Rattle.paper.specs.Numbers.{text}
use Rattle.json_text.specs.Spelled.{Spelling}
use Rattle.json_text.proofs.names.is_data.Given as goal

abbrev pub invariant-loop-letter : goal.invariant-loop-letter
invariant-loop-letter l = Spelling (text "data") l.s l.at l.letter-index l.i
