-- `json_text::cells::digits_at`: what its loop keeps.
use Rattle.json_text.specs.Whole.{Counting}
use Rattle.json_text.proofs.cells.digits_at.Given as goal

abbrev pub invariant-loop-i : goal.invariant-loop-i
invariant-loop-i l = Counting l.s l.at l.i l.n
