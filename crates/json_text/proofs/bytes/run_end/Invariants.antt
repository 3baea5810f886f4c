-- `json_text::bytes::run_end`: what its loop keeps: the bytes up to there are such ones.
use Rattle.paper.specs.Grammar.{Bytes}
use Rattle.json_text.specs.Numbers.{Tells, Passing}
use Rattle.json_text.proofs.bytes.run_end.Given as goal

abbrev pub invariant-loop-i : goal.invariant-loop-i
invariant-loop-i g l = (c : Bytes) → Tells (goal.F-post g l.is) c → Passing c l.s l.at l.i
