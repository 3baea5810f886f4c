-- `pack::judge::judged`: what its loop keeps.
use Rattle.std.proofs.Common.{take}
use Rattle.paper.specs.Limits.{sizes_of}
use Rattle.pack.specs.Judging.{Judging}
use Rattle.pack.proofs.judge.judged.Given as goal

abbrev pub invariant-loop-i : goal.invariant-loop-i
invariant-loop-i l = Judging (sizes_of l.v) (take l.count l.forms) l.cells l.at l.long l.i
