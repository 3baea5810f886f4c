-- `json_read::scan::scan`: what its loops keep.
use Rattle.std.proofs.Common.{◌-◌, length}
use Rattle.paper.specs.Answers.{axes_of}
use Rattle.json_read.specs.Scan.{Along}
use Rattle.json_read.proofs.scan.scan.Given as goal

abbrev pub invariant-loop-at : goal.invariant-loop-at
invariant-loop-at l = Along l.kind (axes_of l.e) l.s l.v l.fit l.at l.out

abbrev pub decreases-loop-at : goal.decreases-loop-at
decreases-loop-at l = length l.s - l.at
