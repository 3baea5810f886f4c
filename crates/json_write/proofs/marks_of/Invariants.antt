-- `json_write::marks_of`: what its loop keeps.
use Rattle.std.proofs.Common.{◌≡◌, drop, take}
use Rattle.json_write.specs.Lengths.{marks}
use Rattle.json_write.proofs.marks_of.Given as goal

abbrev pub invariant-loop-i : goal.invariant-loop-i
invariant-loop-i l = l.n ≡ marks (drop l.i (take l.rank l.e.axes))
