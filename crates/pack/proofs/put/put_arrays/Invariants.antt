-- `pack::put::put_arrays`: what its loop keeps.
use Rattle.std.proofs.Common.{take}
use Rattle.paper.specs.Limits.{sizes_of}
use Rattle.pack.specs.Laying.{Laying}
use Rattle.pack.proofs.put.put_arrays.Given as goal

abbrev pub invariant-loop-i : goal.invariant-loop-i
invariant-loop-i l = Laying (sizes_of l.v) (take l.count l.forms) l.cells l.initial.d l.d l.from l.at l.i
