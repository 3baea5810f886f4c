-- `values::bands::lay_one_run`: what its loops keep.
use Rattle.values.specs.Moved.{LinesLaid}
use Rattle.values.proofs.bands.lay_one_run.Given as goal

abbrev pub invariant-loop-r : goal.invariant-loop-r
invariant-loop-r l = LinesLaid l.bundle l.initial.work l.at l.a l.b l.band l._r l.place l.later_a l.later_b l.work
