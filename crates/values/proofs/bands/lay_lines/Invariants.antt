-- `values::bands::lay_lines`: what its loops keep.
use Rattle.values.specs.Moved.{LinesLaid}
use Rattle.values.proofs.bands.lay_lines.Given as goal

abbrev pub invariant-loop-r : goal.invariant-loop-r
invariant-loop-r l =
    LinesLaid l.bundle l.initial.work l.at l.a l.b l.band l._r l.place l.x l.y l.work
