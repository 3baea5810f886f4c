-- Two limits, each at its place.
use Rattle.bundle.proofs.axes.axis_at.Goals as goal

pub returns : goal.returns
returns c = λ i. record { lo = c.position_at-lo.ensures i; hi = c.position_at-hi.ensures i }
