-- `c_asked::walk_bytes` meets its contract: the step’s answer, and the place after it where the place stood.
use Rattle.std.proofs.Common.{ap}
use Rattle.paper.specs.Reference.{Walked}
use Rattle.c_asked.proofs.walk_bytes.Goals as goal

pub returns : goal.returns
returns c =
    let e = rw c.place_in.ensures at c.walk_step-step.ensures in
    (ap (λ (w : Walked). w.answer) e, rw (ap (λ (w : Walked). w.place) e) at c.place_on.ensures)
