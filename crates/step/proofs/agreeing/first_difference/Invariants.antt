-- `step::agreeing::first_difference`: what its loop keeps.
use Rattle.std.proofs.Common.{◌≡◌}
use Rattle.paper.specs.Answers.{axes_of, names_for}
use Rattle.step.specs.Agreeing.{differing, differing_from}
use Rattle.step.proofs.agreeing.first_difference.Given as goal

abbrev pub invariant-loop-j : goal.invariant-loop-j
invariant-loop-j l =
    differing_from l.c l.j (names_for (axes_of l.e) l.m) (axes_of l.e) (names_for (axes_of l.f) l.n) (axes_of l.f) ≡ differing l.c l.m l.e l.n l.f
