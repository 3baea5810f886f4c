-- `c_asked::forms_in`: what its loop keeps.
use Rattle.paper.specs.Limits.{most_arrays, sizes_of}
use Rattle.c_asked.specs.Pieces.{Filling}
use Rattle.c_asked.specs.Heads.{form_in}
use Rattle.c_asked.proofs.forms_in.Given as goal

abbrev pub invariant-loop-i : goal.invariant-loop-i
invariant-loop-i l = Filling (form_in (sizes_of l.v)) l.size l.heads most_arrays l.count l.i l.forms
