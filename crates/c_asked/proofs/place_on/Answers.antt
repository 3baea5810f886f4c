-- `c_asked::place_on` meets its contract: too few bytes stay, else the first four are the place's.
use Rattle.std.proofs.Common.{◌∙◌}
use Rattle.c_asked.specs.Pieces.{place_kept, place-moved}
use Rattle.c_asked.proofs.place_on.Goals as goal

pub returns : goal.returns
returns c =
    let a = c.args in
    c.put4.ensures ∙ place-moved a.place.now a.o c.if-place-lt-LIMIT_BYTES.false

pub returns-then-place-lt-LIMIT_BYTES : goal.returns-then-place-lt-LIMIT_BYTES
returns-then-place-lt-LIMIT_BYTES c = let a = c.args in place_kept a.place.now a.o c.if-place-lt-LIMIT_BYTES.true
