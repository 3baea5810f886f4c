-- `c_asked::place_in` meets its contract: too few bytes are place 0.
use Rattle.std.proofs.Common.{◌∙◌}
use Rattle.c_asked.specs.Pieces.{place_short, place-long}
use Rattle.c_asked.proofs.place_in.Goals as goal

pub returns-then-place-lt-LIMIT_BYTES : goal.returns-then-place-lt-LIMIT_BYTES
returns-then-place-lt-LIMIT_BYTES c = place_short c.args.place.now c.if-place-lt-LIMIT_BYTES.true

pub returns : goal.returns
returns c = c.half.ensures ∙ place-long c.args.place.now c.if-place-lt-LIMIT_BYTES.false
