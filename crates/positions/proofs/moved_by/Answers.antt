-- `positions::moved_by` meets its contract.
-- The two halves of the bits.
use Rattle.std.proofs.Common.{◌∙◌}
use Rattle.positions.specs.Moves.{moved_down, moved_up}
use Rattle.positions.proofs.moved_by.Goals as goal

pub returns-then-n-lt-TURNING : goal.returns-then-n-lt-TURNING
returns-then-n-lt-TURNING c = moved_up c.args.d c.args.n c.if-n-lt-TURNING.true

pub returns : goal.returns
returns c = c.lowered.ensures ∙ moved_down c.args.d c.args.n c.if-n-lt-TURNING.false c.ranges.n.fits
