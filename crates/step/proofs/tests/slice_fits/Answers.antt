-- `step::tests::slice_fits` meets its contract.
-- The axis, and the position where it lies.
use Rattle.std.proofs.Common.{◌∙◌, ap₂}
use Rattle.paper.specs.Axes.{on_axis}
use Rattle.step.proofs.tests.slice_fits.Goals as goal

pub returns : goal.returns
returns c = c.on_axis.ensures ∙ ap₂ on_axis c.axis_of.ensures c.position_at.ensures
