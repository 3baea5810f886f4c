-- `extent::covers_all` meets its contract.
-- All meet by one test, which is two of the paper's.
use Rattle.std.proofs.Common.{◌∙◌, rules}
use Rattle.extent.specs.Meeting.{axis_covers, by-covers}
use Rattle.extent.proofs.covers_all.Goals as goal

pub returns : goal.returns
returns c = c.all_meet.ensures axis_covers (λ a b r p. search rules) ∙ by-covers _ _
