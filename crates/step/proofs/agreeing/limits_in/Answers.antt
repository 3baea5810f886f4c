-- `step::agreeing::limits_in` meets its contract: none, all, or all but one axis's.
use Rattle.step.proofs.agreeing.limits_in.Goals as goal

pub returns-in-OtherLimits : goal.returns-in-OtherLimits
returns-in-OtherLimits c = rw c.in-OtherLimits.is

pub returns-in-Names : goal.returns-in-Names
returns-in-Names c = rw c.in-Names.is

pub returns-in-OtherNames : goal.returns-in-OtherNames
returns-in-OtherNames c = rw c.in-OtherNames.is

pub returns-in-Limits : goal.returns-in-Limits
returns-in-Limits c = rw c.in-Limits.is
