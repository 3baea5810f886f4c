-- `quick::codes::truths` meets its contract: each arm is the quick loop with its own code; of any other number no cell is done. Assumes
-- nothing.
use Rattle.std.proofs.Common.{sym}
use Rattle.quick.specs.Cells.{none_yet}
use Rattle.quick.proofs.codes.truths.Goals as goal

pub sided-requires : goal.sided-requires
sided-requires c = record { workable = c.requires; code_value = sym c.in-38.is }

pub sided-requires-in-39 : goal.sided-requires-in-39
sided-requires-in-39 c = record { workable = c.requires; code_value = sym c.in-39.is }

pub sided-requires-in-44 : goal.sided-requires-in-44
sided-requires-in-44 c = record { workable = c.requires; code_value = sym c.in-44.is }

pub sided-requires-in-45 : goal.sided-requires-in-45
sided-requires-in-45 c = record { workable = c.requires; code_value = sym c.in-45.is }

pub shape_of-work-in-38 : goal.shape_of-work-in-38
shape_of-work-in-38 c = c.sided.ensures.long

pub returns-in-38 : goal.returns-in-38
returns-in-38 c = c.sided.ensures

pub shape_of-work-in-39 : goal.shape_of-work-in-39
shape_of-work-in-39 c = c.sided-in-39.ensures.long

pub returns-in-39 : goal.returns-in-39
returns-in-39 c = c.sided-in-39.ensures

pub shape_of-work-in-44 : goal.shape_of-work-in-44
shape_of-work-in-44 c = c.sided-in-44.ensures.long

pub returns-in-44 : goal.returns-in-44
returns-in-44 c = c.sided-in-44.ensures

pub shape_of-work-in-45 : goal.shape_of-work-in-45
shape_of-work-in-45 c = c.sided-in-45.ensures.long

pub returns-in-45 : goal.returns-in-45
returns-in-45 c = c.sided-in-45.ensures

pub returns-in_default : goal.returns-in_default
returns-in_default c = none_yet
