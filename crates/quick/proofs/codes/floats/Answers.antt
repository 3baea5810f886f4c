-- `quick::codes::floats` meets its contract: each arm is the quick loop with its own code; of any other number no cell is done. Assumes
-- nothing.
use Rattle.std.proofs.Common.{sym}
use Rattle.quick.specs.Cells.{none_yet}
use Rattle.quick.proofs.codes.floats.Goals as goal

pub sided-requires : goal.sided-requires
sided-requires c = record { workable = c.requires; code_value = sym c.in-17.is }

pub sided-requires-in-18 : goal.sided-requires-in-18
sided-requires-in-18 c = record { workable = c.requires; code_value = sym c.in-18.is }

pub sided-requires-in-19 : goal.sided-requires-in-19
sided-requires-in-19 c = record { workable = c.requires; code_value = sym c.in-19.is }

pub sided-requires-in-20 : goal.sided-requires-in-20
sided-requires-in-20 c = record { workable = c.requires; code_value = sym c.in-20.is }

pub sided-requires-in-22 : goal.sided-requires-in-22
sided-requires-in-22 c = record { workable = c.requires; code_value = sym c.in-22.is }

pub sided-requires-in-23 : goal.sided-requires-in-23
sided-requires-in-23 c = record { workable = c.requires; code_value = sym c.in-23.is }

pub sided-requires-in-24 : goal.sided-requires-in-24
sided-requires-in-24 c = record { workable = c.requires; code_value = sym c.in-24.is }

pub sided-requires-in-25 : goal.sided-requires-in-25
sided-requires-in-25 c = record { workable = c.requires; code_value = sym c.in-25.is }

pub sided-requires-in-26 : goal.sided-requires-in-26
sided-requires-in-26 c = record { workable = c.requires; code_value = sym c.in-26.is }

pub sided-requires-in-27 : goal.sided-requires-in-27
sided-requires-in-27 c = record { workable = c.requires; code_value = sym c.in-27.is }

pub shape_of-work-in-17 : goal.shape_of-work-in-17
shape_of-work-in-17 c = c.sided.ensures.long

pub returns-in-17 : goal.returns-in-17
returns-in-17 c = c.sided.ensures

pub shape_of-work-in-18 : goal.shape_of-work-in-18
shape_of-work-in-18 c = c.sided-in-18.ensures.long

pub returns-in-18 : goal.returns-in-18
returns-in-18 c = c.sided-in-18.ensures

pub shape_of-work-in-19 : goal.shape_of-work-in-19
shape_of-work-in-19 c = c.sided-in-19.ensures.long

pub returns-in-19 : goal.returns-in-19
returns-in-19 c = c.sided-in-19.ensures

pub shape_of-work-in-20 : goal.shape_of-work-in-20
shape_of-work-in-20 c = c.sided-in-20.ensures.long

pub returns-in-20 : goal.returns-in-20
returns-in-20 c = c.sided-in-20.ensures

pub shape_of-work-in-22 : goal.shape_of-work-in-22
shape_of-work-in-22 c = c.sided-in-22.ensures.long

pub returns-in-22 : goal.returns-in-22
returns-in-22 c = c.sided-in-22.ensures

pub shape_of-work-in-23 : goal.shape_of-work-in-23
shape_of-work-in-23 c = c.sided-in-23.ensures.long

pub returns-in-23 : goal.returns-in-23
returns-in-23 c = c.sided-in-23.ensures

pub shape_of-work-in-24 : goal.shape_of-work-in-24
shape_of-work-in-24 c = c.sided-in-24.ensures.long

pub returns-in-24 : goal.returns-in-24
returns-in-24 c = c.sided-in-24.ensures

pub shape_of-work-in-25 : goal.shape_of-work-in-25
shape_of-work-in-25 c = c.sided-in-25.ensures.long

pub returns-in-25 : goal.returns-in-25
returns-in-25 c = c.sided-in-25.ensures

pub shape_of-work-in-26 : goal.shape_of-work-in-26
shape_of-work-in-26 c = c.sided-in-26.ensures.long

pub returns-in-26 : goal.returns-in-26
returns-in-26 c = c.sided-in-26.ensures

pub shape_of-work-in-27 : goal.shape_of-work-in-27
shape_of-work-in-27 c = c.sided-in-27.ensures.long

pub returns-in-27 : goal.returns-in-27
returns-in-27 c = c.sided-in-27.ensures

pub returns-in_default : goal.returns-in_default
returns-in_default c = none_yet
