-- `quick::codes::ints` meets its contract: each arm is the quick loop with its own code; of any other number no cell is done. Assumes
-- nothing.
use Rattle.std.proofs.Common.{sym}
use Rattle.quick.specs.Cells.{none_yet}
use Rattle.quick.proofs.codes.ints.Goals as goal

pub sided-requires : goal.sided-requires
sided-requires c = record { workable = c.requires; code_value = sym c.in-1.is }

pub sided-requires-in-2 : goal.sided-requires-in-2
sided-requires-in-2 c = record { workable = c.requires; code_value = sym c.in-2.is }

pub sided-requires-in-3 : goal.sided-requires-in-3
sided-requires-in-3 c = record { workable = c.requires; code_value = sym c.in-3.is }

pub sided-requires-in-4 : goal.sided-requires-in-4
sided-requires-in-4 c = record { workable = c.requires; code_value = sym c.in-4.is }

pub sided-requires-in-5 : goal.sided-requires-in-5
sided-requires-in-5 c = record { workable = c.requires; code_value = sym c.in-5.is }

pub sided-requires-in-6 : goal.sided-requires-in-6
sided-requires-in-6 c = record { workable = c.requires; code_value = sym c.in-6.is }

pub sided-requires-in-7 : goal.sided-requires-in-7
sided-requires-in-7 c = record { workable = c.requires; code_value = sym c.in-7.is }

pub sided-requires-in-8 : goal.sided-requires-in-8
sided-requires-in-8 c = record { workable = c.requires; code_value = sym c.in-8.is }

pub sided-requires-in-9 : goal.sided-requires-in-9
sided-requires-in-9 c = record { workable = c.requires; code_value = sym c.in-9.is }

pub sided-requires-in-10 : goal.sided-requires-in-10
sided-requires-in-10 c = record { workable = c.requires; code_value = sym c.in-10.is }

pub sided-requires-in-11 : goal.sided-requires-in-11
sided-requires-in-11 c = record { workable = c.requires; code_value = sym c.in-11.is }

pub shape_of-work-in-1 : goal.shape_of-work-in-1
shape_of-work-in-1 c = c.sided.ensures.long

pub returns-in-1 : goal.returns-in-1
returns-in-1 c = c.sided.ensures

pub shape_of-work-in-2 : goal.shape_of-work-in-2
shape_of-work-in-2 c = c.sided-in-2.ensures.long

pub returns-in-2 : goal.returns-in-2
returns-in-2 c = c.sided-in-2.ensures

pub shape_of-work-in-3 : goal.shape_of-work-in-3
shape_of-work-in-3 c = c.sided-in-3.ensures.long

pub returns-in-3 : goal.returns-in-3
returns-in-3 c = c.sided-in-3.ensures

pub shape_of-work-in-4 : goal.shape_of-work-in-4
shape_of-work-in-4 c = c.sided-in-4.ensures.long

pub returns-in-4 : goal.returns-in-4
returns-in-4 c = c.sided-in-4.ensures

pub shape_of-work-in-5 : goal.shape_of-work-in-5
shape_of-work-in-5 c = c.sided-in-5.ensures.long

pub returns-in-5 : goal.returns-in-5
returns-in-5 c = c.sided-in-5.ensures

pub shape_of-work-in-6 : goal.shape_of-work-in-6
shape_of-work-in-6 c = c.sided-in-6.ensures.long

pub returns-in-6 : goal.returns-in-6
returns-in-6 c = c.sided-in-6.ensures

pub shape_of-work-in-7 : goal.shape_of-work-in-7
shape_of-work-in-7 c = c.sided-in-7.ensures.long

pub returns-in-7 : goal.returns-in-7
returns-in-7 c = c.sided-in-7.ensures

pub shape_of-work-in-8 : goal.shape_of-work-in-8
shape_of-work-in-8 c = c.sided-in-8.ensures.long

pub returns-in-8 : goal.returns-in-8
returns-in-8 c = c.sided-in-8.ensures

pub shape_of-work-in-9 : goal.shape_of-work-in-9
shape_of-work-in-9 c = c.sided-in-9.ensures.long

pub returns-in-9 : goal.returns-in-9
returns-in-9 c = c.sided-in-9.ensures

pub shape_of-work-in-10 : goal.shape_of-work-in-10
shape_of-work-in-10 c = c.sided-in-10.ensures.long

pub returns-in-10 : goal.returns-in-10
returns-in-10 c = c.sided-in-10.ensures

pub shape_of-work-in-11 : goal.shape_of-work-in-11
shape_of-work-in-11 c = c.sided-in-11.ensures.long

pub returns-in-11 : goal.returns-in-11
returns-in-11 c = c.sided-in-11.ensures

pub returns-in_default : goal.returns-in_default
returns-in_default c = none_yet
