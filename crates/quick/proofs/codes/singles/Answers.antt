-- `quick::codes::singles` meets its contract: each arm is the quick loop with its own code; of any other number no cell is done. Assumes
-- nothing.
use Rattle.std.proofs.Common.{sym}
use Rattle.quick.specs.Cells.{none_yet}
use Rattle.quick.proofs.codes.singles.Goals as goal

pub sided-requires : goal.sided-requires
sided-requires c = record { workable = c.requires; code_value = sym c.in-53.is }

pub sided-requires-in-54 : goal.sided-requires-in-54
sided-requires-in-54 c = record { workable = c.requires; code_value = sym c.in-54.is }

pub sided-requires-in-57 : goal.sided-requires-in-57
sided-requires-in-57 c = record { workable = c.requires; code_value = sym c.in-57.is }

pub sided-requires-in-58 : goal.sided-requires-in-58
sided-requires-in-58 c = record { workable = c.requires; code_value = sym c.in-58.is }

pub sided-requires-in-63 : goal.sided-requires-in-63
sided-requires-in-63 c = record { workable = c.requires; code_value = sym c.in-63.is }

pub sided-requires-in-65 : goal.sided-requires-in-65
sided-requires-in-65 c = record { workable = c.requires; code_value = sym c.in-65.is }

pub sided-requires-in-66 : goal.sided-requires-in-66
sided-requires-in-66 c = record { workable = c.requires; code_value = sym c.in-66.is }

pub sided-requires-in-67 : goal.sided-requires-in-67
sided-requires-in-67 c = record { workable = c.requires; code_value = sym c.in-67.is }

pub sided-requires-in-71 : goal.sided-requires-in-71
sided-requires-in-71 c = record { workable = c.requires; code_value = sym c.in-71.is }

pub sided-requires-in-75 : goal.sided-requires-in-75
sided-requires-in-75 c = record { workable = c.requires; code_value = sym c.in-75.is }

pub sided-requires-in-79 : goal.sided-requires-in-79
sided-requires-in-79 c = record { workable = c.requires; code_value = sym c.in-79.is }

pub shape_of-work-in-53 : goal.shape_of-work-in-53
shape_of-work-in-53 c = c.sided.ensures.long

pub returns-in-53 : goal.returns-in-53
returns-in-53 c = c.sided.ensures

pub shape_of-work-in-54 : goal.shape_of-work-in-54
shape_of-work-in-54 c = c.sided-in-54.ensures.long

pub returns-in-54 : goal.returns-in-54
returns-in-54 c = c.sided-in-54.ensures

pub shape_of-work-in-57 : goal.shape_of-work-in-57
shape_of-work-in-57 c = c.sided-in-57.ensures.long

pub returns-in-57 : goal.returns-in-57
returns-in-57 c = c.sided-in-57.ensures

pub shape_of-work-in-58 : goal.shape_of-work-in-58
shape_of-work-in-58 c = c.sided-in-58.ensures.long

pub returns-in-58 : goal.returns-in-58
returns-in-58 c = c.sided-in-58.ensures

pub shape_of-work-in-63 : goal.shape_of-work-in-63
shape_of-work-in-63 c = c.sided-in-63.ensures.long

pub returns-in-63 : goal.returns-in-63
returns-in-63 c = c.sided-in-63.ensures

pub shape_of-work-in-65 : goal.shape_of-work-in-65
shape_of-work-in-65 c = c.sided-in-65.ensures.long

pub returns-in-65 : goal.returns-in-65
returns-in-65 c = c.sided-in-65.ensures

pub shape_of-work-in-66 : goal.shape_of-work-in-66
shape_of-work-in-66 c = c.sided-in-66.ensures.long

pub returns-in-66 : goal.returns-in-66
returns-in-66 c = c.sided-in-66.ensures

pub shape_of-work-in-67 : goal.shape_of-work-in-67
shape_of-work-in-67 c = c.sided-in-67.ensures.long

pub returns-in-67 : goal.returns-in-67
returns-in-67 c = c.sided-in-67.ensures

pub shape_of-work-in-71 : goal.shape_of-work-in-71
shape_of-work-in-71 c = c.sided-in-71.ensures.long

pub returns-in-71 : goal.returns-in-71
returns-in-71 c = c.sided-in-71.ensures

pub shape_of-work-in-75 : goal.shape_of-work-in-75
shape_of-work-in-75 c = c.sided-in-75.ensures.long

pub returns-in-75 : goal.returns-in-75
returns-in-75 c = c.sided-in-75.ensures

pub shape_of-work-in-79 : goal.shape_of-work-in-79
shape_of-work-in-79 c = c.sided-in-79.ensures.long

pub returns-in-79 : goal.returns-in-79
returns-in-79 c = c.sided-in-79.ensures

pub returns-in_default : goal.returns-in_default
returns-in_default c = none_yet
