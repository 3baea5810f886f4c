-- `step::unused::moves_use` meets its contract: each move by its own line of the table.
use Rattle.std.proofs.Common.{mul-le-mul, arith}
use Rattle.step.specs.Using.{used_by}
use Rattle.step.proofs.unused.moves_use.Goals as goal

pub overflow_mul-name : goal.overflow_mul-name
overflow_mul-name c = omega (arith, mul-le-mul c.requires.name_bound c.requires.n_le_most_axes)

pub returns-in-Trim : goal.returns-in-Trim
unfolding used_by
returns-in-Trim c = rw c.in-Trim.is c.used_as.ensures

pub returns-in-Slice : goal.returns-in-Slice
unfolding used_by
returns-in-Slice c = rw c.in-Slice.is c.used_as-in-Slice.ensures

pub returns-in-Reshape : goal.returns-in-Reshape
unfolding used_by
returns-in-Reshape c = rw c.in-Reshape.is c.used_as-in-Reshape.ensures

pub returns-in-Shift : goal.returns-in-Shift
unfolding used_by
returns-in-Shift c = rw c.in-Shift.is c.used_as-in-Shift.ensures

pub returns-in-Rename : goal.returns-in-Rename
unfolding used_by
returns-in-Rename c = rw c.in-Rename.is c.used_as-in-Rename.ensures

pub returns-in-Update : goal.returns-in-Update
unfolding used_by
returns-in-Update c = rw c.in-Update.is c.used_as-in-Update.ensures

pub returns-in-Put : goal.returns-in-Put
unfolding used_by
returns-in-Put c = rw c.in-Put.is c.used_as-in-Put.ensures

pub returns-in-Glue : goal.returns-in-Glue
unfolding used_by
returns-in-Glue c = rw c.in-Glue.is c.used_as-in-Glue.ensures
