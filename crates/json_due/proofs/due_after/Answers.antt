-- `json_due::due_after` meets its contract: each by what was due.
use Rattle.std.proofs.Common.{sym, arith}
use Rattle.paper.specs.Answers.{axes_of}
use Rattle.json_due.specs.Due.{follows_nothing, follows-opening, follows-closing, follows-value, stands-opening, stands-closing, stands-value}
use Rattle.json_due.proofs.due_after.Goals as goal

pub returns-in-Nothing : goal.returns-in-Nothing
returns-in-Nothing c = follows_nothing (axes_of c.args.e) c.args.c c.in-Nothing.is c.requires.1

pub due_inside-requires : goal.due_inside-requires
due_inside-requires c = (c.requires.0, stands-opening (axes_of c.args.e) c.args.c c.requires.1 c.in-Opening.is)

pub returns-in-Opening : goal.returns-in-Opening
returns-in-Opening c = follows-opening (axes_of c.args.e) c.args.c c.in-Opening.is _ c.due_inside.ensures

pub overflow_sub-c : goal.overflow_sub-c
overflow_sub-c c = (stands-closing (axes_of c.args.e) c.args.c c.requires.1 c.in-Closing.is).0

pub due_next-requires : goal.due_next-requires
due_next-requires c = (c.rank_of-rank.ensures.few, omega (arith, (stands-closing (axes_of c.args.e) c.args.c c.requires.1 c.in-Closing.is).1, c.rank_of-rank.ensures.number))

pub returns-in-Closing : goal.returns-in-Closing
returns-in-Closing c = follows-closing (axes_of c.args.e) c.args.c c.in-Closing.is _ (c.due_next.ensures (axes_of c.args.e) (sym c.rank_of-rank.ensures.number))

pub due_next-requires-in-Value : goal.due_next-requires-in-Value
due_next-requires-in-Value c = (c.rank_of-rank.ensures.few, omega (arith, (stands-value (axes_of c.args.e) c.args.c c.requires.1 c.in-Value.is).1, c.rank_of-rank.ensures.number))

pub returns-in-Value : goal.returns-in-Value
returns-in-Value c = follows-value (axes_of c.args.e) c.args.c c.in-Value.is _ (c.due_next-in-Value.ensures (axes_of c.args.e) (sym c.rank_of-rank.ensures.number))
