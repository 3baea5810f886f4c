-- `step::tests::result_kind` meets its contract: A's type, or what the operator gives.
use Rattle.std.proofs.Common.{rules}
use Rattle.paper.specs.Recipe.{result_type}
use Rattle.step.proofs.tests.result_kind.Goals as goal

pub returns-in-Pair : goal.returns-in-Pair
unfolding result_type
returns-in-Pair c = rw (c.in-Works.is, c.in-Pair.is) c.gives_pair.ensures

pub returns-in-Scalar : goal.returns-in-Scalar
unfolding result_type
returns-in-Scalar c = rw (c.in-Works.is, c.in-Scalar.is) c.gives_pair-in-Scalar.ensures

pub returns-in-Single : goal.returns-in-Single
unfolding result_type
returns-in-Single c = rw (c.in-Works.is, c.in-Single.is) c.gives_single.ensures

pub returns-in-Moves : goal.returns-in-Moves
unfolding result_type
returns-in-Moves c = search rules

pub gives_pair-requires : goal.gives_pair-requires
unfolding result_type
gives_pair-requires c = search rules

pub gives_pair-requires-in-Scalar : goal.gives_pair-requires-in-Scalar
unfolding result_type
gives_pair-requires-in-Scalar c = search rules

pub gives_single-requires : goal.gives_single-requires
unfolding result_type
gives_single-requires c = search rules
