-- `extent::good_limits` meets its contract.
-- The test of each axis, as the chain has it.
use Rattle.std.proofs.Common.{rules, tests, sym, ◌∙◌}
use Rattle.std.proofs.lemmas.Iterator.{YieldsList-from_slice}
use Rattle.std.proofs.lemmas.Iterator.Search.{all_from_yields_List}
use Rattle.extent.specs.Tests.{in_range, limits-all}
use Rattle.paper.specs.Answers.{axes_of}
use Rattle.extent.proofs.good_limits.Goals as goal

pub returns : goal.returns
returns c =
    all_from_yields_List in_range _ _ _ c.all.ensures.ran
    (YieldsList-from_slice _ (c.iter.ensures.rest ∙ c.rank_of.ensures.first)) (λ x b q k. search (rules, tests))
    ∙ sym (limits-all (axes_of c.args.e))
