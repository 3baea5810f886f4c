-- `extent::names::names_fit` meets its contract.
-- The test of each name, as the chain has it.
use Rattle.std.proofs.Common.{rules, tests, sym, ◌∙◌, drop, take}
use Rattle.std.proofs.lemmas.Iterator.{YieldsList-from_slice}
use Rattle.std.proofs.lemmas.Iterator.Search.{all_from_yields_List}
use Rattle.extent.specs.Tests.{fit-all}
use Rattle.paper.specs.Axes.{letters_of}
use Rattle.paper.specs.Limits.{sizes_of}
use Rattle.paper.specs.Numbers.{zeros}
use Rattle.extent.proofs.names.names_fit.Goals as goal

pub returns : goal.returns
returns c =
    let v = c.args.v in
    all_from_yields_List (λ n. zeros (drop (sizes_of v).name (letters_of n))) _ _ _ c.all.ensures.ran
    (YieldsList-from_slice _ c.iter.ensures.rest) (λ x b q k. search (rules, tests))
    ∙ sym (fit-all (sizes_of v) (take c.args.rank c.args.names))
