-- `json_text::cells::sized_at` meets its contract: a number counted to the cap is in range exactly if the whole number is.
use Rattle.std.proofs.Common.{drop, ◌∙◌}
use Rattle.json_text.specs.Whole.{sized-yes, sized-no}
use Rattle.json_text.proofs.cells.sized_at.Goals as goal

pub returns : goal.returns
returns c = c.int_of.ensures ∙ sized-yes c.args.minus (drop c.args.at c.args.s.now) _ c.in_ok-natural_at.ensures

pub returns-in_err-natural_at : goal.returns-in_err-natural_at
returns-in_err-natural_at c = c.from_residual.ensures ∙ sized-no c.args.minus (drop c.args.at c.args.s.now) c.in_err-natural_at.ensures
