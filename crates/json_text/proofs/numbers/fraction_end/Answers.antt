-- `json_text::numbers::fraction_end` meets its contract: a fraction or none, then an exponent or none.
use Rattle.std.proofs.Common.{◌<◌, length, arith}
use Rattle.std.proofs.lemmas.Result.{err_from_is_err_and}
use Rattle.json_text.specs.Numbers.{fraction-none, fraction-stops, fraction-then}
use Rattle.json_text.proofs.numbers.fraction_end.Goals as goal
use Rattle.json_text.proofs.numbers.fraction_end.Goals.{then-at-s-via-then-at-s, then-at-s-via-else-at-s+then-s-at-ne46}

pub returns-then-at-s : goal.returns-then-at-s
returns-then-at-s c =
    λ d g. c.exponent_end.ensures d
    (fraction-none _ _ d g
    (elim c.then-at-s.branch [
      | then-at-s-via-then-at-s w ↦ λ h. absurd (omega arith)
      | then-at-s-via-else-at-s+then-s-at-ne46 w ↦ λ h. w.if-s-at-ne46.true
    ]))

pub returns-in_err-digits_due : goal.returns-in_err-digits_due
returns-in_err-digits_due c =
    λ d g.
    let p = err_from_is_err_and c.from_residual.result c.from_residual.ensures.1 in
    let h : c.args.at < length c.args.s.now = omega arith in
    rw (p.1, p.2) (fraction-stops _ _ d g h c.if-s-at-ne46.false _ c.in_err-digits_due.ensures)

pub returns : goal.returns
returns c =
    λ d g. fraction-then _ _ d g (omega arith) c.if-s-at-ne46.false _ c.in_ok-digits_due.ensures _ c.exponent_end-2.ensures
