-- `rows::run_at` meets its contract: the cells from k on, as many as are asked for.
use Rattle.std.proofs.Common.{ap, sym, ◌∙◌, arith}
use Rattle.rows.specs.Bands.{onward}
use Rattle.rows.proofs.run_at.Goals as goal

pub origin_of-from-requires : goal.origin_of-from-requires
origin_of-from-requires c = record { holds = c.requires.holds; moving = c.requires.moving; k_bound = omega (arith, c.requires.le_most) }

pub run_length-length-requires : goal.run_length-length-requires
run_length-length-requires c = record { holds = c.requires.holds; moving = c.requires.moving; k_bound = omega (arith, c.requires.le_most) }

pub returns : goal.returns
returns c =
    record {
      fits = omega arith;
      some = λ h. omega (arith, c.run_length-length.ensures.0);
      each = λ i h.
          c.run_length-length.ensures.1.each i (omega arith) (omega (arith, c.requires.le_most))
          ∙ ap (onward i i) (sym c.origin_of-from.ensures);
    }
