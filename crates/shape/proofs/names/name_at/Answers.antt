-- `shape::names::name_at` meets its contract: each version by its own.
use Rattle.std.proofs.Common.{◌≡◌, sym, ap, subst, ◌∙◌}
use Rattle.paper.specs.declared.Version.{Version}
use Rattle.paper.specs.declared.Version.TheVariants.{One, Two}
use Rattle.paper.specs.Limits.{sizes_of}
use Rattle.paper.specs.Numbers.{part}
use Rattle.paper.specs.Bundle.{name_from}
use Rattle.positions.specs.Runs.{Holds}
use Rattle.shape.proofs.names.name_at.Goals as goal
use Rattle.shape.proofs.names.name_at.Goals.{Start}

module _ (c : Start) where
  holds : (v : Version) → c.args.v ≡ v → Holds c.args.at (sizes_of v).name c.args.s.now
  holds v e = subst (λ (x : Version). Holds c.args.at (sizes_of x).name c.args.s.now) e c.requires

  told : (v : Version) → c.args.v ≡ v → name_from (part c.args.at (sizes_of v).name c.args.s.now)
      ≡ name_from (part c.args.at (sizes_of c.args.v).name c.args.s.now)
  told v e = ap (λ (x : Version). name_from (part c.args.at (sizes_of x).name c.args.s.now)) (sym e)

pub short_name-requires : goal.short_name-requires
unfolding sizes_of
short_name-requires c = holds (goal.at.short_name-requires c).Start One c.in-One.is

pub returns-in-One : goal.returns-in-One
unfolding sizes_of
returns-in-One c = c.short_name.ensures ∙ told (goal.at.returns-in-One c).Start One c.in-One.is

pub long_name-requires : goal.long_name-requires
unfolding sizes_of
long_name-requires c = holds (goal.at.long_name-requires c).Start Two c.in-Two.is

pub returns-in-Two : goal.returns-in-Two
unfolding sizes_of
returns-in-Two c = c.long_name.ensures ∙ told (goal.at.returns-in-Two c).Start Two c.in-Two.is
