-- `shape::axis_anew` meets its contract.
-- Each change by its own function.
use Rattle.std.proofs.Common.{ap, subst, sym, ◌∙◌, ◌≡◌, drop}
use Rattle.positions.specs.Runs.{Holds}
use Rattle.shape.specs.Renewed.{bytes_for, fresh}
use Rattle.shape.specs.declared.Change.TheVariants.{Limits, Moved}
use Rattle.shape.specs.declared.Change.{Change}
use Rattle.shape.proofs.axis_anew.Goals as goal
use Rattle.shape.proofs.axis_anew.Goals.{Start}

module _ (c : Start) where
  holds : (h : Change) → c.args.how ≡ h → Holds c.args.at (bytes_for h) c.args.s.now
  holds h e = subst (λ (x : Change). Holds c.args.at (bytes_for x) c.args.s.now) e c.requires.holds

  told : (h : Change) → c.args.how ≡ h → fresh h c.args.a (drop c.args.at c.args.s.now) ≡ fresh c.args.how c.args.a (drop c.args.at c.args.s.now)
  told h e = ap (λ (x : Change). fresh x c.args.a (drop c.args.at c.args.s.now)) (sym e)

pub limits_at-requires : goal.limits_at-requires
limits_at-requires c = holds (goal.at.limits_at-requires c).Start Limits c.in-Limits.is

pub returns-in-Limits : goal.returns-in-Limits
returns-in-Limits c = c.limits_at.ensures ∙ told (goal.at.returns-in-Limits c).Start Limits c.in-Limits.is

pub moved_at-requires : goal.moved_at-requires
moved_at-requires c = record { ranged = c.requires.ranged; holds = holds (goal.at.moved_at-requires c).Start Moved c.in-Moved.is }

pub returns-in-Moved : goal.returns-in-Moved
returns-in-Moved c = c.moved_at.ensures ∙ told (goal.at.returns-in-Moved c).Start Moved c.in-Moved.is
