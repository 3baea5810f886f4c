-- `pack::put::put_name` meets its contract: each version by its own.
use Rattle.std.proofs.Common.{◌+◌, ◌≤◌, ◌≡◌, sym, ap, subst, ◌∙◌, length, take}
use Rattle.paper.specs.declared.Version.{Version}
use Rattle.paper.specs.declared.Version.TheVariants.{One, Two}
use Rattle.paper.specs.Limits.{sizes_of}
use Rattle.paper.specs.Axes.{letters_of}
use Rattle.laws.specs.Put.{put}
use Rattle.pack.specs.Put.{short-put}
use Rattle.pack.proofs.put.put_name.Goals as goal
use Rattle.pack.proofs.put.put_name.Goals.{Start}

module _ (c : Start) where
  holds : (v : Version) → c.args.v ≡ v → c.args.at + (sizes_of v).name ≤ length c.args.d.now
  holds v e = subst (λ (x : Version). c.args.at + (sizes_of x).name ≤ length c.args.d.now) e c.requires

  told : (v : Version) → c.args.v ≡ v → put c.args.d.now c.args.at (take (sizes_of v).name (letters_of c.args.n))
      ≡ put c.args.d.now c.args.at (take (sizes_of c.args.v).name (letters_of c.args.n))
  told v e = ap (λ (x : Version). put c.args.d.now c.args.at (take (sizes_of x).name (letters_of c.args.n))) (sym e)

pub put_half-requires : goal.put_half-requires
unfolding sizes_of
put_half-requires c = holds (goal.at.put_half-requires c).Start One c.in-One.is

pub returns-in-One : goal.returns-in-One
unfolding sizes_of
returns-in-One c =
    short-put c.args.d.now c.put_half.new.d c.args.at c.args.n c.put_half.ensures
    ∙ told (goal.at.returns-in-One c).Start One c.in-One.is

pub put_both-requires : goal.put_both-requires
unfolding sizes_of
put_both-requires c = holds (goal.at.put_both-requires c).Start Two c.in-Two.is

pub returns-in-Two : goal.returns-in-Two
unfolding sizes_of
returns-in-Two c =
    c.put_both.ensures ∙ told (goal.at.returns-in-Two c).Start Two c.in-Two.is
