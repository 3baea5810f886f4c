-- `step::tests::moved_names` meets its contract: each move by its own line of the table.
use Rattle.std.proofs.Common.{ℕ, ◌*◌, ◌≤◌, List, ◌≡◌, ap, sym, subst, arith, rules, length, take}
use Rattle.paper.specs.declared.Name.{Name}
use Rattle.paper.specs.declared.Axis.{Axis}
use Rattle.paper.specs.declared.Move.{Move}
use Rattle.paper.specs.declared.Move.TheVariants.{Trim, Slice, Reshape, Shift, Rename, Update, Put, Glue}
use Rattle.paper.specs.declared.Operation.TheVariants.{Moves}
use Rattle.paper.specs.Limits.{most_axes, sizes_of}
use Rattle.paper.specs.Recipe.{result_names}
use Rattle.paper.specs.Answers.{axes_of, names_for}
use Rattle.laws.specs.Answers.{axes-few}
use Rattle.laws.specs.Loops.{length-mapped}
use Rattle.step.specs.Steps.{detail_of, step_in, names-there, fewer}
use Rattle.step.specs.Named.{NamesTold, names-kept, names-anew}
use Rattle.step.proofs.tests.moved_names.Goals as goal
use Rattle.step.proofs.tests.moved_names.Goals.{Start}

module _ (c : Start) where
  abbrev E : List Axis
  E = axes_of c.args.e

  full : length c.args.m ≡ most_axes
  full = search (rules, length-mapped)

  room : length E ≤ length c.args.m
  room = omega (arith, full, axes-few c.args.e)

  abbrev told : Move → List Name → Type 0
  told mv new = NamesTold (sizes_of c.args.step.version).name (Moves mv) (step_in c.args.s.now c.args.step) c.args.m
      c.args.e new

  arm : (mv : Move) (new : List Name) → c.args.mv ≡ mv → told mv new → told c.args.mv new
  arm mv new e t = subst (λ (x : Move). told x new) (sym e) t

  own : take (length (names_for E c.args.m)) c.args.m ≡ names_for E c.args.m
  own = names-kept E c.args.m room

pub returns-in-Trim : goal.returns-in-Trim
unfolding result_names
returns-in-Trim c =
    let s = (goal.at.returns-in-Trim c).Start in
    arm s Trim _ c.in-Trim.is (own s)

pub returns-in-Reshape : goal.returns-in-Reshape
unfolding result_names
returns-in-Reshape c =
    let s = (goal.at.returns-in-Reshape c).Start in
    arm s Reshape _ c.in-Reshape.is (own s)

pub returns-in-Shift : goal.returns-in-Shift
unfolding result_names
returns-in-Shift c =
    let s = (goal.at.returns-in-Shift c).Start in
    arm s Shift _ c.in-Shift.is (own s)

pub returns-in-Update : goal.returns-in-Update
unfolding result_names
returns-in-Update c =
    let s = (goal.at.returns-in-Update c).Start in
    arm s Update _ c.in-Update.is (own s)

pub returns-in-Put : goal.returns-in-Put
unfolding result_names
returns-in-Put c =
    let s = (goal.at.returns-in-Put c).Start in
    arm s Put _ c.in-Put.is (own s)

pub returns-in-Glue : goal.returns-in-Glue
unfolding result_names
returns-in-Glue c =
    let s = (goal.at.returns-in-Glue c).Start in
    arm s Glue _ c.in-Glue.is (own s)

pub without_name-requires : goal.without_name-requires
without_name-requires c = c.rank_of.ensures.few

pub returns-in-Slice : goal.returns-in-Slice
unfolding result_names
returns-in-Slice c =
    let s = (goal.at.returns-in-Slice c).Start in
    let r = c.rank_of.ensures in
    let e : take c.rank_of.result c.args.m ≡ names_for (E s) c.args.m = ap (λ (n : ℕ). take n c.args.m)
    r.number in
    arm s Slice _ c.in-Slice.is (rw (← e) c.without_name.ensures)

pub names_at-requires : goal.names_at-requires
names_at-requires c =
    let h = c.args.step in
    let w = (sizes_of h.version).name in
    let e : length (E (goal.at.names_at-requires c).Start) * w ≡ c.rank_of-in-Rename.result * w = ap (λ (n : ℕ). n * w) (sym c.rank_of-in-Rename.ensures.number) in record { rank_le_most_axes = c.rank_of-in-Rename.ensures.few; holds = fewer h.at (c.rank_of-in-Rename.result * w) (detail_of h) c.args.s.now (rw e at (names-there c.requires)) c.requires.holds }

pub returns-in-Rename : goal.returns-in-Rename
unfolding result_names
returns-in-Rename c =
    let s = (goal.at.returns-in-Rename c).Start in
    let r = c.rank_of-in-Rename.ensures in
    let h = c.args.step in
    arm s Rename _ c.in-Rename.is
    (names-anew (sizes_of h.version).name (E s) c.args.m c.names_at.result c.args.s.now h.at (detail_of h)
    c.rank_of-in-Rename.result r.number (room s) (names-there c.requires) c.names_at.ensures)
