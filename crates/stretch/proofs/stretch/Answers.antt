-- `stretch::stretch` meets its contract: the plan's part lies in its buffer and is handed out, or its refusal is told.
use Rattle.paper.specs.declared.Part.{Part}
use Rattle.paper.specs.Refusals.{Res}
use Rattle.std.proofs.Common.{◌≡◌, refl, sym, ap, subst, ◌∙◌}
use Rattle.paper.specs.Stretch.{Side, stretch, handed_out}
use Rattle.stretch.specs.Sides.{sided}
use Rattle.stretch.specs.Plans.{Buffered}
use Rattle.stretch.specs.Handed.{figures}
use Rattle.stretch.proofs.stretch.Goals as goal
use Rattle.stretch.proofs.stretch.Goals.{After-plan_stretch, Start}

module _ (c : After-plan_stretch) where
  abbrev L : Side
  L = sided c.args.left_kind c.args.left_names c.args.left c.args.left_cells.now

  abbrev R : Side
  R = sided c.args.right_kind c.args.right_names c.args.right c.args.right_cells.now

  answer : {a : Res Part} → c.plan_stretch.result ≡ a
      → a ≡ stretch c.args.version L R c.args.axis.0 c.args.o.0
  answer e = sym e ∙ c.plan_stretch.ensures.said L.bytes R.bytes refl refl

pub part_of-requires : goal.part_of-requires
part_of-requires c = subst (Buffered _ _) c.in-Ok.is c.plan_stretch.ensures.within

pub returns-in-Ok : goal.returns-in-Ok
returns-in-Ok c =
    let s = (goal.at.returns-in-Ok c).After-plan_stretch in
    let q = answer s c.in-Ok.is in
    record { bytes = c.part_of.ensures (L s) (R s) refl refl ∙ ap (handed_out (L s) (R s)) q; refusal = ap figures q }

pub returns-in-Err : goal.returns-in-Err
unfolding handed_out
returns-in-Err c =
    let s = (goal.at.returns-in-Err c).After-plan_stretch in
    let q = answer s c.in-Err.is in
    record { bytes = ap (handed_out (L s) (R s)) q; refusal = ap figures q }
