-- `bundle::mark::is_marked` meets its contract.
use Rattle.std.proofs.Common.{ℕ, ◌≡◌, sym, ◌∙◌, List, eq-eqb, ne_eqb, take}
use Rattle.paper.specs.Limits.{sizes_of}
use Rattle.paper.specs.Numbers.{same}
use Rattle.paper.specs.Bundle.{mark, mark_bytes}
use Rattle.laws.specs.Tests.{and-true}
use Rattle.bundle.specs.Axes.{marked, five_bytes}
use Rattle.bundle.proofs.mark.is_marked.Goals as goal
use Rattle.bundle.proofs.mark.is_marked.Goals.{After-sizes-z}

-- the five bytes, one by one
module _ (c : After-sizes-z) where
  abbrev bs : List ℕ
  bs = c.args.s.now

  five : same (take mark_bytes bs) (mark (sizes_of c.args.v)) ≡ five_bytes bs c.sizes-z.result.version
  five = marked c.args.v bs c.requires c.sizes-z.result c.sizes-z.ensures

pub returns-then-s-ne82 : goal.returns-then-s-ne82
returns-then-s-ne82 c = sym (five (goal.at.returns-then-s-ne82 c).After-sizes-z ∙ rw (ne_eqb _ _ c.if-s-ne82.true))

pub returns-then-s-ne77 : goal.returns-then-s-ne77
returns-then-s-ne77 c =
    sym (five (goal.at.returns-then-s-ne77 c).After-sizes-z ∙ rw (eq-eqb _ _ c.if-s-ne82.false, ne_eqb _ _ c.if-s-ne77.true))

pub returns-then-s-ne65 : goal.returns-then-s-ne65
returns-then-s-ne65 c =
    sym (five (goal.at.returns-then-s-ne65 c).After-sizes-z ∙ rw (eq-eqb _ _ c.if-s-ne82.false, eq-eqb _ _ c.if-s-ne77.false, ne_eqb _ _ c.if-s-ne65.true))

pub returns-then-s-z : goal.returns-then-s-z
returns-then-s-z c =
    sym (five (goal.at.returns-then-s-z c).After-sizes-z ∙ rw (
      eq-eqb _ _ c.if-s-ne82.false,
      eq-eqb _ _ c.if-s-ne77.false,
      eq-eqb _ _ c.if-s-ne65.false,
      ne_eqb _ _ c.if-s-z.true,
    ))

pub returns : goal.returns
returns c =
    sym (five (goal.at.returns c).After-sizes-z ∙ rw (
      eq-eqb _ _ c.if-s-ne82.false,
      eq-eqb _ _ c.if-s-ne77.false,
      eq-eqb _ _ c.if-s-ne65.false,
      eq-eqb _ _ c.if-s-z.false,
    ) (and-true _))
