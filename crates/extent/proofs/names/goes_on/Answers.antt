-- `extent::names::goes_on` meets its contract.
-- The loop keeps the test of the bytes left, and of the others, equal to the whole.
use Rattle.std.proofs.Common.{ℕ, ◌-◌, Bool, ◌&&◌, List, ◌++◌, ap, refl, sym, ◌∙◌, ◌≡◌, eq-eqb, ne_eqb, eqb}
use borrow.Author.Tests.{not-false, not-true}
use Rattle.extent.specs.Names.{left_less, rest_end, rest_more, rest-stop}
use Rattle.paper.specs.Axes.{name_rest}
use Rattle.paper.specs.Limits.{half_name}
use Rattle.paper.specs.Numbers.{le_bytes, zeros}
use Rattle.extent.proofs.names.goes_on.Goals as goal
use Rattle.extent.proofs.names.goes_on.Goals.{Start, Then-not-in_name}

pub loop-at-init : goal.loop-at-init
loop-at-init c = (c.requires, λ R. refl)

-- a byte that is no letter
module _ (c : Then-not-in_name) where
  abbrev s : Start
  s = c.before.before.before.before

  abbrev left : ℕ
  left = c.loop-at.left

  stops : (R : List ℕ) → (eqb left 0 && zeros R) ≡ name_rest (le_bytes (half_name - s.args.i) s.args.n ++ R)
  stops R =
      let l = c.loop-at in
      rest-stop R l._at left c.loop-at-test.true l.invariant.0
      (sym c.in_name.ensures ∙ not-true _ c.if-not-in_name.true-raw) ∙ l.invariant.1 R

pub returns-then-left-ne0 : goal.returns-then-left-ne0
returns-then-left-ne0 c R f b = ap (λ (x : Bool). x && zeros R) (sym (ne_eqb _ _ c.if-left-ne0.true)) ∙ stops c.before R

pub returns-then-not-in_name : goal.returns-then-not-in_name
returns-then-not-in_name c R f b = b ∙ ap (λ (x : Bool). x && zeros R) (sym (eq-eqb _ _ c.if-left-ne0.false)) ∙ stops c.before R

pub loop-at-preserved : goal.loop-at-preserved
loop-at-preserved c =
    let l = c.loop-at in
    let t = c.loop-at-test.true in (
      left_less l._at l.left t l.invariant.0,
      λ R. rest_more R l._at l.left t l.invariant.0 (sym c.in_name.ensures ∙ not-false _ c.if-not-in_name.false-raw) ∙ l.invariant.1 R,
    )

pub returns : goal.returns
returns c R f b = let l = c.loop-at in f ∙ rest_end R l._at l.left c.loop-at-test.false ∙ l.invariant.1 R
