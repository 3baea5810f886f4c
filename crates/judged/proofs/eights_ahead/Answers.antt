-- `judged::eights_ahead` meets its contract: eight cells more a turn.
use Rattle.std.proofs.Common.{ℕ, ◌≡◌, ◌*◌, ◌/◌, subst, arith}
use borrow.Author.Tests.{not-false}
use Rattle.judged.specs.Looks.{Ahead, none_ahead, eight-ahead}
use Rattle.judged.proofs.eights_ahead.Goals as goal

pub loop-t-preserved : goal.loop-t-preserved
loop-t-preserved c =
    let l = c.loop-t in
    let a = c.args in
    eight-ahead a.kind a.s.now a.at a.n l.t (omega (arith, c.loop-t-test.true)) l.invariant
    (c.eight_at.ensures (not-false _ c.if-not-eight_at.false-raw))

pub loop-t-init : goal.loop-t-init
loop-t-init c = let a = c.args in none_ahead a.kind a.s.now a.at a.n

pub returns-then-not-eight_at : goal.returns-then-not-eight_at
returns-then-not-eight_at c = c.loop-t.invariant

pub returns : goal.returns
returns c =
    let a = c.args in
    let e : c.loop-t.t ≡ a.n / 8 = omega (arith, c.loop-t-test.false, c.loop-t.invariant.few) in
    subst (λ (t : ℕ). Ahead a.kind a.s.now a.at a.n (t * 8)) e c.loop-t.invariant
