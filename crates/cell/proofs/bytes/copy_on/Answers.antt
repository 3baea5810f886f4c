-- `cell::bytes::copy_on` meets its contract: as `copy_bytes`, and what stands before `at` stays, so each byte read is the one that stood
-- there.
use Rattle.std.proofs.Common.{◌≡◌, ℕ, ◌+◌, ◌<◌, List, get_or, take, set, sym, refl, ap, ◌∙◌, subst, arith, get_or-take}
use lib.Seq.{take-set-le}
use Rattle.laws.specs.Put.{Copying, copy-begins, copy_more, copy-ends}
use Rattle.cell.proofs.bytes.copy_on.Goals as goal

-- a byte before `at` is as it was
still : (d d₀ : List ℕ) (at i : ℕ) → i < at → take at d ≡ take at d₀ → get_or d i 0 ≡ get_or d₀ i 0
still d d₀ at i h e = sym (get_or-take at d i 0 h) ∙ ap (λ (l : List ℕ). get_or l i 0) e ∙ get_or-take at d₀ i 0 h

pub loop-k-init : goal.loop-k-init
loop-k-init c =
    let d = c.args.d.now in
    (copy-begins d c.args.from d c.args.at c.args.n (omega (arith, c.requires)) c.requires.1, refl)

pub bounds-d-from : goal.bounds-d-from
bounds-d-from c = omega (arith, c.requires, c.loop-k.invariant.0.long)

pub bounds-d-at : goal.bounds-d-at
bounds-d-at c = omega (arith, c.loop-k.invariant.0.long)

pub loop-k-preserved : goal.loop-k-preserved
loop-k-preserved c =
    let l = c.loop-k in
    let p = c in
    let d = p.args.d.now in
    let at = p.args.at in
    let from = p.args.from in
    let n = p.args.n in (
      subst (λ (x : ℕ). Copying d from d at n (set l.d (at + l.k) x) (l.k + 1))
          (sym (still l.d d at (from + l.k) (omega (arith, p.requires.0)) l.invariant.1))
          (copy_more d from d at n (omega (arith, p.requires)) p.requires.1 l.d l.k l.invariant.0 c.loop-k-test.true),
      take-set-le at l.d (at + l.k) _ (omega arith) ∙ l.invariant.1,
    )

pub shape_of-d : goal.shape_of-d
shape_of-d c = c.loop-k.invariant.0.long

pub returns : goal.returns
returns c =
    let l = c.loop-k in
    let p = c in
    let d = p.args.d.now in
    copy-ends d p.args.from d p.args.at p.args.n (omega (arith, p.requires)) p.requires.1 l.d l.k
    l.invariant.0 c.loop-k-test.false
