-- `json_text::strings::further_end` meets its contract: the loop keeps that so many bytes are left, the next in its range.
use Rattle.std.proofs.Common.{◌≡◌, ℕ, ◌+◌, [], subst, arith}
use Rattle.std.specs.Prelude.{Ok}
use Rattle.json_text.specs.Left.{Ends}
use Rattle.json_text.specs.Bytes.{in-range}
use Rattle.json_text.specs.Parts.{going-as, all_read, byte-missing, byte-out, byte-in}
use Rattle.json_text.specs.Strings.{spanned, spanned-next, spanned-none, range-low, range-high}
use Rattle.json_text.proofs.strings.further_end.Goals as goal
use Rattle.json_text.proofs.strings.further_end.Goals.{In-loop-i, then-s-i-via-then-s-i, then-s-i-via-else-s-i+then-s-i-2, then-s-i-via-else-s-i+else-s-i-2+then-high-s}

pub returns-then-s-i : goal.returns-then-s-i
returns-then-s-i c =
    let n = going-as _ _ _ _ (spanned-next (c.args.at + c.from.result) c.loop-i.i _ _ c.loop-i-test.true) c.loop-i.invariant in
    elim c.then-s-i.branch [
      | then-s-i-via-then-s-i w ↦ byte-missing _ _ _ _ _ _ n w.if-s-i.true
      | then-s-i-via-else-s-i+then-s-i-2 w ↦ byte-out _ _ _ _ _ _ n w.if-s-i.false (range-low _ _ _ w.if-s-i-2.true)
      | then-s-i-via-else-s-i+else-s-i-2+then-high-s w ↦ byte-out _ _ _ _ _ _ n w.if-s-i.false (range-high _ _ _ w.if-high-s.true)
    ]

pub loop-i-preserved : goal.loop-i-preserved
loop-i-preserved c =
    let n = going-as _ _ _ _ (spanned-next (c.args.at + c.from.result) c.loop-i.i _ _ c.loop-i-test.true) c.loop-i.invariant in
    byte-in _ _ _ _ _ _ n c.if-s-i.false (in-range _ _ _ [] c.if-s-i-2.false c.if-high-s.false)

pub returns : goal.returns
returns c =
    let q : c.loop-i.i ≡ c.args.at + c.from.result = omega (arith, c.loop-i.auto.i-end) in
    let l = c.args.lead in
    subst (λ (m : ℕ). Ends c.args.s.now (spanned l.0 l.1 l.2) c.args.at (Ok m)) q
    (all_read _ _ _ _ (going-as _ _ _ _ (spanned-none (c.args.at + c.from.result) _ _ _ c.loop-i-test.false) c.loop-i.invariant))
