-- `json_text::words::word_end` meets its contract: the loop keeps what is left of the word.
use Rattle.std.proofs.Common.{◌≡◌, ℕ, ◌+◌, drop, subst, arith}
use Rattle.json_text.specs.Parts.{Going, going-as, byte-missing, byte-out, byte-in}
use Rattle.json_text.specs.Words.{letters, letters-next, letter-same, letter-other}
use Rattle.json_text.proofs.words.word_end.Goals as goal
use Rattle.json_text.proofs.words.word_end.Goals.{In-loop-i, then-s-at-via-then-s-at, then-s-at-via-else-s-at+then-s-at-2}

pub returns-then-s-at : goal.returns-then-s-at
returns-then-s-at c =
    let n = going-as _ _ _ _ (letters-next c.args.w.now c.loop-i.i c.loop-i-test.true) c.loop-i.invariant in
    elim c.then-s-at.branch [
      | then-s-at-via-then-s-at w ↦ byte-missing _ _ _ _ _ _ n w.if-s-at.true
      | then-s-at-via-else-s-at+then-s-at-2 w ↦ byte-out _ _ _ _ _ _ n w.if-s-at.false (letter-other _ _ w.if-s-at-2.true)
    ]

pub loop-i-preserved : goal.loop-i-preserved
loop-i-preserved c =
    let n = going-as _ _ _ _ (letters-next c.args.w.now c.loop-i.i c.loop-i-test.true) c.loop-i.invariant in
    let q : c.args.at + c.loop-i.i + 1 ≡ c.args.at + (c.loop-i.i + 1) = omega arith in
    subst (λ (m : ℕ). Going c.args.s.now (letters c.args.w.now) c.args.at (letters (drop (c.loop-i.i + 1) c.args.w.now)) m) q
    (byte-in _ _ _ _ _ _ n c.if-s-at.false (letter-same _ _ c.if-s-at-2.false))
