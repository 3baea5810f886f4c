-- `json_text::strings::hex_end` meets its contract: the loop keeps that so many digits are left of the four.
use Rattle.std.proofs.Common.{◌+◌, ◌-◌, ◌∷◌, sym, ◌∙◌}
use Rattle.paper.specs.Grammar.{one, hex_digit}
use Rattle.json_text.specs.Parts.{Going, going-as, byte-missing, byte-out, byte-in}
use Rattle.json_text.specs.Strings.{hexes, hexes-next}
use Rattle.json_text.proofs.strings.hex_end.Goals as goal
use Rattle.json_text.proofs.strings.hex_end.Goals.{In-loop-i, then-s-i-via-then-s-i, then-s-i-via-else-s-i+then-not-is_hex}

-- a digit is next
next : (c : In-loop-i) → Going c.args.s.now (hexes 4) c.args.at (one hex_digit ∷ hexes (c.args.at + 4 - (c.loop-i.i + 1))) c.loop-i.i
next c = going-as _ _ _ _ (hexes-next (c.args.at + 4) c.loop-i.i c.loop-i-test.true) c.loop-i.invariant

pub returns-then-s-i : goal.returns-then-s-i
returns-then-s-i c =
    let n = next (goal.at.returns-then-s-i c).In-loop-i in
    elim c.then-s-i.branch [
      | then-s-i-via-then-s-i w ↦ byte-missing _ _ _ _ _ _ n w.if-s-i.true
      | then-s-i-via-else-s-i+then-not-is_hex w ↦ byte-out _ _ _ _ _ _ n w.if-s-i.false (sym w.is_hex.ensures ∙ w.if-not-is_hex.true)
    ]

pub loop-i-preserved : goal.loop-i-preserved
loop-i-preserved c =
    byte-in _ _ _ _ _ _ (next (goal.at.loop-i-preserved c).In-loop-i) c.if-s-i.false (sym c.is_hex.ensures ∙ c.if-not-is_hex.false)
