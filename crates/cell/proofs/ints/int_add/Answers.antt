-- `cell::ints::int_add` meets its contract: whether the sum that wraps fits is told by the signs (Wrap.antt). Assumes nothing.
use Rattle.std.proofs.Common.{◌≡◌, ℕ, ◌+◌, ◌%◌, ◌^◌, Bool, true, false, ℤ, sym, ap, ◌∙◌, ap₂, to_z-of_z, w64, to_z, of_z}
use Rattle.cell.specs.Signs.{signs_apart}
use Rattle.cell.proofs.Wrap.{add-fits, add-over}
use Rattle.cell.proofs.ints.int_add.Goals as goal
use Rattle.cell.proofs.ints.int_add.Goals.{After-signs_apart}

module _ (s : After-signs_apart) where
  abbrev a : ℤ
  a = s.args.a

  abbrev b : ℤ
  b = s.args.b

  first : s.cast_unsigned-x.result ≡ of_z w64 a
  first = s.cast_unsigned-x.ensures ∙ ap (of_z w64) (to_z-of_z s.ranges.a)

  second : s.cast_unsigned-y.result ≡ of_z w64 b
  second = s.cast_unsigned-y.ensures ∙ ap (of_z w64) (to_z-of_z s.ranges.b)

  abbrev n : ℕ
  n = (of_z w64 a + of_z w64 b) % 2 ^ 64

  bits : (s.cast_unsigned-x.result + s.cast_unsigned-y.result) % 2 ^ 64 ≡ n
  bits = ap₂ (λ (p q : ℕ). (p + q) % 2 ^ 64) first second

  told : (t : Bool) → s.signs_apart.result ≡ t → signs_apart (of_z w64 a) (of_z w64 b) n ≡ t
  told t h = sym (λ i. signs_apart (first i) (second i) (bits i)) ∙ sym s.signs_apart.ensures ∙ h

pub returns-then-signs_apart : goal.returns-then-signs_apart
returns-then-signs_apart c = let s = c.before in add-over (a s) (b s) s.ranges.a s.ranges.b (told s true c.if-signs_apart.true)

pub returns-else-signs_apart : goal.returns-else-signs_apart
returns-else-signs_apart c = let s = c.before.before in add-fits (a s) (b s) s.ranges.a s.ranges.b c.cast_signed.result (c.cast_signed.ensures ∙ ap (to_z w64) (bits s)) (told s false c.if-signs_apart.false)
