-- `cell::ints::int_sub` meets its contract: whether the difference that wraps fits is told by the signs (Wrap.antt). Assumes nothing.
use Rattle.std.proofs.Common.{◌≡◌, ℕ, ◌+◌, ◌%◌, ◌^◌, ◌<◌, Bool, true, false, ℤ, ◌-◌, arith, sym, ap, ◌∙◌, ap₂, to_z-of_z, w64, of_z}
use Rattle.cell.specs.Signs.{signs_apart}
use Rattle.cell.proofs.Wrap.{sub-fits, sub-over}
use Rattle.cell.proofs.ints.int_sub.Goals as goal
use Rattle.cell.proofs.ints.int_sub.Goals.{After-signs_apart}

module _ (s : After-signs_apart) where
  abbrev a : ℤ
  a = s.args.a

  abbrev b : ℤ
  b = s.args.b

  first : s.cast_unsigned-x.result ≡ of_z w64 a
  first = s.cast_unsigned-x.ensures ∙ ap (of_z w64) (to_z-of_z s.ranges.a)

  second : s.cast_unsigned-y.result ≡ of_z w64 b
  second = s.cast_unsigned-y.ensures ∙ ap (of_z w64) (to_z-of_z s.ranges.b)

  abbrev n : ℕ
  n = (s.cast_unsigned-x.result + (2 ^ 64 - s.cast_unsigned-y.result)) % 2 ^ 64

  bits : (n + of_z w64 b) % 2 ^ 64 ≡ of_z w64 a
  bits = omega (arith, first, second)

  small : n < 2 ^ 64
  small = omega arith

  told : (t : Bool) → s.signs_apart.result ≡ t → signs_apart (of_z w64 b) n (of_z w64 a) ≡ t
  told t h = sym (ap₂ (λ (p q : ℕ). signs_apart p n q) second first) ∙ sym s.signs_apart.ensures ∙ h

pub returns-then-signs_apart : goal.returns-then-signs_apart
returns-then-signs_apart c = let s = c.before in sub-over (a s) (b s) s.ranges.a s.ranges.b (n s) (small s) (bits s) (told s true c.if-signs_apart.true)

pub returns-else-signs_apart : goal.returns-else-signs_apart
returns-else-signs_apart c = let s = c.before.before in sub-fits (a s) (b s) s.ranges.a s.ranges.b (n s) (small s) (bits s) c.cast_signed.result c.cast_signed.ensures (told s false c.if-signs_apart.false)
