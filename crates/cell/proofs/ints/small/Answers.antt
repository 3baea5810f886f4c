-- `cell::ints::small` meets its contract: the two tests, by the number's parts. Assumes nothing.
use Rattle.std.proofs.Common.{◌≡◌, suc, ◌^◌, true, false, ◌&&◌, T, ltb, leb, ℤ, pos, negsuc, sym, subst, arith, to_z-of_z, ltb-false, ltb-true, le-leb}
use borrow.Author.Tests.{lt-leb}
use lib.Signed.{lt_z, le_z}
use Rattle.laws.specs.Parts.{up, dn, leb-iff}
use Rattle.cell.proofs.ints.small.Goals as goal

-- below the 32 bits, or not
below : (a : ℤ) → lt_z a (negsuc 2147483647) ≡ true → false ≡ (leb (dn a) (2 ^ 31) && ltb (up a) (2 ^ 31))
below (pos n) e = absurd (subst T (sym e) tt)
below (negsuc n) e = simp (lt-leb (dn (negsuc n)) (2 ^ 31) (omega (arith, ltb-true 2147483647 n e)))

above : (a : ℤ) → lt_z a (negsuc 2147483647) ≡ false → le_z a (pos 2147483647) ≡ (leb (dn a) (2 ^ 31) && ltb (up a) (2 ^ 31))
above (pos n) e = leb-iff n 2147483647 (suc n) (2 ^ 31) (λ h. omega arith) (λ h. omega arith)
above (negsuc n) e = simp (le-leb (dn (negsuc n)) (2 ^ 31) (omega (arith, ltb-false 2147483647 n e)))

pub returns-then-a-ltminus2147483648 : goal.returns-then-a-ltminus2147483648
returns-then-a-ltminus2147483648 c = below c.args.a (simp (to_z-of_z c.ranges.a) at c.if-a-ltminus2147483648.true)

pub returns : goal.returns
returns c = simp (to_z-of_z c.ranges.a) (above c.args.a (simp (to_z-of_z c.ranges.a) at c.if-a-ltminus2147483648.false))
