-- `decimal::smallest` meets its contract: an arm for each number of digits.
use Rattle.std.proofs.Common.{ℕ, zero, suc, ◌<◌, ◌≡◌, sym, ap, arith}
use Rattle.decimal.specs.Bits.{smallest}
use Rattle.decimal.proofs.smallest.Goals as goal

arm : {k i : ℕ} → k ≡ i → smallest i ≡ smallest k
arm e = ap smallest (sym e)

-- k is none of the first n numbers
abbrev None : ℕ → ℕ → Type 0
None zero k = Unit
None (suc n) k = None n k × (k ≡ n → ⊥)

never : (n k : ℕ) → k < n → None n k → ⊥
never zero k h v = omega arith
never (suc n) k h v = never n k (omega (arith, v.1)) v.0

pub returns-in-0 : goal.returns-in-0
returns-in-0 c = arm c.in-0.is

pub returns-in-1 : goal.returns-in-1
returns-in-1 c = arm c.in-1.is

pub returns-in-2 : goal.returns-in-2
returns-in-2 c = arm c.in-2.is

pub returns-in-3 : goal.returns-in-3
returns-in-3 c = arm c.in-3.is

pub returns-in-4 : goal.returns-in-4
returns-in-4 c = arm c.in-4.is

pub returns-in-5 : goal.returns-in-5
returns-in-5 c = arm c.in-5.is

pub returns-in-6 : goal.returns-in-6
returns-in-6 c = arm c.in-6.is

pub returns-in-7 : goal.returns-in-7
returns-in-7 c = arm c.in-7.is

pub returns-in-8 : goal.returns-in-8
returns-in-8 c = arm c.in-8.is

pub returns-in-9 : goal.returns-in-9
returns-in-9 c = arm c.in-9.is

pub returns-in-10 : goal.returns-in-10
returns-in-10 c = arm c.in-10.is

pub returns-in-11 : goal.returns-in-11
returns-in-11 c = arm c.in-11.is

pub returns-in-12 : goal.returns-in-12
returns-in-12 c = arm c.in-12.is

pub returns-in-13 : goal.returns-in-13
returns-in-13 c = arm c.in-13.is

pub returns-in-14 : goal.returns-in-14
returns-in-14 c = arm c.in-14.is

pub returns-in-15 : goal.returns-in-15
returns-in-15 c = arm c.in-15.is

pub returns-in-16 : goal.returns-in-16
returns-in-16 c = arm c.in-16.is

pub returns-in-17 : goal.returns-in-17
returns-in-17 c = arm c.in-17.is

pub returns-in-18 : goal.returns-in-18
returns-in-18 c = arm c.in-18.is

pub returns-in-19 : goal.returns-in-19
returns-in-19 c = arm c.in-19.is

pub returns-in_default : goal.returns-in_default
returns-in_default c = absurd (never 20 c.args.k c.requires c.in_default.in_default-own.rest)
