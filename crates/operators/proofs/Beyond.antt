-- The last arm of a match on a number: it differs from the number of each arm. Of operators' numbers it is 0, or above the last's.
-- Assumes nothing.
use Rattle.std.specs.Prelude.{slice_get, None}
use mathlib.Core.Path.{◌≡◌, refl}
use mathlib.Core.List.{List, [], ◌∷◌}
use Prim.Native.Nat.{ℕ, zero, suc, ◌<◌, ◌≤◌}
use native.Mathlib.Omega.{arith}
use lib.ListN.{length}
use Rattle.paper.specs.Operators.{pair_op, pair_no, single_op, single_no}
use Rattle.paper.specs.declared.PairOp.TheVariants.{Or}
use Rattle.paper.specs.declared.SingleOp.TheVariants.{IsUnknown}

-- n is none of these, the last arm's number first
abbrev pub Differs : ℕ → List ℕ → Type 0
Differs n [] = Unit {0}
Differs n (k ∷ ks) = Differs n ks × (n ≡ k → ⊥)

abbrev countdown : ℕ → List ℕ
countdown zero = []
countdown (suc k) = suc k ∷ countdown k

above : (n k : ℕ) → 0 < n → Differs n (countdown k) → k < n
above n zero l d = l
above n (suc k) l d = let h : k < n = above n k l d.0 in let e : n ≡ suc k → ⊥ = d.1 in omega (arith, e)

beyond : {A : Type 0} (l : List A) (n : ℕ) → length l ≤ n → slice_get l n ≡ None
beyond [] n h = refl
beyond (a ∷ l) zero h = absurd (omega arith)
beyond (a ∷ l) (suc n) h = beyond l n (omega arith)

pub no-pair : (n : ℕ) → Differs n (countdown (pair_no Or)) → None ≡ pair_op n
no-pair zero d = refl
no-pair (suc n) d = let l : pair_no Or ≤ n = omega (arith, above (suc n) (pair_no Or) (omega arith) d) in rw (beyond _ n l)

pub no-single : (n : ℕ) → Differs n (countdown (single_no IsUnknown)) → None ≡ single_op n
no-single zero d = refl
no-single (suc n) d = let l : single_no IsUnknown ≤ n = omega (arith, above (suc n) (single_no IsUnknown) (omega arith) d) in rw (beyond _ n l)
