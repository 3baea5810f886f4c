-- The codes known are exactly those of a type with an operator that takes it; when there is one, and when there is none. A code says its
-- type and its operator again: so the match on a code is the operator. Assumes nothing.
use Rattle.std.specs.Prelude.{Some}
use Prim.Native.Nat.{ℕ, ◌≤◌, ◌<◌, zero, suc, ◌+◌, ◌-◌, ◌/◌, ◌%◌}
use mathlib.Core.Path.{◌≡◌, refl, ap, sym, ◌∙◌, subst}
use mathlib.Core.Bool.{true, false, ◌&&◌}
use native.Mathlib.Omega.{arith}
use lib.Dec.{ltb, T, leb}
use borrow.Author.Tests.{ltb-true, le-leb, lt-leb, leb-true}
use Rattle.paper.specs.Limits.{INT, FLOAT, BOOLEAN}
use Rattle.paper.specs.Cells.{is_type}
use Rattle.paper.specs.Operators.{pair_op, pair_no, single_op, single_no, takes, takes_one, pair_cell, single_cell}
use Rattle.paper.specs.declared.PairOp.{PairOp}
use Rattle.paper.specs.declared.PairOp.TheVariants.{Add, Sub, Mul, Div, Mod, Eq, Ne, Lt, Le, Gt, Ge, And, Or}
use Rattle.paper.specs.declared.SingleOp.{SingleOp}
use Rattle.paper.specs.declared.SingleOp.TheVariants.{Negate, Absolute, Not, IsEmpty, IsTrue, IsFalse, IsUnknown}
use Rattle.paper.specs.declared.Cell.{Cell}
use Rattle.coded.specs.Codes.{known, pair_code, single_code, pair_code_of, single_code_of, kind_of, code_cell, by_pair, by_single}
use Rattle.laws.specs.Tests.{and_left, and_right}

-- ---- the codes known are those of the types that the operator takes

abbrev pub Pair : PairOp → ℕ → Type 0
Pair op kind = known (pair_code kind (pair_no op)) ≡ takes op kind

pub known-pair : (op : PairOp) → (pair_op (pair_no op) ≡ Some op) × (ltb (pair_no op) 16 ≡ true) × Pair op INT × Pair op FLOAT × Pair op BOOLEAN
unfolding takes
known-pair Add = (refl, refl, refl, refl, refl)
known-pair Sub = (refl, refl, refl, refl, refl)
known-pair Mul = (refl, refl, refl, refl, refl)
known-pair Div = (refl, refl, refl, refl, refl)
known-pair Mod = (refl, refl, refl, refl, refl)
known-pair Eq = (refl, refl, refl, refl, refl)
known-pair Ne = (refl, refl, refl, refl, refl)
known-pair Lt = (refl, refl, refl, refl, refl)
known-pair Le = (refl, refl, refl, refl, refl)
known-pair Gt = (refl, refl, refl, refl, refl)
known-pair Ge = (refl, refl, refl, refl, refl)
known-pair And = (refl, refl, refl, refl, refl)
known-pair Or = (refl, refl, refl, refl, refl)

abbrev pub Single : SingleOp → ℕ → Type 0
Single op kind = known (single_code kind (single_no op)) ≡ takes_one op kind

pub known-single : (op : SingleOp) → (single_op (single_no op) ≡ Some op) × (ltb (single_no op) 16 ≡ true) × Single op INT × Single op FLOAT × Single op BOOLEAN
unfolding takes_one
known-single Negate = (refl, refl, refl, refl, refl)
known-single Absolute = (refl, refl, refl, refl, refl)
known-single Not = (refl, refl, refl, refl, refl)
known-single IsEmpty = (refl, refl, refl, refl, refl)
known-single IsTrue = (refl, refl, refl, refl, refl)
known-single IsFalse = (refl, refl, refl, refl, refl)
known-single IsUnknown = (refl, refl, refl, refl, refl)

-- an operator's number is below 16
pub few-pairs : (op : PairOp) → pair_no op < 16
few-pairs op = ltb-true (pair_no op) 16 (known-pair op).1

pub few-singles : (op : SingleOp) → single_no op < 16
few-singles op = ltb-true (single_no op) 16 (known-single op).1

-- ---- no code: the number is no type's, or the operator doesn't take the type

module _ (kind : ℕ) where
  pub type-none : kind ≡ 0 → is_type kind ≡ false
  type-none e = ap is_type e

  pub type-over : BOOLEAN < kind → is_type kind ≡ false
  type-over h = simp (le-leb INT kind (omega arith), lt-leb kind BOOLEAN h)

  pub type-is : (kind ≡ 0 → ⊥) → kind ≤ BOOLEAN → is_type kind ≡ true
  type-is n h = simp (le-leb INT kind (omega (arith, n)), le-leb kind BOOLEAN h)

  pub no-pair : (op : PairOp) → (is_type kind && takes op kind) ≡ false → 0 ≡ pair_code_of kind op
  unfolding pair_code_of
  no-pair op e = simp e

  pub no-single : (op : SingleOp) → (is_type kind && takes_one op kind) ≡ false → 0 ≡ single_code_of kind op
  unfolding single_code_of
  no-single op e = simp e

-- ---- the code of a type that the operator takes

module _ (kind : ℕ) (t : is_type kind ≡ true) where
  pub pair_is : (op : PairOp) → takes op kind ≡ true → pair_code_of kind op ≡ pair_code kind (pair_no op)
  unfolding pair_code_of
  pair_is op taken = simp (t, taken)

  pub single-is : (op : SingleOp) → takes_one op kind ≡ true → single_code_of kind op ≡ single_code kind (single_no op)
  unfolding single_code_of
  single-is op taken = simp (t, taken)

-- what holds of INT, FLOAT and BOOLEAN holds of every type
by-type : (P : ℕ → Type 0) → P INT → P FLOAT → P BOOLEAN → (kind : ℕ) → is_type kind ≡ true → P kind
by-type P p q r zero t = absurd (subst T (sym t) tt)
by-type P p q r (suc zero) t = p
by-type P p q r (suc (suc zero)) t = q
by-type P p q r (suc (suc (suc zero))) t = r
by-type P p q r (suc (suc (suc (suc n)))) t =
    absurd (omega (arith, leb-true (suc (suc (suc (suc n)))) BOOLEAN (and_right (leb INT (suc (suc (suc (suc n))))) (leb (suc (suc (suc (suc n)))) BOOLEAN) t)))

module _ (t : ℕ) where
  low : is_type t ≡ true → 1 ≤ t
  low i = leb-true INT t (and_left (leb INT t) (leb t BOOLEAN) i)

  high : is_type t ≡ true → t ≤ 3
  high i = leb-true t BOOLEAN (and_right (leb INT t) (leb t BOOLEAN) i)

-- ---- a pair operator's code

module _ (t : ℕ) (o : PairOp) (i : is_type t ≡ true) (taken : takes o t ≡ true) where
  pub pair-code-kind : kind_of (pair_code_of t o) ≡ t
  pair-code-kind =
      let n : ℕ = pair_no o in
      let e : pair_code t n / 16 + 1 ≡ t = omega (arith, few-pairs o, low t i, high t i) in
      let l : pair_code t n ≤ 47 = omega (arith, few-pairs o, low t i, high t i) in
      ap kind_of (pair_is t i o taken) ∙ simp (le-leb (pair_code t n) 47 l) e

  pub pair-code-cell : (a b : Cell) → code_cell (pair_code_of t o) a b ≡ pair_cell o a b
  unfolding code_cell
  pair-code-cell a b =
      let n : ℕ = pair_no o in
      let e : pair_code t n % 16 ≡ n = omega (arith, few-pairs o, low t i, high t i) in
      let l : pair_code t n ≤ 47 = omega (arith, few-pairs o, low t i, high t i) in
      let k : known (pair_code t n) ≡ true = by-type (Pair o) (known-pair o).2 (known-pair o).3 (known-pair o).4 t i ∙ taken in
      ap (λ (c : ℕ). code_cell c a b) (pair_is t i o taken)
      ∙ simp (k, le-leb (pair_code t n) 47 l, e) (ap (λ p. by_pair p a b) (known-pair o).0)

-- ---- a single operator's code

module _ (t : ℕ) (o : SingleOp) (i : is_type t ≡ true) (taken : takes_one o t ≡ true) where
  pub single-code-kind : kind_of (single_code_of t o) ≡ t
  single-code-kind =
      let n : ℕ = single_no o in
      let e : (single_code t n - 48) % 4 ≡ t = omega (arith, low t i, high t i) in
      let l : 47 < single_code t n = omega (arith, low t i, high t i) in
      ap kind_of (single-is t i o taken) ∙ simp (lt-leb (single_code t n) 47 l) e

  pub single-code-cell : (a b : Cell) → code_cell (single_code_of t o) a b ≡ single_cell o a
  unfolding code_cell
  single-code-cell a b =
      let n : ℕ = single_no o in
      let e : (single_code t n - 48) / 4 ≡ n = omega (arith, low t i, high t i) in
      let l : 47 < single_code t n = omega (arith, low t i, high t i) in
      let k : known (single_code t n) ≡ true = by-type (Single o) (known-single o).2 (known-single o).3 (known-single o).4 t i ∙ taken in
      ap (λ (c : ℕ). code_cell c a b) (single-is t i o taken)
      ∙ simp (k, lt-leb (single_code t n) 47 l, e) (ap (λ p. by_single p a) (known-single o).0)
