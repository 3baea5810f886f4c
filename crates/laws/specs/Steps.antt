-- Cells keep their type through every step: where the operands' cells are of their types, and the types passed test 7, each cell of
-- the result is of the result's type, which is a type.
use Rattle.std.specs.Prelude.{ℕ, ◌-◌, ◌≡◌, refl, Bool, true, false, List, eqb, leb, get_or, if◌then◌else◌, Ok}
use Rattle.std.proofs.Common.{sym, subst, eqb-true}
use Rattle.paper.specs.Limits.{BOOLEAN}
use Rattle.paper.specs.Axes.{Array, inside, ordinality, at}
use Rattle.paper.specs.Cells.{is_type}
use Rattle.paper.specs.Operators.{Answer, pair_no, single_no, gives, gives_one}
use Rattle.paper.specs.Recipe.{Step, result_type}
use Rattle.paper.specs.Values.{Whence, taken}
use Rattle.paper.specs.declared.Cell.{Cell}
use Rattle.paper.specs.declared.Cell.TheVariants.{Empty}
use Rattle.paper.specs.declared.Operation.{Operation}
use Rattle.paper.specs.declared.Operation.TheVariants.{Moves, Works}
use Rattle.paper.specs.declared.Work.TheVariants.{Pair, Scalar, Single}
use Rattle.paper.specs.declared.PairOp.{PairOp}
use Rattle.paper.specs.declared.PairOp.TheVariants.{Mod}
use Rattle.paper.specs.declared.SingleOp.{SingleOp}
use Rattle.paper.specs.declared.SingleOp.TheVariants.{Absolute}
use Rattle.laws.specs.Cells.{OfKind}
use Rattle.laws.specs.Kinds.{nothing}

-- every cell of the array is of its type (past the end there is Empty, which is of every type)
abbrev pub Kept : Array → Type 0
Kept A = (i : ℕ) → OfKind A.shape.type (get_or A.cells i Empty)

-- ---- one cell

one_of : (t : ℕ) (b : Bool) (x y : Cell) → OfKind t x → OfKind t y → OfKind t (if b then x else y)
one_of t true x y p q = p
one_of t false x y p q = q

-- at a coordinate, inside or not
pub at-kept : (A : Array) (p : List ℕ) → Kept A → OfKind A.shape.type (at A p)
unfolding at
at-kept A p k = one_of A.shape.type (inside A.shape.axes p) _ Empty (k (ordinality A.shape.axes p - 1)) (nothing A.shape.type)

-- ---- a step's cell

pub is_one : (c d : Cell) → ◌≡◌ {A = Answer} (Ok c) (Ok d) → c ≡ d
is_one c d e = cc

-- where cells are moved: A's, B's, which has A's type, or an empty one
module _ (s : Step) (A B : Array) (p : List ℕ) (k : Kept A) (l : Kept B) where
  abbrev kind : ℕ
  kind = A.shape.type

  pub either : (b : Bool) (v w : Whence) → OfKind kind (taken A B v) → OfKind kind (taken A B w) → OfKind kind (taken A B (if b then v else w))
  either true v w x y = x
  either false v w x y = y

  pub first : (q : List ℕ) → OfKind kind (at A q)
  first q = at-kept A q k

  pub second : eqb kind B.shape.type ≡ true → (q : List ℕ) → OfKind kind (at B q)
  second e q = subst (λ (u : ℕ). OfKind u (at B q)) (sym (eqb-true kind B.shape.type e)) (at-kept B q l)

-- ---- the result's type

typed : (b : Bool) (t : ℕ) → is_type t ≡ true → is_type (if b then t else BOOLEAN) ≡ true
typed true t h = h
typed false t h = refl

pair-type : (o : PairOp) (t : ℕ) → is_type t ≡ true → is_type (gives o t) ≡ true
unfolding gives
pair-type o t h = typed (leb (pair_no o) (pair_no Mod)) t h

single-type : (o : SingleOp) (t : ℕ) → is_type t ≡ true → is_type (gives_one o t) ≡ true
unfolding gives_one
single-type o t h = typed (leb (single_no o) (single_no Absolute)) t h

-- the result's type is a type
pub result-type : (op : Operation) (t : ℕ) → is_type t ≡ true → is_type (result_type op t) ≡ true
unfolding result_type
result-type (Moves m) t h = h
result-type (Works (Pair o)) t h = pair-type o t h
result-type (Works (Scalar d o)) t h = pair-type o t h
result-type (Works (Single o)) t h = single-type o t h
