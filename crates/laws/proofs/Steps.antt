-- Cells keep their type through every step: where the operands' cells are of their types, and the types passed test 7, each cell of
-- the result is of the result's type, which is a type.
use Rattle.std.specs.Prelude.{ℕ, ◌-◌, ◌^◌, ◌<◌, ◌≡◌, refl, true, List, eqb, get_or, Option, None, Some, Ok}
use Rattle.std.specs.Option.{unwrap_or}
use Rattle.std.proofs.Common.{subst}
use Rattle.paper.specs.Numbers.{position_at}
use Rattle.paper.specs.Axes.{Array, inside, at, without}
use Rattle.paper.specs.Cells.{is_type, filled}
use Rattle.paper.specs.Recipe.{Step, scalar_of, uses, types_fit, result_type}
use Rattle.paper.specs.Values.{from_a, from_b, nowhere, overlaid, in_first, whence, taken, made, scalar, cell_at}
use Rattle.paper.specs.declared.Cell.{Cell}
use Rattle.paper.specs.declared.Cell.TheVariants.{Empty}
use Rattle.paper.specs.declared.Operation.{Operation}
use Rattle.paper.specs.declared.Operation.TheVariants.{Moves, Works}
use Rattle.paper.specs.declared.Move.{Move}
use Rattle.paper.specs.declared.Move.TheVariants.{Trim, Slice, Reshape, Shift, Rename, Update, Put, Glue}
use Rattle.paper.specs.declared.Hand.TheVariants.{Right, Left}
use Rattle.paper.specs.declared.Work.{Work}
use Rattle.paper.specs.declared.Work.TheVariants.{Pair, Scalar, Single}
use Rattle.laws.specs.Cells.{OfKind, filled-kind}
use Rattle.laws.specs.Kinds.{nothing}
use Rattle.laws.proofs.OfKinds.{pair-kind, single-kind}
use Rattle.laws.specs.Steps.{Kept, at-kept, is_one, either, first, second}

-- the scalar, or nothing
scalar-kept : (s : Step) (A : Array) → is_type A.shape.type ≡ true → scalar_of s < 2 ^ 64 → OfKind A.shape.type (scalar s A)
scalar-kept s A t h = by (filled A.shape.type (scalar_of s)) refl
  where
    by : (o : Option Cell) → filled A.shape.type (scalar_of s) ≡ o → OfKind A.shape.type (unwrap_or o Empty)
    by None e = nothing A.shape.type
    by (Some c) e = filled-kind A.shape.type (scalar_of s) c t h e

-- where cells are moved, by the operation
moved-kept : (s : Step) (A B : Array) (p : List ℕ) → Kept A → Kept B → (m : Move) → types_fit (Moves m) s A.shape.type B.shape.type ≡ true
    → OfKind A.shape.type (taken A B (whence m s A.shape.axes B.shape.axes p))
unfolding types_fit uses whence taken
moved-kept s A B p k l Trim f = first s A B p k l p
moved-kept s A B p k l Slice f = first s A B p k l _
moved-kept s A B p k l Reshape f = either s A B p k l (inside A.shape.axes p) (from_a p) nowhere (first s A B p k l p) (nothing A.shape.type)
moved-kept s A B p k l Shift f = first s A B p k l _
moved-kept s A B p k l Rename f = first s A B p k l p
moved-kept s A B p k l Update f = either s A B p k l (inside B.shape.axes p) (from_b p) (from_a p) (second s A B p k l f p) (first s A B p k l p)
moved-kept s A B p k l Put f =
    either s A B p k l (eqb (get_or p (s.axis - 1) 0) (position_at 0 s.detail)) (overlaid B.shape.axes (without s.axis p) p) (from_a p)
    (either s A B p k l (inside B.shape.axes (without s.axis p)) (from_b _) (from_a p) (second s A B p k l f _) (first s A B p k l p)) (first s A B p k l p)
moved-kept s A B p k l Glue f = either s A B p k l (in_first s.axis A.shape.axes p) (from_a p) (from_b _) (first s A B p k l p) (second s A B p k l f _)

-- where they are worked out
made_kept : (w : Work) (t : ℕ) (a b x c : Cell) → OfKind t a → OfKind t x → made w a b x ≡ Ok c → OfKind (result_type (Works w) t) c
unfolding made result_type
made_kept (Pair o) t a b x c k l e = pair-kind o t a b c k e
made_kept (Scalar Right o) t a b x c k l e = pair-kind o t a x c k e
made_kept (Scalar Left o) t a b x c k l e = pair-kind o t x a c l e
made_kept (Single o) t a b x c k l e = single-kind o t a c k e

-- each cell of a step's result is of the result's type
pub cell-kept : (op : Operation) (s : Step) (A B : Array) (p : List ℕ) (c : Cell) → is_type A.shape.type ≡ true → Kept A → Kept B
    → types_fit op s A.shape.type B.shape.type ≡ true → scalar_of s < 2 ^ 64 → cell_at op s A B p ≡ Ok c → OfKind (result_type op A.shape.type) c
unfolding cell_at result_type
cell-kept (Moves m) s A B p c t k l f h e = subst (OfKind A.shape.type) (is_one _ c e) (moved-kept s A B p k l m f)
cell-kept (Works w) s A B p c t k l f h e = made_kept w A.shape.type (at A p) (at B p) (scalar s A) c (at-kept A p k) (scalar-kept s A t h) e
