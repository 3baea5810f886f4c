-- What an operator gives is a cell of its result's type: a number that fits, a finite FLOAT, a truth value, or nothing. So it can be
-- written, and read back as the same cell.
use Rattle.std.specs.Prelude.{ℕ, ◌≡◌, true, false, not, ◌&&◌, ◌||◌, pos, neg_ℤ, nat_abs, ◌+ℤ◌, ◌-ℤ◌, ◌*ℤ◌, Ok}
use Rattle.std.proofs.Common.{subst}
use Rattle.std.specs.Bool.{beq}
use Rattle.std.specs.Int.Signed.{lt_z, le_z, quot_z, rem_z}
use Rattle.std.specs.Float.Ieee as Ieee
use Rattle.std.specs.Float.{binary64, fin}
use Rattle.std.specs.Float.Ieee.Fits.{neg-fits, add-fits, sub-fits, mul-fits, div-fits}
use Rattle.paper.specs.Limits.{FLOAT}
use Rattle.paper.specs.Cells.{is_true, is_false}
use Rattle.paper.specs.Operators.{two, and_cell, or_cell, not_cell, applied, pair_cell, gives, gives_one, fit_float, int_by, float_div, eq_z, abs_float, single_cell}
use Rattle.paper.specs.declared.Cell.{Cell}
use Rattle.paper.specs.declared.Cell.TheVariants.{Empty}
use Rattle.paper.specs.declared.PairOp.{PairOp}
use Rattle.paper.specs.declared.PairOp.TheVariants.{Add, Sub, Mul, Div, Mod, Eq, Ne, Lt, Le, Gt, Ge, And, Or}
use Rattle.paper.specs.declared.SingleOp.{SingleOp}
use Rattle.paper.specs.declared.SingleOp.TheVariants.{Negate, Absolute, Not, IsEmpty, IsTrue, IsFalse, IsUnknown}
use Rattle.laws.specs.Cells.{OfKind}
use Rattle.laws.specs.Kinds.{Fine, by, fine-int, fine-float, fine-by, nothing, truth, fine-worked, fine-compared, one_of, neg-finite, abs-finite, abs-fits, fine-signed}

fine-over : (x y : Ieee.Float) → Fine FLOAT (float_div x y)
unfolding float_div
fine-over x y =
    by FLOAT (Ieee.eq y (fin false 0 (pos 0))) _ (fit_float (Ieee.div binary64 x y)) (λ e. tt) (fine-float (Ieee.div binary64 x y) (div-fits binary64 x y))

fine-pair : (op : PairOp) (kind : ℕ) (a b : Cell) → OfKind kind a → Fine (gives op kind) (pair_cell op a b)
unfolding applied gives and_cell or_cell
fine-pair Add kind a b h = fine-worked _ _ (λ x y. fine-int (x +ℤ y)) (λ x y. fine-float (Ieee.add binary64 x y) (add-fits binary64 x y)) kind a b h
fine-pair Sub kind a b h = fine-worked _ _ (λ x y. fine-int (x -ℤ y)) (λ x y. fine-float (Ieee.sub binary64 x y) (sub-fits binary64 x y)) kind a b h
fine-pair Mul kind a b h = fine-worked _ _ (λ x y. fine-int (x *ℤ y)) (λ x y. fine-float (Ieee.mul binary64 x y) (mul-fits binary64 x y)) kind a b h
fine-pair Div kind a b h = fine-worked (int_by quot_z) float_div (fine-by quot_z) fine-over kind a b h
fine-pair Mod kind a b h = fine-worked (int_by rem_z) (λ x y. Ok Empty) (fine-by rem_z) (λ x y. nothing FLOAT) kind a b h
fine-pair Eq kind a b h = fine-compared eq_z Ieee.eq beq (two a b)
fine-pair Ne kind a b h = fine-compared (λ x y. not (eq_z x y)) Ieee.ne (λ x y. not (beq x y)) (two a b)
fine-pair Lt kind a b h = fine-compared lt_z Ieee.lt (λ x y. false) (two a b)
fine-pair Le kind a b h = fine-compared le_z Ieee.le (λ x y. false) (two a b)
fine-pair Gt kind a b h = fine-compared (λ x y. lt_z y x) (λ x y. Ieee.lt y x) (λ x y. false) (two a b)
fine-pair Ge kind a b h = fine-compared (λ x y. le_z y x) (λ x y. Ieee.le y x) (λ x y. false) (two a b)
fine-pair And kind a b h = one_of (is_false a || is_false b) (is_true a && is_true b) false true
fine-pair Or kind a b h = one_of (is_true a || is_true b) (is_false a && is_false b) true false

fine-single : (op : SingleOp) (kind : ℕ) (c : Cell) → OfKind kind c → Fine (gives_one op kind) (single_cell op c)
unfolding single_cell gives_one not_cell
fine-single Negate kind c h = fine-signed neg_ℤ Ieee.neg neg-finite (neg-fits binary64) kind c h
fine-single Absolute kind c h = fine-signed (λ x. pos (nat_abs x)) abs_float abs-finite abs-fits kind c h
fine-single Not kind c h = one_of (is_true c) (is_false c) false true
fine-single IsEmpty kind c h = truth _
fine-single IsTrue kind c h = truth _
fine-single IsFalse kind c h = truth _
fine-single IsUnknown kind c h = truth _

pub pair-kind : (o : PairOp) (t : ℕ) (a b c : Cell) → OfKind t a → pair_cell o a b ≡ Ok c → OfKind (gives o t) c
pair-kind o t a b c h e = subst (Fine (gives o t)) e (fine-pair o t a b h)

pub single-kind : (o : SingleOp) (t : ℕ) (a c : Cell) → OfKind t a → single_cell o a ≡ Ok c → OfKind (gives_one o t) c
single-kind o t a c h e = subst (Fine (gives_one o t)) e (fine-single o t a h)
