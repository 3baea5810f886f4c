-- `coded::single_code` meets its contract: by the cases of single_code_of. Assumes nothing.
use Rattle.std.proofs.Common.{ℕ, ◌+◌, ◌*◌, true, ◌≡◌, sym, ap, ◌∙◌, arith}
use Rattle.coded.proofs.Codes.{type-none, type-over, type-is, no-single, single-is, few-singles}
use Rattle.paper.specs.Cells.{is_type}
use Rattle.paper.specs.Operators.{takes_one}
use Rattle.coded.proofs.single_code.Goals as goal

pub returns-then-kind-eq0 : goal.returns-then-kind-eq0
returns-then-kind-eq0 c = no-single c.args.kind c.args.op (simp (type-none c.args.kind c.if-kind-eq0.true))

pub returns-then-kind-gt-BOOLEAN : goal.returns-then-kind-gt-BOOLEAN
returns-then-kind-gt-BOOLEAN c = no-single c.args.kind c.args.op (simp (type-over c.args.kind c.if-kind-gt-BOOLEAN.true))

pub overflow_mul-result : goal.overflow_mul-result
overflow_mul-result c = omega (arith, c.single_number.ensures, few-singles c.args.op, c.if-kind-gt-BOOLEAN.false)

pub overflow_add-result : goal.overflow_add-result
overflow_add-result c = omega (arith, c.single_number.ensures, few-singles c.args.op, c.if-kind-gt-BOOLEAN.false)

pub overflow_add-result-then-takes_single : goal.overflow_add-result-then-takes_single
overflow_add-result-then-takes_single c = omega (arith, c.single_number.ensures, few-singles c.args.op, c.if-kind-gt-BOOLEAN.false)

pub returns-then-takes_single : goal.returns-then-takes_single
returns-then-takes_single c =
    let s = c.args in
    let k : is_type s.kind ≡ true = type-is s.kind c.if-kind-eq0.false c.if-kind-gt-BOOLEAN.false in
    let t : takes_one s.op s.kind ≡ true = sym c.takes_single.ensures ∙ c.if-takes_single.true in
    ap (λ (n : ℕ). 48 + n * 4 + s.kind) c.single_number.ensures ∙ sym (single-is s.kind k s.op t)

pub returns-else-takes_single : goal.returns-else-takes_single
returns-else-takes_single c =
    let s = c.args in
    let k : is_type s.kind ≡ true = type-is s.kind c.if-kind-eq0.false c.if-kind-gt-BOOLEAN.false in
    no-single s.kind s.op (simp (k, sym c.takes_single.ensures ∙ c.if-takes_single.false))
