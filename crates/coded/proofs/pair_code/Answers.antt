-- `coded::pair_code` meets its contract: by the cases of pair_code_of. Assumes nothing.
use Rattle.std.proofs.Common.{ℕ, ◌+◌, ◌-◌, ◌*◌, true, ◌≡◌, sym, ap, ◌∙◌, arith}
use Rattle.coded.proofs.Codes.{type-none, type-over, type-is, no-pair, pair_is, few-pairs}
use Rattle.paper.specs.Cells.{is_type}
use Rattle.paper.specs.Operators.{takes}
use Rattle.coded.proofs.pair_code.Goals as goal

pub returns-then-kind-eq0 : goal.returns-then-kind-eq0
returns-then-kind-eq0 c = no-pair c.args.kind c.args.op (simp (type-none c.args.kind c.if-kind-eq0.true))

pub returns-then-kind-gt-BOOLEAN : goal.returns-then-kind-gt-BOOLEAN
returns-then-kind-gt-BOOLEAN c = no-pair c.args.kind c.args.op (simp (type-over c.args.kind c.if-kind-gt-BOOLEAN.true))

pub overflow_add-result : goal.overflow_add-result
overflow_add-result c = omega (arith, c.pair_number.ensures, few-pairs c.args.op, c.if-kind-gt-BOOLEAN.false)

pub returns-then-takes_pair : goal.returns-then-takes_pair
returns-then-takes_pair c =
    let s = c.args in
    let k : is_type s.kind ≡ true = type-is s.kind c.if-kind-eq0.false c.if-kind-gt-BOOLEAN.false in
    let t : takes s.op s.kind ≡ true = sym c.takes_pair.ensures ∙ c.if-takes_pair.true in
    ap (λ (n : ℕ). (s.kind - 1) * 16 + n) c.pair_number.ensures ∙ sym (pair_is s.kind k s.op t)

pub returns-else-takes_pair : goal.returns-else-takes_pair
returns-else-takes_pair c =
    let s = c.args in
    let k : is_type s.kind ≡ true = type-is s.kind c.if-kind-eq0.false c.if-kind-gt-BOOLEAN.false in
    no-pair s.kind s.op (simp (k, sym c.takes_pair.ensures ∙ c.if-takes_pair.false))
