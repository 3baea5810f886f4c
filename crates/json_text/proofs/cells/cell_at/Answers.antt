-- `json_text::cells::cell_at` meets its contract: each way out is a case of `cell_in`.
use Rattle.std.proofs.Common.{◌≡◌, ℕ, false, List, drop, sym, ◌∙◌}
use Rattle.paper.specs.Numbers.{text}
use Rattle.paper.specs.JsonRead.{begins}
use Rattle.json_text.specs.Whole.{cell-null, cell-int, cell-true, cell-false, no_cell}
use Rattle.json_text.proofs.cells.cell_at.Goals as goal
use Rattle.json_text.proofs.cells.cell_at.Goals.{Else-begins_with, Else-begins_with-2}

-- no null
module _ (c : Else-begins_with) where
  abbrev t : ℕ
  t = c.args.kind

  abbrev bs : List ℕ
  bs = drop c.args.at c.args.s.now

  no-null : begins (text "null") bs ≡ false
  no-null = sym c.begins_with.ensures ∙ c.if-begins_with.false

-- and no `true` in another type than INT
no_truth : (c : Else-begins_with-2) → begins (text "true") (drop c.args.at c.args.s.now) ≡ false
no_truth c = sym c.begins_with-2.ensures ∙ c.if-begins_with-2.false

pub returns-then-begins_with : goal.returns-then-begins_with
returns-then-begins_with c =
    cell-null c.args.kind (drop c.args.at c.args.s.now) (sym c.begins_with.ensures ∙ c.if-begins_with.true)

pub returns-then-kind-eq1 : goal.returns-then-kind-eq1
returns-then-kind-eq1 c =
    let s = (goal.at.returns-then-kind-eq1 c).Else-begins_with in
    c.int_at.ensures ∙ cell-int (t s) (bs s) (no-null s) c.if-kind-eq1.true

pub returns-then-begins_with-2 : goal.returns-then-begins_with-2
returns-then-begins_with-2 c =
    let s = (goal.at.returns-then-begins_with-2 c).Else-begins_with in
    cell-true (t s) (bs s) (no-null s) c.if-kind-eq1.false (sym c.begins_with-2.ensures ∙ c.if-begins_with-2.true)

pub returns-then-begins_with-3 : goal.returns-then-begins_with-3
returns-then-begins_with-3 c =
    let s = (goal.at.returns-then-begins_with-3 c).Else-begins_with-2 in
    let e = (goal.at.returns-then-begins_with-3 c).Else-begins_with in
    cell-false (t e) (bs e) (no-null e) s.if-kind-eq1.false (no_truth s) (sym c.begins_with-3.ensures ∙ c.if-begins_with-3.true)

pub returns : goal.returns
returns c =
    let s = (goal.at.returns c).Else-begins_with-2 in
    let e = (goal.at.returns c).Else-begins_with in
    no_cell (t e) (bs e) (no-null e) s.if-kind-eq1.false (no_truth s) (sym c.begins_with-3.ensures ∙ c.if-begins_with-3.false)
