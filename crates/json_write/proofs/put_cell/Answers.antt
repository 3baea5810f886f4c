-- `json_write::put_cell` meets its contract, case by case: the cell's text is what the case says, so it fits, and is stored once it is
-- written.
use Rattle.std.proofs.Common.{◌≡◌, refl, ap, ◌∙◌, arith, length, w64, SFits, to_z, of_z, to_z-of_z, rules}
use borrow.Author.Rules.{sfits_of}
use Rattle.paper.specs.declared.Cell.{Cell}
use Rattle.paper.specs.declared.Cell.TheVariants.{Int, Truth}
use Rattle.paper.specs.Json.{cell_text}
use Rattle.json_write.specs.Stores.{wrote-stored}
use Rattle.json_write.proofs.put_cell.Goals as goal
use Rattle.json_write.proofs.put_cell.Goals.{In-Int}

long : {x y : Cell} → x ≡ y → length (cell_text x) ≡ length (cell_text y)
long e = rw e

-- an INT: the number that is passed on is the cell's
int : (c : In-Int) → c.args.c ≡ Int (to_z w64 (of_z w64 c.in-Int.z))
int c = let fx : SFits w64 c.in-Int.z = sfits_of (search rules) in c.in-Int.is ∙ rw (to_z-of_z fx)

pub put_text-requires : goal.put_text-requires
unfolding cell_text
put_text-requires c = omega (arith, long c.in-Empty.is)

pub put_int-requires : goal.put_int-requires
unfolding cell_text
put_int-requires c = omega (arith, long (int (goal.at.put_int-requires c).In-Int))

pub put_text-requires-then-b : goal.put_text-requires-then-b
unfolding cell_text
put_text-requires-then-b c = omega (arith, long (c.in-Truth.is ∙ ap Truth c.if-b.true))

pub put_text-requires-in-Truth : goal.put_text-requires-in-Truth
unfolding cell_text
put_text-requires-in-Truth c = omega (arith, long (c.in-Truth.is ∙ ap Truth c.if-b.false))

pub returns-in-Empty : goal.returns-in-Empty
unfolding cell_text
returns-in-Empty c = rw c.in-Empty.is (wrote-stored _ _ _ (omega (arith, long c.in-Empty.is)) c.put_text.ensures)

pub returns-in-Int : goal.returns-in-Int
unfolding cell_text
returns-in-Int c =
    let e = int (goal.at.returns-in-Int c).In-Int in
    rw e (wrote-stored _ _ _ (omega (arith, long e)) c.put_int.ensures)

pub returns-in-Float : goal.returns-in-Float
unfolding cell_text
returns-in-Float c = rw c.in-Float.is (omega arith, refl)

pub returns-then-b : goal.returns-then-b
unfolding cell_text
returns-then-b c =
    let e = c.in-Truth.is ∙ ap Truth c.if-b.true in
    rw e (wrote-stored _ _ _ (omega (arith, long e)) c.put_text-then-b.ensures)

pub returns-in-Truth : goal.returns-in-Truth
unfolding cell_text
returns-in-Truth c =
    let e = c.in-Truth.is ∙ ap Truth c.if-b.false in
    rw e (wrote-stored _ _ _ (omega (arith, long e)) c.put_text-in-Truth.ensures)
