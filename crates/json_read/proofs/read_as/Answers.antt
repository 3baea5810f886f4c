-- `json_read::read_as` meets its contract: refused, or read and filled.
use Rattle.std.proofs.Common.{ℕ, ◌≡◌, sym, ◌∙◌, List, length, arith, Ok}
use Rattle.std.proofs.lemmas.Result.{err_from_is_err_and}
use lib.ListN.{length-replicate}
use Rattle.paper.specs.declared.Axis.{Axis}
use Rattle.paper.specs.declared.Name.{Name}
use Rattle.paper.specs.Limits.{sizes_of}
use Rattle.paper.specs.Answers.{axes_of, names_for}
use Rattle.json_read.specs.Read.{form_tests, form-refused, form-room, HasCells, has_cells, cells-said, short-said, fault-said}
use Rattle.json_read.proofs.read_as.Goals as goal
use Rattle.json_read.proofs.read_as.Goals.{In_ok-form_judged, In_ok-n}

pub returns-in_err-form_judged : goal.returns-in_err-form_judged
returns-in_err-form_judged c =
    let a = c.args in
    let p = err_from_is_err_and c.from_residual.result c.from_residual.ensures.1 in
    rw (p.1, p.2)
    (form-refused (sizes_of a.v) a.kind (names_for (axes_of a.extent) a.names) (axes_of a.extent) a.text.now a.cells.now (sym c.in_err-form_judged.ensures))

-- the form is good
module _ (c : In_ok-form_judged) where
  abbrev E : List Axis
  E = axes_of c.args.extent

  abbrev N : List Name
  N = names_for E c.args.names

  good : form_tests (sizes_of c.args.v) c.args.kind N E ≡ Ok tt
  good = sym c.in_ok-form_judged.ensures

pub scan-requires : goal.scan-requires
scan-requires c =
    let s = (goal.at.scan-requires c).In_ok-form_judged in
    form-room _ _ (N s) _ s.args.text.now s.args.cells.now (good s) _ (length-replicate {A = ℕ} 36864 0)

pub returns-in_err-n : goal.returns-in_err-n
returns-in_err-n c =
    let s = (goal.at.returns-in_err-n c).In_ok-form_judged in
    let p = err_from_is_err_and c.from_residual-in_err-n.result c.from_residual-in_err-n.ensures.1 in
    rw (p.1, p.2) (fault-said _ _ (N s) _ s.args.text.now s.args.cells.now (good s) _ _ c.in_err-n.ensures)

-- and the text
module _ (c : In_ok-n) where
  abbrev s : In_ok-form_judged
  s = (goal.at.In_ok-n c).In_ok-form_judged

  room : HasCells (length c.scan.new.out) c.in_ok-n.n
  room = has_cells _ _ (N s) _ (s).args.text.now (s).args.cells.now (good s) _ _ c.in_ok-n.ensures _ (c.scan.auto.out ∙ length-replicate {A = ℕ} 36864 0)

pub fill-requires : goal.fill-requires
fill-requires c = room (goal.at.fill-requires c).In_ok-n

pub returns-in_err-fill : goal.returns-in_err-fill
returns-in_err-fill c =
    let n = (goal.at.returns-in_err-fill c).In_ok-n in
    let a = (s n).args in
    let p = err_from_is_err_and c.from_residual-in_err-fill.result c.from_residual-in_err-fill.ensures.1 in
    rw (p.1, p.2) (short-said _ _ (N (s n)) _ a.text.now a.cells.now (good (s n)) _ _ n.in_ok-n.ensures _ c.in_err-fill.ensures)

pub overflow_cast-result : goal.overflow_cast-result
overflow_cast-result c = omega (arith, (room (goal.at.overflow_cast-result c).In_ok-n).few)

pub returns : goal.returns
returns c =
    let n = (goal.at.returns c).In_ok-n in
    let a = (s n).args in
    cells-said _ _ (N (s n)) _ a.text.now a.cells.now (good (s n)) _ _ n.in_ok-n.ensures _ c.in_ok-fill.ensures
