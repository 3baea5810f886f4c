-- `json_read::scan::scan` meets its contract: each turn of the loop leaves what the text comes to.
use Rattle.std.proofs.Common.{◌∙◌, subst, sym, arith, refl}
use borrow.Author.Tests.{not-true, not-false}
use Rattle.paper.specs.Answers.{axes_of}
use Rattle.json_read.specs.declared.fit.Fit.{Fit}
use Rattle.json_read.specs.Scan.{Along, at_start, along-start, turn_stopped, turn-unsound, turn-again, end-open, end-closed, not-json}
use Rattle.json_read.proofs.scan.scan.Goals as goal

pub fit_first-fit-requires : goal.fit_first-fit-requires
fit_first-fit-requires c = tt

pub loop-at-init : goal.loop-at-init
loop-at-init c = subst (λ (f : Fit). Along c.args.kind (axes_of c.args.e) c.args.s.now at_start f c.blanks_end-at.result c.args.out.now) (sym c.fit_first-fit.ensures) (along-start c.args.kind (axes_of c.args.e) c.args.s.now _ c.args.out.now c.requires c.blanks_end-at.ensures)

pub bounds-s-at : goal.bounds-s-at
bounds-s-at c = c.loop-at-test.true

pub byte_turn-turn-requires : goal.byte_turn-turn-requires
byte_turn-turn-requires c = (c.loop-at.invariant.standing, c.loop-at.invariant.other c.loop-at-test.true)

pub token_met-fit-requires : goal.token_met-fit-requires
token_met-fit-requires c = (c.loop-at-test.true, c.loop-at.invariant.ready)

pub overflow_add-at : goal.overflow_add-at
overflow_add-at c = omega (arith, c.loop-at-test.true, c.well_formed)

pub begun_end-requires : goal.begun_end-requires
begun_end-requires c = omega (arith, c.loop-at-test.true)

pub is_ended-requires : goal.is_ended-requires
is_ended-requires c = tt

pub overflow_add-result : goal.overflow_add-result
overflow_add-result c = omega (arith, c.in-Err.ensures.within, c.well_formed)

pub shape_of-out-then-not-is_ended : goal.shape_of-out-then-not-is_ended
shape_of-out-then-not-is_ended c = c.loop-at.invariant.ready.all_room ∙ sym c.requires.all_room

pub returns-then-not-is_ended : goal.returns-then-not-is_ended
returns-then-not-is_ended c = not-json c.args.kind (axes_of c.args.e) c.args.s.now _ _ (end-open c.args.kind (axes_of c.args.e) c.args.s.now c.loop-at.v c.loop-at.fit c.loop-at.at c.loop-at.out c.loop-at.invariant c.loop-at-test.false (sym c.is_ended.ensures ∙ not-true _ c.if-not-is_ended.true-raw))

pub overflow_add-at-2 : goal.overflow_add-at-2
overflow_add-at-2 c = omega (arith, c.loop-at.invariant.within_text, c.well_formed)

pub end_found-requires : goal.end_found-requires
end_found-requires c = tt

pub shape_of-out : goal.shape_of-out
shape_of-out c = c.loop-at.invariant.ready.all_room ∙ sym c.requires.all_room

pub returns : goal.returns
returns c = end-closed c.args.kind (axes_of c.args.e) c.args.s.now c.loop-at.v c.loop-at.fit c.loop-at.at c.loop-at.out c.loop-at.invariant c.loop-at-test.false (sym c.is_ended.ensures ∙ not-false _ c.if-not-is_ended.false-raw) _ c.end_found.ensures

pub returns-in-Some : goal.returns-in-Some
returns-in-Some c =
    not-json c.args.kind (axes_of c.args.e) c.args.s.now _ _
    (turn_stopped c.args.kind (axes_of c.args.e) c.args.s.now c.loop-at.v c.loop-at.fit c.loop-at.at c.loop-at.out c.loop-at.invariant
    c.loop-at-test.true _ c.byte_turn-turn.ensures _ _ c.token_met-fit.ensures _ (sym c.in-Some.ensures))

pub returns-in-Err : goal.returns-in-Err
returns-in-Err c =
    not-json c.args.kind (axes_of c.args.e) c.args.s.now _ _
    (turn-unsound c.args.kind (axes_of c.args.e) c.args.s.now c.loop-at.v c.loop-at.fit c.loop-at.at c.loop-at.out c.loop-at.invariant
    c.loop-at-test.true _ c.byte_turn-turn.ensures _ _ c.token_met-fit.ensures (sym c.in_default.ensures) _ c.in-Err.ensures _ refl)

pub loop-at-preserved : goal.loop-at-preserved
loop-at-preserved c =
    turn-again c.args.kind (axes_of c.args.e) c.args.s.now c.loop-at.v c.loop-at.fit c.loop-at.at c.loop-at.out c.loop-at.invariant
    c.loop-at-test.true _ c.byte_turn-turn.ensures _ _ c.token_met-fit.ensures (sym c.in_default.ensures) _ c.in-Ok.ensures _ refl _
    c.blanks_end-at-in-Ok.ensures
