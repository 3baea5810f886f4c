-- `bundle::read` meets its contract: each way out by the law of its test.
use Rattle.std.proofs.Common.{ℕ, ◌+◌, ◌<◌, ◌≤◌, List, ◌≡◌, ap, sym, arith, length, drop}
use Rattle.std.proofs.lemmas.Result.{err_from_is_err_and}
use Rattle.std.specs.Prelude.{Err}
use Rattle.paper.specs.declared.Version.{Version}
use Rattle.paper.specs.declared.Sizes.{Sizes}
use Rattle.paper.specs.declared.Form.{Form}
use Rattle.paper.specs.declared.Refusal.{Refusal}
use Rattle.paper.specs.Limits.{sizes_of}
use Rattle.paper.specs.Bundle.{version_in, read_array, read_bundle}
use Rattle.bundle.specs.Read.{Begun, Fit, cells_at, head_at, FormAt}
use Rattle.bundle.specs.Arrays.{array-refused, array-read}
use Rattle.bundle.specs.Whole.{loop-start, loop-more, loop-refused}
use Rattle.bundle.specs.Whole.{all-refused, bundle-bad, bundle-refused, bundle-left, bundle-read}
use Rattle.bundle.proofs.read.Goals as goal
use Rattle.bundle.proofs.read.Goals.{In-Some, In-Some-form_at, In_ok-cells, At-loop-i}

pub returns-in_default : goal.returns-in_default
returns-in_default c = rw c.refuse.ensures (all-refused (bundle-bad _ c.version_in-version.ensures c.in_default.ensures))

pub loop-i-init : goal.loop-i-init
loop-i-init c = let o = c.in-Some.ensures in rw c.no_heads-heads.ensures (loop-start _ _ _ o.few o.long)

-- an array of the bundle is refused
module _ (c : At-loop-i) where
  refuses : {x : Refusal} → Err x ≡ read_array (sizes_of c.version_in-version.result) (c.loop-i.i + 1) (drop c.loop-i.next c.args.s.now)
      → c.loop-i.i < c.in-Some.count → Err x ≡ read_bundle c.args.s.now
  refuses e h = bundle-refused _ c.version_in-version.ensures c.in-Some.ensures (loop-refused c.loop-i.invariant h e)

pub returns-in_default-form_at : goal.returns-in_default-form_at
returns-in_default-form_at c =
    let l = (goal.at.returns-in_default-form_at c).At-loop-i in
    rw c.refuse-in_default-form_at.ensures
    (all-refused (refuses l (c.in_default-form_at.ensures (l.loop-i.i + 1)) c.loop-i-test.true))

-- the form of one is read
module _ (c : In-Some-form_at) where
  form : FormAt (sizes_of c.version_in-version.result) c.args.s.now c.loop-i.next c.in-Some-form_at.form
  form = c.in-Some-form_at.ensures

  placed : cells_at c.sizes-z.result c.loop-i.next c.in-Some-form_at.form
      ≡ cells_at (sizes_of c.version_in-version.result) c.loop-i.next c.in-Some-form_at.form
  placed = ap (λ (x : Sizes). cells_at x c.loop-i.next c.in-Some-form_at.form) c.sizes-z.ensures

  room : cells_at c.sizes-z.result c.loop-i.next c.in-Some-form_at.form ≤ length c.args.s.now
  room = omega (arith, placed, form.room)

pub overflow_mul-at : goal.overflow_mul-at
overflow_mul-at c = omega (arith, room (goal.at.overflow_mul-at c).In-Some-form_at)

pub overflow_add-at-in-loop-i : goal.overflow_add-at-in-loop-i
overflow_add-at-in-loop-i c = omega (arith, room (goal.at.overflow_add-at-in-loop-i c).In-Some-form_at)

pub array_of-requires : goal.array_of-requires
array_of-requires c = room (goal.at.array_of-requires c).In-Some-form_at

pub returns-in_err-cells : goal.returns-in_err-cells
returns-in_err-cells c =
    let s = (goal.at.returns-in_err-cells c).In-Some-form_at in
    let l = (goal.at.returns-in_err-cells c).At-loop-i in
    let p = err_from_is_err_and c.from_residual.result c.from_residual.ensures.1 in
    rw (p.1, p.2)
    (all-refused (refuses l (array-refused (form s) (placed s) (l.loop-i.i + 1) c.in_err-cells.ensures) c.loop-i-test.true))

pub loop-i-preserved : goal.loop-i-preserved
loop-i-preserved c =
    let s = (goal.at.loop-i-preserved c).In-Some-form_at in
    loop-more c.loop-i.invariant c.loop-i-test.true (array-read (form s) (placed s) (c.loop-i.i + 1) c.in_ok-cells.ensures)

pub overflow_mul-next : goal.overflow_mul-next
overflow_mul-next c = omega (arith, c.in_ok-cells.ensures.1.few)

pub overflow_add-next : goal.overflow_add-next
overflow_add-next c = let f = c.in_ok-cells.ensures.1 in omega (arith, f.fits, f.counted, c.well_formed)

pub returns-then-next-s : goal.returns-then-next-s
returns-then-next-s c =
    rw c.refuse-then-next-s.ensures
    (all-refused
    (bundle-left _ c.version_in-version.ensures c.in-Some.ensures c.loop-i.invariant c.loop-i-test.false c.if-next-s.true))

pub returns : goal.returns
returns c =
    bundle-read _ c.version_in-version.ensures c.in-Some.ensures c.loop-i.invariant c.loop-i-test.false c.if-next-s.false
