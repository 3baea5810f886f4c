-- `run::extent` meets its contract: the refusal of the bundle or the recipe, no room, or the last result's head.
use Rattle.std.proofs.lemmas.Result.{err_from_is_err_and}
use Rattle.std.proofs.Common.{ℕ, ◌≤◌, ◌≡◌, ◌∙◌, ap, length, replicate, arith}
use Rattle.paper.specs.Limits.{sizes_of}
use Rattle.paper.specs.Numbers.{over}
use Rattle.pack.specs.Heads.{head_length}
use Rattle.run.specs.Calls.{cleared}
use Rattle.run.specs.Plans.{laid, extent-refused, extent-short, last-room, extent-told}
use Rattle.run.proofs.extent.Goals as goal
use Rattle.run.proofs.extent.Goals.{After-clear_bytes}

-- there is room, and it is cleared
module _ (c : After-clear_bytes) where
  long-told : c.whole_head-long.result ≡ head_length (sizes_of c.planned.new.plan.version)
  long-told = c.whole_head-long.ensures.0

  room : head_length (sizes_of c.planned.new.plan.version) ≤ length c.args.head.now
  room = omega (arith, long-told, c.if-head-long.false)

  zeros : c.clear_bytes.new.d ≡ over (replicate (head_length (sizes_of c.planned.new.plan.version)) 0) c.args.head.now
  zeros =
      c.clear_bytes.ensures ∙ cleared c.whole_head-long.result c.args.head.now
      ∙ ap (λ (n : ℕ). over (replicate n 0) c.args.head.now) long-told

pub returns-in_err-planned : goal.returns-in_err-planned
returns-in_err-planned c =
    let r = err_from_is_err_and c.from_residual.result c.from_residual.ensures.1 in
    rw (r.1, r.2) (extent-refused c.args.bundle.now c.args.recipe.now c.in_err-planned.ensures c.args.head.now)

pub returns-then-head-long : goal.returns-then-head-long
returns-then-head-long c =
    extent-short c.in_ok-planned.ensures c.args.head.now (omega (arith, c.whole_head-long.ensures.0, c.if-head-long.true)) _ c.refuse.ensures

pub put_head-requires : goal.put_head-requires
put_head-requires c =
    let s = (goal.at.put_head-requires c).After-clear_bytes in
    last-room c.in_ok-planned.ensures c.args.head.now (room s) (zeros s)

pub returns : goal.returns
returns c =
    let s = (goal.at.returns c).After-clear_bytes in
    extent-told c.in_ok-planned.ensures c.args.head.now (room s) (zeros s) _ _ c.put_head.ensures _ (long-told s)

pub overflow_add-operand : goal.overflow_add-operand
overflow_add-operand c = omega (arith, (laid c.in_ok-planned.ensures).few)

pub offset_bounds-plan-plan : goal.offset_bounds-plan-plan
offset_bounds-plan-plan c = omega (arith, (laid c.in_ok-planned.ensures).few)

pub bounds-plan-plan : goal.bounds-plan-plan
bounds-plan-plan c = let l = laid c.in_ok-planned.ensures in omega (arith, l.few, l.named.long)

pub clear_bytes-requires : goal.clear_bytes-requires
clear_bytes-requires c = omega (arith, c.if-head-long.false)

pub overflow_cast-result : goal.overflow_cast-result
overflow_cast-result c = omega (arith, c.whole_head-long.ensures.1)

pub shape_of-head : goal.shape_of-head
shape_of-head c = c.put_head.auto.d ∙ c.clear_bytes.auto.d
