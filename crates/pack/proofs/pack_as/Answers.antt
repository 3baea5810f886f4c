-- `pack::pack_as` meets its promise: refused by the judging, refused for room, or written.
use Rattle.std.proofs.lemmas.Result.{err_from_is_err_and}
use Rattle.std.proofs.Common.{ℕ, List, ◌≡◌, arith, rules, length}
use Rattle.laws.specs.Loops.{length-mapped}
use Rattle.laws.specs.Sizes.{Fits, fits}
use Rattle.laws.specs.Numbers.{Bytes}
use Rattle.paper.specs.Limits.{most_arrays, sizes_of}
use Rattle.pack.specs.Laying.{pack-refused, count-least, pack-small, all_room, pack-got}
use Rattle.pack.proofs.pack_as.Goals as goal
use Rattle.pack.proofs.pack_as.Goals.{In_ok-long}

-- the forms, and the cells' bytes
module _ (c : In_ok-long) where
  abbrev out : List ℕ
  out = c.args.out.now

  its : Fits (sizes_of c.args.v)
  its = fits c.args.v

  full : length c.args.forms ≡ most_arrays
  full = search (rules, length-mapped)

  bytes : Bytes c.args.cells.now
  bytes i = omega (arith, c.shared_slice_known-1.given i)

pub returns-then-out-long : goal.returns-then-out-long
returns-then-out-long c =
    let s = (goal.at.returns-then-out-long c).In_ok-long in
    rw c.refuse.ensures (pack-small (its s) c.in_ok-long.ensures (full s) (bytes s) (out s) c.if-out-long.true)

pub put_arrays-requires : goal.put_arrays-requires
put_arrays-requires c =
    let s = (goal.at.put_arrays-requires c).In_ok-long in
    all_room (its s) c.in_ok-long.ensures (out s) c.if-out-long.false c.put_mark.new.d c.put_mark.ensures

pub returns : goal.returns
returns c =
    let s = (goal.at.returns c).In_ok-long in
    pack-got (its s) c.in_ok-long.ensures (full s) (bytes s) (out s) c.if-out-long.false c.put_mark.new.d c.put_arrays.new.d
    c.put_mark.ensures c.put_arrays.ensures

pub returns-in_err-long : goal.returns-in_err-long
returns-in_err-long c =
    let p = err_from_is_err_and c.from_residual.result c.from_residual.ensures.1 in
    rw (p.1, p.2) (pack-refused _ _ _ c.args.out.now _ (c.in_err-long.ensures (length c.args.out.now)))

pub overflow_cast-count : goal.overflow_cast-count
overflow_cast-count c = omega (arith, count-least (fits c.args.v) c.in_ok-long.ensures)

pub put_mark-requires : goal.put_mark-requires
put_mark-requires c = omega (arith, c.in_ok-long.ensures.long)
