-- `pack::put::put_array` meets its contract: head and cells, one after the other.
use Rattle.std.proofs.Common.{ℕ, Option, ◌≡◌, ap, ◌∙◌, rules}
use Rattle.std.specs.Option.{unwrap_or}
use Rattle.paper.specs.Limits.{sizes_of}
use Rattle.paper.specs.Answers.{axes_of}
use Rattle.laws.specs.Sizes.{Fits, fits}
use Rattle.extent.specs.Judged.{few_cells}
use Rattle.pack.specs.Laid.{ready-small}
use Rattle.pack.specs.Laying.{its-fit, head-room, cells-room, array-put, array-kept}
use Rattle.pack.proofs.put.put_array.Goals as goal
use Rattle.pack.proofs.put.put_array.Goals.{After-unwrap_or-long, After-put_head-begin, Start}

pub cells_of-requires : goal.cells_of-requires
cells_of-requires c = (ready-small (fits c.args.v) c.requires.ready).sound

-- the cells are counted
module _ (c : After-unwrap_or-long) where
  abbrev start : Start
  start = (goal.at.After-unwrap_or-long c).Start

  its : Fits (sizes_of start.args.v)
  its = fits start.args.v

  told : c.unwrap_or-long.result ≡ unwrap_or (few_cells (axes_of start.args.form.extent)) 0
  told = c.unwrap_or-long.ensures ∙ ap (λ (o : Option ℕ). unwrap_or o 0) c.cells_of.ensures

pub put_head-begin-requires : goal.put_head-begin-requires
put_head-begin-requires c =
    let s = (goal.at.put_head-begin-requires c).After-unwrap_or-long in
    head-room (its s) (start s).requires (told s)

-- the head is written
module _ (c : After-put_head-begin) where
  abbrev counted : After-unwrap_or-long
  counted = (goal.at.After-put_head-begin c).After-unwrap_or-long

pub copy_bytes-requires : goal.copy_bytes-requires
copy_bytes-requires c =
    let w = (goal.at.copy_bytes-requires c).After-put_head-begin in
    let q = counted w in
    (its-fit (its q) (start q).requires (told q), cells-room (its q) (start q).requires (told q) w.put_head-begin.ensures)

pub returns : goal.returns
returns c =
    let w = (goal.at.returns c).After-put_head-begin in
    let q = counted w in
    array-put (its q) (start q).requires (told q) w.put_head-begin.ensures c.copy_bytes.new.d c.copy_bytes.ensures

pub overflow_add-result-2 : goal.overflow_add-result-2
overflow_add-result-2 c =
    let w = (goal.at.overflow_add-result-2 c).After-put_head-begin in
    let h = cells-room (its (counted w)) (start (counted w)).requires (told (counted w)) w.put_head-begin.ensures in
    search rules

pub shape_of-d : goal.shape_of-d
shape_of-d c =
    let w = (goal.at.shape_of-d c).After-put_head-begin in
    array-kept (start (counted w)).requires (returns c)
