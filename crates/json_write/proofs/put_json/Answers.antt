-- `json_write::put_json` meets its contract: the object's beginning, the brackets, the closing brace.
use Rattle.std.proofs.Common.{◌+◌, ◌≤◌, ◌<◌, ◌≡◌, ◌∙◌, refl, arith, length}
use Rattle.paper.specs.Numbers.{text}
use Rattle.paper.specs.Answers.{axes_of}
use Rattle.json_write.specs.Stores.{Stored, wrote-stored}
use Rattle.json_write.specs.Texts.{text_left}
use Rattle.json_write.specs.Whole.{cell_by, whole-fits, whole_ready, whole-drawn}
use Rattle.json_write.proofs.put_json.Goals as goal
use Rattle.json_write.proofs.put_json.Goals.{After-put_axes-pen, After-put_text-first, After-rank_of-rank}

-- the axes are counted
module _ (c : After-rank_of-rank) where
  fits : 9 + length (text_left (cell_by c.args.s.now c.args.from c.args.kind) (axes_of c.args.extent) c.rank_of-rank.result 0)
      ≤ length c.args.out.now
  fits = whole-fits c.requires.0 c.args.kind c.requires.1 c.rank_of-rank.ensures.number

-- the object is begun
module _ (c : After-put_text-first) where
  begun : Stored c.args.out.now 0 (text "{\"data\":") c.put_text-first.result c.put_text-first.new.out
  begun =
      wrote-stored c.args.out.now 0 (text "{\"data\":") (omega (arith, fits (goal.at.After-put_text-first c).After-rank_of-rank))
      c.put_text-first.ensures

-- the brackets are written, and the closing brace fits
module _ (c : After-put_axes-pen) where
  room : c.put_axes-pen.result.at < length c.args.out.now
  room =
      omega (
        arith,
        fits (goal.at.After-put_axes-pen c).After-rank_of-rank,
        (begun (goal.at.After-put_axes-pen c).After-put_text-first).0,
        c.put_axes-pen.ensures.drawn.0,
      )

  long : length c.put_axes-pen.new.out ≡ length c.args.out.now
  long = c.put_axes-pen.auto.out ∙ c.put_text-first.auto.out

pub put_text-first-requires : goal.put_text-first-requires
put_text-first-requires c = omega (arith, fits (goal.at.put_text-first-requires c).After-rank_of-rank)

pub put_axes-pen-requires : goal.put_axes-pen-requires
put_axes-pen-requires c =
    whole_ready c.requires.0 c.args.kind (omega (arith, c.requires.1, c.put_text-first.auto.out)) c.rank_of-rank.ensures.number _
    (omega (arith, (begun (goal.at.put_axes-pen-requires c).After-put_text-first).0))

pub bounds-out-end : goal.bounds-out-end
bounds-out-end c = let w = (goal.at.bounds-out-end c).After-put_axes-pen in omega (arith, room w, long w)

pub overflow_add-result : goal.overflow_add-result
overflow_add-result c = omega (arith, room (goal.at.overflow_add-result c).After-put_axes-pen)

pub returns : goal.returns
returns c =
    whole-drawn c.requires.0 c.args.kind c.requires.1 c.rank_of-rank.ensures.number c.args.out.now
    (begun (goal.at.returns c).After-put_text-first) c.put_axes-pen.ensures (refl, refl)
