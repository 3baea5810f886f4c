-- `report::report` meets its contract: too long, refused or listed, what is written is the paper's text.
use Rattle.std.proofs.Common.{ℕ, List}
use Rattle.report.specs.Texts.{Written, long-bundle, long-recipe, refused-text, listing-text, paged-text}
use Rattle.report.proofs.report.Goals as goal
use Rattle.report.proofs.report.Goals.{After-slice_known-3-1, In-Ok, Start}

-- what is lent
module _ (c : After-slice_known-3-1) where
  abbrev start : Start
  start = (goal.at.After-slice_known-3-1 c).Start

  abbrev B : List ℕ
  B = start.args.bundle.now

  abbrev R : List ℕ
  R = start.args.recipe.now

  abbrev W : List ℕ
  W = start.args.work.now

  abbrev L : List ℕ
  L = start.args.rows.now

  abbrev D : List ℕ
  D = start.args.out.now

-- rows were found
module _ (c : In-Ok) where
  abbrev s : After-slice_known-3-1
  s = (goal.at.In-Ok c).After-slice_known-3-1

  listed-text : Written (B s) (R s) c.page_rows.new.rows c.in-Ok.paged.axes c.in-Ok.paged.listed.written
  listed-text =
      listing-text (B s) (R s) (W s) (L s) c.if-bundle-gt-FILE_BYTES.false c.if-recipe-gt-FILE_BYTES.false (start s).requires.0 (start s).requires.1
      c.in-Ok.paged _ _ c.in-Ok.ensures.0 c.in-Ok.ensures.1

pub returns-then-bundle-gt-FILE_BYTES : goal.returns-then-bundle-gt-FILE_BYTES
returns-then-bundle-gt-FILE_BYTES c =
    let s = (goal.at.returns-then-bundle-gt-FILE_BYTES c).After-slice_known-3-1 in
    long-bundle (B s) (R s) (W s) (L s) (D s) _ _ c.put_too_long.ensures c.if-bundle-gt-FILE_BYTES.true

pub returns-then-recipe-gt-FILE_BYTES : goal.returns-then-recipe-gt-FILE_BYTES
returns-then-recipe-gt-FILE_BYTES c =
    let s = (goal.at.returns-then-recipe-gt-FILE_BYTES c).After-slice_known-3-1 in
    long-recipe (B s) (R s) (W s) (L s) (D s) _ _ c.put_too_long-then-recipe-gt-FILE_BYTES.ensures c.if-bundle-gt-FILE_BYTES.false c.if-recipe-gt-FILE_BYTES.true

pub put_listing-requires : goal.put_listing-requires
put_listing-requires c =
    let w = (goal.at.put_listing-requires c).In-Ok in
    let t = listed-text w in
    (c.in-Ok.ensures.1.few, t.few, t.room, (start (s w)).requires.2)

pub returns-in-Err : goal.returns-in-Err
returns-in-Err c =
    let s = (goal.at.returns-in-Err c).After-slice_known-3-1 in
    paged-text (B s) (R s) (W s) (L s) c.if-bundle-gt-FILE_BYTES.false c.if-recipe-gt-FILE_BYTES.false (start s).requires.0 (start s).requires.1 (D s) _ _ _ _ _ _
    c.in-Err.ensures.0 c.put_refusal.ensures
    (refused-text (B s) (R s) (W s) (L s) c.if-bundle-gt-FILE_BYTES.false c.if-recipe-gt-FILE_BYTES.false (start s).requires.0 (start s).requires.1
    c.in-Err.ensures.0)

pub returns-in-Ok : goal.returns-in-Ok
returns-in-Ok c =
    let w = (goal.at.returns-in-Ok c).In-Ok in
    let k = s w in
    paged-text (B k) (R k) (W k) (L k) c.if-bundle-gt-FILE_BYTES.false c.if-recipe-gt-FILE_BYTES.false (start k).requires.0 (start k).requires.1 (D k) _ _ _ _ _ _
    c.in-Ok.ensures.0 c.put_listing.ensures (listed-text w).is
