-- `step::agreeing::first_difference` meets its contract.
-- As many axes; then the loop keeps the first difference of the axes left equal to the whole.
use Rattle.std.proofs.Common.{ℕ, ◌+◌, ◌*◌, ◌≤◌, ◌<◌, Bool, ◌≡◌, ap, sym, ◌∙◌, arith, rules, length, get_or}
use Rattle.paper.specs.Limits.{most_axes}
use Rattle.paper.specs.Axes.{no_name}
use Rattle.paper.specs.Recipe.{axis_differs}
use Rattle.laws.specs.Loops.{length-mapped}
use Rattle.extent.specs.Rank.{axis_no}
use Rattle.step.specs.Agreeing.{limits_in, index_in, count-differs, count_same}
use Rattle.step.specs.Agreeing.{axis-found, axis-passed, none-differs}
use Rattle.step.proofs.agreeing.first_difference.Goals as goal
use Rattle.step.proofs.agreeing.first_difference.Goals.{After-axis_differs-d, Else-rank_of-rank, In-loop-j, Start}

full-first : (c : Start) → length c.args.m ≡ most_axes
full-first c = search (rules, length-mapped)

full-second : (c : Start) → length c.args.n ≡ most_axes
full-second c = search (rules, length-mapped)

-- as many axes
module _ (c : Else-rank_of-rank) where
  abbrev start : Start
  start = c.before.before.before

  abbrev rank : ℕ
  rank = c.rank_of-rank.result

  same : c.rank_of.result ≡ rank
  same = omega (arith, c.if-rank_of-rank.false)

  first-room : rank ≤ length start.args.m
  first-room = omega (arith, full-first start, c.rank_of-rank.ensures.few)

  second-room : rank ≤ length start.args.n
  second-room = omega (arith, full-second start, c.rank_of-rank.ensures.few)

-- the axis that the loop is at
module _ (c : In-loop-j) where
  abbrev many : Else-rank_of-rank
  many = c.before.before

  abbrev j : ℕ
  j = c.loop-j.j

  few : j < most_axes
  few = omega (arith, c.loop-j-test.true, many.rank_of-rank.ensures.few)

-- what it differs in
module _ (c : After-axis_differs-d) where
  abbrev turn : In-loop-j
  turn = c.before.before.before.before.before.before

  told : let a = (start (many turn)).args in
      c.axis_differs-d.result
      ≡ axis_differs (limits_in a.c (index_in a.c (j turn))) (get_or a.m (j turn) no_name) (axis_no a.e (j turn))
      (get_or a.n (j turn) no_name) (axis_no a.f (j turn))
  told =
      let a = (start (many turn)).args in
      let i = j turn in
      c.axis_differs-d.ensures.0
      ∙ ap (λ (t : Bool). axis_differs t (get_or a.m i no_name) (axis_no a.e i) (get_or a.n i no_name) (axis_no a.f i))
      c.limits_in.ensures

pub returns-then-rank_of-rank : goal.returns-then-rank_of-rank
returns-then-rank_of-rank c =
    let a = c.args in
    count-differs a.c a.m a.n a.e a.f
    (λ h. c.if-rank_of-rank.true (c.rank_of.ensures.number ∙ h ∙ sym c.rank_of-rank.ensures.number))

pub loop-j-init : goal.loop-j-init
loop-j-init c =
    let a = (start c).args in
    count_same a.c a.m a.n a.e a.f
    (sym c.rank_of.ensures.number ∙ same c ∙ c.rank_of-rank.ensures.number)

pub limits_in-requires : goal.limits_in-requires
limits_in-requires c = few c

pub index_in-requires : goal.index_in-requires
index_in-requires c = few (turn (goal.at.index_in-requires c).After-axis_differs-d)

-- the figure: its index is at most one past the most axes
pub overflow_cast-result : goal.overflow_cast-result
overflow_cast-result c = omega (arith, c.index_in.ensures.1)

pub overflow_mul-result : goal.overflow_mul-result
overflow_mul-result c = omega (arith, c.index_in.ensures.1)

pub overflow_add-result : goal.overflow_add-result
overflow_add-result c = omega (arith, c.index_in.ensures.1, c.axis_differs-d.ensures.1)

pub returns-then-d-ne0 : goal.returns-then-d-ne0
returns-then-d-ne0 c =
    let s = (goal.at.returns-then-d-ne0 c).After-axis_differs-d in
    let p = turn s in
    let m = many p in
    let a = (start m).args in
    ap (λ (i : ℕ). 10 * i + c.axis_differs-d.result) c.index_in.ensures.0
    ∙ axis-found a.c a.m a.n a.e a.f _ _ m.rank_of-rank.ensures m.rank_of.ensures (same m)
    (first-room m) (second-room m) (j p) p.loop-j-test.true _ (told s) c.if-d-ne0.true
    ∙ p.loop-j.invariant

pub loop-j-preserved : goal.loop-j-preserved
loop-j-preserved c =
    let s = (goal.at.loop-j-preserved c).After-axis_differs-d in
    let p = turn s in
    let m = many p in
    let a = (start m).args in
    axis-passed a.c a.m a.n a.e a.f _ _ m.rank_of-rank.ensures m.rank_of.ensures (same m)
    (first-room m) (second-room m) (j p) p.loop-j-test.true _ (told s) (omega (arith, c.if-d-ne0.false))
    ∙ p.loop-j.invariant

pub returns : goal.returns
returns c =
    let s = (goal.at.returns c).Else-rank_of-rank in
    let a = (start s).args in
    none-differs a.c a.m a.n a.e a.f _ _ c.rank_of-rank.ensures c.rank_of.ensures (same s)
    (first-room s) (second-room s) c.loop-j.j c.loop-j-test.false
    ∙ c.loop-j.invariant
