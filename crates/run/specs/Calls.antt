-- The calls, outcome by outcome: what they answer and leave is what the paper says of a run and of a page.
use Prim.Native.Nat.{ℕ, ◌+◌, ◌-◌, ◌*◌, ◌≤◌, ◌<◌}
use Rattle.std.specs.Prelude.{◌≡◌, ◌&&◌, eqb, leb, length, get_or, take, Ok, Err}
use Rattle.std.proofs.Math.Path.{sym, ap}
use Rattle.std.proofs.Common.{subst, ◌∙◌, arith}
use mathlib.Core.List.{List, [], ◌++◌}
use borrow.Author.Tests.{le-leb, lt-leb, eqb-true, leb-true}
use Rattle.std.proofs.Math.ListN.{drop, replicate}
use Rattle.std.proofs.lemmas.List.{length-replicate}
use Rattle.paper.specs.declared.Head.{Head}
use Rattle.paper.specs.declared.Listed.{Listed}
use Rattle.paper.specs.declared.Refusal.{Refusal}
use Rattle.paper.specs.Limits.{cell_bytes, most_axes, BOOLEAN}
use Rattle.paper.specs.Refusals.{Res, refusal, between, unfit7, small_work10, bad_page11}
use Rattle.paper.specs.Numbers.{over, last_of}
use Rattle.paper.specs.Axes.{cells, Shape, Array}
use Rattle.paper.specs.Recipe.{Planned}
use Rattle.paper.specs.Values.{values, no_array}
use Rattle.paper.specs.Listing.{planned, result_bytes, bytes_of_all, work_after, last_shape, row_bytes, run_tests, run_after, run, list_tests, page_tests, page_values, page_after, page}
use Rattle.laws.specs.Judged.{cells_from}
use Rattle.laws.specs.Put.{put}
use Rattle.laws.specs.Tests.{ensure-got, ensured, and_left, and_right, between-true}
use Rattle.laws.specs.Answers.{axes-few}
use Rattle.laws.specs.Results.{values-full, last-shape}
use Rattle.recipe.specs.declared.Plan.{Plan}
use Rattle.recipe.specs.Operands.{shape_in}
use Rattle.recipe.specs.Whole.{steps_of, Laid, steps-count, cells-sum}
use Rattle.values.specs.Lying.{Lies, Whole, work-lies, lies-before, lies-cells}
use Rattle.values.specs.Done.{run_ends}
use Rattle.values.specs.Found.{arrays_at, result-at}
use Rattle.values.specs.Runs.{Running, Results, Stopped}
use Rattle.listing.specs.Lists.{Listable, ListedAs}
use Rattle.run.specs.declared.PageRows.{PageRows}
use Rattle.run.specs.Tests.{Accepted, PageJudged, last_in, axes_in, last-is, last-there, last-laid}
use Rattle.run.specs.Tests as Tests

-- ---- the values

-- the results, or zeros in their place
abbrev pub Settled : List ℕ → List ℕ → Plan → List ℕ → Res (Unit {0}) → List ℕ → Type 0
Settled B bs P W (Ok u) after = Results B bs P W after
Settled B bs P W (Err x) after =
    (values (arrays_at B P) (steps_of bs P) ≡ Err x) × (after ≡ work_after (steps_of bs P) W (values (arrays_at B P) (steps_of bs P)))

results-work : {B bs : List ℕ} {P : Plan} {W after : List ℕ} → Results B bs P W after
    → after ≡ work_after (steps_of bs P) W (values (arrays_at B P) (steps_of bs P))
unfolding work_after
results-work {B} {bs} {P} {W} d = d.steps.bytes ∙ ap (work_after (steps_of bs P) W) (run_ends d.steps d.all)

-- n zeros at the beginning
pub cleared : (n : ℕ) (d : List ℕ) → put d 0 (replicate n 0) ≡ over (replicate n 0) d
cleared n d = let e : 0 + length (replicate n 0) ≡ length (replicate n 0) = omega arith in ap (λ (i : ℕ). replicate n 0 ++ drop i d) e

module _ {B bs : List ℕ} {P : Plan} {W : List ℕ} (g : Running B bs P W) where
  -- 9T
  pub all-bytes : P.cells * cell_bytes ≡ bytes_of_all (steps_of bs P)
  all-bytes = omega (arith, cells-sum g.setting.laid)

  pub settle-stopped : {x : Refusal} {after : List ℕ} → Stopped B bs P W x after → (last : List ℕ)
      → last ≡ put after 0 (replicate (P.cells * cell_bytes) 0) → Settled B bs P W (Err x) last
  unfolding work_after
  settle-stopped {x} {after} s last e =
      let zs : List ℕ = replicate (bytes_of_all (steps_of bs P)) 0 in
      let q : drop (length zs) after ≡ drop (length zs) W = rw (length-replicate {A = ℕ} (bytes_of_all (steps_of bs P)) 0) s.rest in
      (s.is, e ∙ cleared (P.cells * cell_bytes) after ∙ rw (all-bytes, s.is) (ap (λ (l : List ℕ). zs ++ l) q))

-- ---- a run

pub run-refused : (B bs : List ℕ) {x : Refusal} → Err x ≡ planned B bs → (W : List ℕ) → record { answer = Err x; buffer = W } ≡ run B bs W
unfolding run_tests run_after
run-refused B bs q W = rw (← q)

module _ {B bs : List ℕ} {P : Plan} (p : Accepted B bs P) (W : List ℕ) where
  sized : bytes_of_all (steps_of bs P) ≡ P.cells * cell_bytes
  sized = omega (arith, cells-sum p.setting.laid)

  pub run_small : length W < P.cells * cell_bytes → record { answer = Err (refusal small_work10 0 0); buffer = W } ≡ run B bs W
  unfolding run_tests run_after
  run_small h = rw (← p.said, sized, lt-leb (P.cells * cell_bytes) (length W) h)

  module _ (h : P.cells * cell_bytes ≤ length W) where
    pub may-run : Running B bs P W
    may-run = record { setting = p.setting; room = omega (arith, sized) }

    pub run-stopped : {x : Refusal} {after : List ℕ} → Settled B bs P W (Err x) after → record { answer = Err x; buffer = after } ≡ run B bs W
    unfolding run_tests run_after
    run-stopped s = rw (← p.said, sized, le-leb (P.cells * cell_bytes) (length W) h, s.1, s.0)

    pub run-done : {after : List ℕ} → Results B bs P W after → record { answer = Ok P.cells; buffer = after } ≡ run B bs W
    unfolding run_tests run_after
    run-done d =
        let e = sym (run_ends d.steps d.all) in
        rw (← p.said, sized, le-leb (P.cells * cell_bytes) (length W) h, results-work d, e, cells-sum p.setting.laid)

-- ---- a page

-- the page's answer
abbrev pub listed_in : Res PageRows → Res Listed
listed_in (Ok r) = Ok r.listed
listed_in (Err x) = Err x

-- how many positions a row has: as many as what is listed has axes
abbrev pub row_axes : Res (List Array × List Planned) → ℕ
row_axes (Err x) = 0
row_axes (Ok t) = length (last_shape t.1).axes

pub record RowAxes (B bs : List ℕ) (r : PageRows) : Type 0 where
  pub few : r.axes ≤ most_axes
  pub same : r.axes ≡ row_axes (planned B bs)

-- the tests of an accepted page, one by one
record Fits (ps : List Planned) (w o l : ℕ) : Type 0 where
  type : (last_shape ps).type ≡ BOOLEAN
  work : bytes_of_all ps ≤ w
  rows : row_bytes (last_shape ps) ≤ l
  from : 1 ≤ o
  upto : o ≤ cells (last_shape ps).axes + 1

fits : (ps : List Planned) (w o l : ℕ) → list_tests ps w o l ≡ Ok tt → Fits ps w o l
unfolding list_tests
fits ps w o l e =
    let s = last_shape ps in
    let t = ensure-got (eqb s.type BOOLEAN) unfit7 (length ps) _ tt e in
    let b = ensure-got (leb (bytes_of_all ps) w) small_work10 0 _ tt t.1 in
    let p = ensured (leb (row_bytes s) l && between 1 (cells s.axes + 1) o) bad_page11 0 b.1 in
    let n = between-true (cells s.axes + 1) o (and_right (leb (row_bytes s) l) _ p) in
    record {
      type = eqb-true s.type BOOLEAN t.0;
      work = leb-true (bytes_of_all ps) w b.0;
      rows = leb-true (row_bytes s) l (and_left (leb (row_bytes s) l) _ p);
      from = n.0;
      upto = n.1;
    }

pub page-refused : (B bs : List ℕ) {x : Refusal} → Err x ≡ planned B bs → (W : List ℕ) (o : ℕ) (L : List ℕ)
    → record { answer = Err x; work = W; rows = L } ≡ page B bs W o L
unfolding page_tests page_after
page-refused B bs q W o L = rw (← q)

module _ {B bs : List ℕ} {P : Plan} (p : Accepted B bs P) (W : List ℕ) (o : ℕ) (L : List ℕ) where
  abbrev As : List Array
  As = arrays_at B P

  abbrev ps : List Planned
  ps = steps_of bs P

  laid : Laid bs P
  laid = p.setting.laid

  -- the page's own tests give this
  abbrev pub Tested : Res (Unit {0}) → Type 0
  Tested u = PageJudged (last_in P) P.count (P.cells * cell_bytes) (length W) o (length L) u

  own-tests : {u : Res (Unit {0})} → Tested u → list_tests ps (length W) o (length L) ≡ u
  own-tests j = sym (j.said ps (steps-count laid) (Tests.last-shape laid p.some) (sized p W))

  pub page-unfit : {x : Refusal} → Tested (Err x) → record { answer = Err x; work = W; rows = L } ≡ page B bs W o L
  unfolding page_tests page_after
  page-unfit j = rw (← p.said, own-tests j)

  module _ (j : Tested (Ok tt)) where
    own-got : list_tests ps (length W) o (length L) ≡ Ok tt
    own-got = own-tests j

    own : Fits ps (length W) o (length L)
    own = fits ps (length W) o (length L) own-got

    tests-got : page_tests B bs W o L ≡ Ok (As, ps)
    unfolding page_tests
    tests-got = rw (← p.said, own-got)

    pub page-runs : Running B bs P W
    page-runs = record { setting = p.setting; room = own.work }

    pub page-stopped : {x : Refusal} {after : List ℕ} → Settled B bs P W (Err x) after
        → record { answer = Err x; work = after; rows = L } ≡ page B bs W o L
    unfolding page_after page_values
    page-stopped s = rw (tests-got, s.1, s.0)

    module _ {after : List ℕ} (res : Results B bs P W after) where
      abbrev Rs : List Array
      Rs = res.steps.done.results

      values-are : values As ps ≡ Ok Rs
      values-are = sym (run_ends res.steps res.all)

      shape_is : (last_of no_array Rs).shape ≡ shape_in (last_in P)
      shape_is = last-shape ps Rs (values-full ps 1 As [] Rs values-are) ∙ Tests.last-shape laid p.some

      -- step j, from 0, is the last
      abbrev j' : ℕ
      j' = P.count - 1

      results-are : length Rs ≡ P.count
      results-are = omega (arith, res.steps.done.count, res.steps.done.turns, res.all, steps-count laid)

      last_one : get_or Rs j' no_array ≡ last_of no_array Rs
      last_one = sym (last-is no_array no_array Rs (omega (arith, results-are, p.some)) ∙ ap (λ (n : ℕ). get_or Rs (n - 1) no_array) results-are)

      there : j' < length Rs
      there = omega (arith, results-are, p.some)

      whole : Whole (last_of no_array Rs)
      whole = rw last_one at (res.steps.done.whole j' there)

      full : length (last_of no_array Rs).cells ≡ cells (axes_in (last_in P))
      full = whole.full ∙ ap (λ (q : Shape). cells q.axes) shape_is

      lies-last : Lies after (last_in P).at (last_of no_array Rs)
      lies-last =
          let a : length (result_bytes (take j' Rs)) ≡ (last_in P).at
          = sym (result-at p.setting res.steps.done j' (omega (arith, there, res.steps.done.count))) ∙ ap (λ (h : Head). h.at) (last-there laid p.some) in
          let l : Lies (result_bytes Rs) (last_in P).at (last_of no_array Rs) = rw (last_one, a) at (work-lies Rs j' there (res.steps.done.whole j' there).kept) in
          subst (λ (w : List ℕ). Lies w (last_in P).at (last_of no_array Rs)) (sym res.steps.bytes)
          (lies-before (result_bytes Rs) (drop (length (result_bytes Rs)) W) (last_in P).at (last_of no_array Rs) l)

      pub listable : Listable (axes_in (last_in P)) (last_in P).at (last_in P).cells o after L
      listable =
          let w = last-laid laid p.some in
          let q = Tests.last-shape laid p.some in
          record {
            small = w.small;
            number = w.count;
            lies = omega (arith, lies-last.room, full);
            from = own.from;
            upto = omega (arith, own.upto, ap (λ (x : Shape). cells x.axes) q);
            room = omega (arith, own.rows, ap (λ (x : Shape). length x.axes) q);
          }

      pub page-listed : (l : Listed) (rows : List ℕ) → ListedAs after (last_in P).at (axes_in (last_in P)) o L l rows
          → record { answer = Ok l; work = after; rows = rows } ≡ page B bs W o L
      unfolding page_after page_values
      page-listed l rows t =
          let A = last_of no_array Rs in
          let k : A.shape.type ≡ BOOLEAN = ap (λ (q : Shape). q.type) (last-shape ps Rs (values-full ps 1 As [] Rs values-are)) ∙ own.type in
          let c : A.cells ≡ cells_from BOOLEAN (cells (axes_in (last_in P))) (drop (last_in P).at after) = rw (k, full) at (lies-cells after (last_in P).at A lies-last) in
          let q : after ≡ work_after ps W (Ok Rs) = results-work res ∙ ap (work_after ps W) values-are in
          rw (tests-got, values-are, ← q) (sym (t.page A after (ap (λ (x : Shape). x.axes) shape_is) c))

  pub row-axes : (r : PageRows) → r.axes ≡ length (axes_in (last_in P)) → RowAxes B bs r
  row-axes r e = record {
    few = omega (arith, e, axes-few (last_in P).form.extent);
    same = rw (← p.said, Tests.last-shape laid p.some) e;
  }
