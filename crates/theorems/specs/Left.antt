-- What run and page calls leave in what is lent to them. Refusals 1 to 11 come before the values, and then nothing is touched; 12 and 13
-- come from the values, and then the first 9T bytes of the work area are zero and all else is untouched. An accepted call leaves the
-- results there, and the bytes after them and after its rows as they were.
use Rattle.std.specs.Prelude.{ℕ, ◌*◌, ◌/◌, ◌≤◌, ◌≡◌, leb, length, take, drop, replicate, Ok, Err}
use Rattle.std.proofs.Math.Path.{refl, sym}
use Rattle.std.proofs.Common.{ap, ◌∙◌, take_at, drop_at}
use mathlib.Core.List.{List, []}
use Rattle.paper.specs.declared.Refusal.{Refusal}
use Rattle.paper.specs.declared.Listed.{Listed}
use Rattle.paper.specs.Numbers.{last_of, over}
use Rattle.paper.specs.Refusals.{Res, ◌>>=◌, ◌>>◌, ensure, bad_page11, small_work10}
use Rattle.paper.specs.Axes.{Array}
use Rattle.paper.specs.Bundle.{After}
use Rattle.paper.specs.Recipe.{Planned, cells_of_all}
use Rattle.paper.specs.Values.{values, no_array}
use Rattle.paper.specs.Listing.{planned, bytes_of_all, result_bytes, last_shape, row_bytes, listed, work_after, run_tests, run_after, run, list_tests, page_tests, Paged, page_values, page_of, page_after, page}
use Rattle.laws.specs.Tests.{no-refusal, got-one, bind-got, none-refused, between-true}
use Rattle.laws.specs.Results.{values-full, last-shape, nine-t}
use Rattle.laws.specs.Rows.{rows_of, length-rows}
use Rattle.laws.specs.Late.{Either, values-late}
use Rattle.theorems.specs.Early.{Early, run-early, page-early}

-- what a call goes on with, once its tests hold: the bundle's arrays and the recipe's steps
abbrev Tested : Type 0
Tested = List Array × List Planned

tested : (m : Res Tested) (f : Tested → Res (Unit {0})) (t : Tested) → (m >>= (λ x. f x >> Ok x)) ≡ Ok t → m ≡ Ok t
tested m f t e = let a = bind-got m _ t e in a.1 ∙ (bind-got (f a.0) _ t a.2).2

-- bytes put over a buffer's first n: they come first, and the rest stays
put-over : (bs buffer : List ℕ) (n : ℕ) → length bs ≡ n → (take n (over bs buffer) ≡ bs) × (drop n (over bs buffer) ≡ drop n buffer)
put-over bs buffer n e =
    let rest = drop (length bs) buffer in
    (take_at bs rest n e, drop_at bs rest n e ∙ ap (λ (i : ℕ). drop i buffer) e)

-- so after the rows of a page
rows_stay : (A : Array) (start : ℕ) (rows work : List ℕ) (l : Listed) → (page_of A start rows work).answer ≡ Ok l
    → drop (l.written * row_bytes A.shape) (page_of A start rows work).rows ≡ drop (l.written * row_bytes A.shape) rows
unfolding page_of
rows_stay A start rows work l d =
    let os = listed A start (length rows / row_bytes A.shape) in
    let n = length-rows A.shape os ∙ ap (λ (x : Listed). x.written * row_bytes A.shape) (got-one _ l d) in
    (put-over (rows_of A.shape os) rows _ n).1

module _ (bundle recipe work : List ℕ) where
  -- ---- the three ways out of a call

  -- by what its tests say: they refuse, or the values do, or neither
  data Way : Res Tested → Type 0 where
    early : (r : Refusal) → (1 ≤ r.number) × (r.number ≤ bad_page11) → Way (Err r)
    late : (t : Tested) (r : Refusal) → planned bundle recipe ≡ Ok t → values t.0 t.1 ≡ Err r → Way (Ok t)
    well : (t : Tested) (Rs : List Array) → planned bundle recipe ≡ Ok t → values t.0 t.1 ≡ Ok Rs → Way (Ok t)

  way : (m : Res Tested) → Early m → ((t : Tested) → m ≡ Ok t → planned bundle recipe ≡ Ok t) → Way m
  way (Err r) h f = early r (between-true bad_page11 r.number (h.early r refl))
  way (Ok t) h f = by (values t.0 t.1) refl
    where
      by : (v : Res (List Array)) → values t.0 t.1 ≡ v → Way (Ok t)
      by (Ok Rs) q = well t Rs (f t refl) q
      by (Err r) q = late t r (f t refl) q

  run-way : Way (run_tests bundle recipe work)
  unfolding run_tests
  run-way =
      way _ (run-early bundle recipe work)
      (tested (planned bundle recipe) (λ t. ensure (leb (bytes_of_all t.1) (length work)) small_work10 0))

  page-way : (start : ℕ) (rows : List ℕ) → Way (page_tests bundle recipe work start rows)
  unfolding page_tests
  page-way start rows =
      way _ (page-early bundle recipe work start rows)
      (tested (planned bundle recipe) (λ t. list_tests t.1 (length work) start (length rows)))

  -- ---- calls that are refused

  -- 1 to 11, and the work area after is untouched; or the values' 12 or 13, its first 9T bytes are zero, and all else is untouched
  pub data Spared (after : List ℕ) (r : Refusal) : Type 0 where
    before : (1 ≤ r.number) × (r.number ≤ bad_page11) → after ≡ work → Spared after r
    within-values : (As : List Array) (ps : List Planned) → planned bundle recipe ≡ Ok (As, ps) → values As ps ≡ Err r
        → Either r.number → after ≡ over (replicate (bytes_of_all ps) 0) work → Spared after r

  zeroed : (t : Tested) (r : Refusal) → planned bundle recipe ≡ Ok t → values t.0 t.1 ≡ Err r
      → Spared (over (replicate (bytes_of_all t.1) 0) work) r
  zeroed t r p q = within-values t.0 t.1 p q (values-late t.1 1 t.0 [] r q) refl

  -- every refusal of a run is one of the two
  pub run-refused : (r : Refusal) → (run bundle recipe work).answer ≡ Err r → Spared (run bundle recipe work).buffer r
  unfolding work_after run_after
  run-refused r e = by run-way e
    where
      by : {m : Res Tested} → Way m → (run_after work m).answer ≡ Err r → Spared (run_after work m).buffer r
      by (early x n) d = let z : x ≡ r = cc in before (rw z at n) refl
      by (late t x p q) d = let z : x ≡ r = cc in rw q (rw z at (zeroed t x p q))
      by (well t Rs p q) d = absurd (none-refused _ r (rw q at d))

  -- and of a page, which leaves its rows untouched
  pub page-refused : (start : ℕ) (rows : List ℕ) (r : Refusal) → (page bundle recipe work start rows).answer ≡ Err r
      → Spared (page bundle recipe work start rows).work r × ((page bundle recipe work start rows).rows ≡ rows)
  unfolding work_after page_after page_values page_of
  page-refused start rows r e = by (page-way start rows) e
    where
      by : {m : Res Tested} → Way m → (page_after work start rows m).answer ≡ Err r
          → Spared (page_after work start rows m).work r × ((page_after work start rows m).rows ≡ rows)
      by (early x n) d = let z : x ≡ r = cc in (before (rw z at n) refl, refl)
      by (late t x p q) d = let z : x ≡ r = cc in rw q (rw z at (zeroed t x p q), refl)
      by (well t Rs p q) d = absurd (none-refused _ r (rw q at d))

  -- ---- calls that are accepted

  -- the work area begins with the results of the steps ps, 9T bytes, and the bytes after these stay
  pub record HoldsResults (ps : List Planned) (after : List ℕ) : Type 0 where
    pub arrays : List Array
    pub results : List Array
    pub accepted : planned bundle recipe ≡ Ok (arrays, ps)
    pub valued : values arrays ps ≡ Ok results
    pub begins : take (bytes_of_all ps) after ≡ result_bytes results
    pub stays : drop (bytes_of_all ps) after ≡ drop (bytes_of_all ps) work

  holds : (t : Tested) (Rs : List Array) → planned bundle recipe ≡ Ok t → values t.0 t.1 ≡ Ok Rs
      → HoldsResults t.1 (over (result_bytes Rs) work)
  holds t Rs p q =
      let o = put-over (result_bytes Rs) work (bytes_of_all t.1) (nine-t t.0 t.1 Rs q) in
      record { arrays = t.0; results = Rs; accepted = p; valued = q; begins = o.0; stays = o.1 }

  -- a run: so of its work area, and it answers T
  pub record AcceptedRun (p : After) (T : ℕ) : Type 0 where
    pub steps : List Planned
    pub holding : HoldsResults steps p.buffer
    pub says : T ≡ cells_of_all steps

  -- every accepted run
  pub run-accepted : (T : ℕ) → (run bundle recipe work).answer ≡ Ok T → AcceptedRun (run bundle recipe work) T
  unfolding run_after work_after
  run-accepted T e = by run-way e
    where
      by : {m : Res Tested} → Way m → (run_after work m).answer ≡ Ok T → AcceptedRun (run_after work m) T
      by (early x n) d = absurd (no-refusal x T d)
      by (late t x p q) d = absurd (no-refusal x T (rw q at d))
      by (well t Rs p q) d = record { steps = t.1; holding = rw q (holds t Rs p q); says = sym (got-one _ T (rw q at d)) }

  -- a page: so of its work area, and the bytes after its rows stay
  pub record AcceptedPage (rows : List ℕ) (p : Paged) (l : Listed) : Type 0 where
    pub steps : List Planned
    pub holding : HoldsResults steps p.work
    pub after-rows : drop (l.written * row_bytes (last_shape steps)) p.rows ≡ drop (l.written * row_bytes (last_shape steps)) rows

  -- every accepted page
  pub page-accepted : (start : ℕ) (rows : List ℕ) (l : Listed) → (page bundle recipe work start rows).answer ≡ Ok l
      → AcceptedPage rows (page bundle recipe work start rows) l
  unfolding page_after page_values page_of work_after
  page-accepted start rows l e = by (page-way start rows) e
    where
      by : {m : Res Tested} → Way m → (page_after work start rows m).answer ≡ Ok l → AcceptedPage rows (page_after work start rows m) l
      by (early x n) d = absurd (no-refusal x l d)
      by (late t x p q) d = absurd (no-refusal x l (rw q at d))
      by (well t Rs p q) d =
          let s = last-shape t.1 Rs (values-full t.1 1 t.0 [] Rs q) in
          let o = rows_stay (last_of no_array Rs) start rows work l (rw q at d) in
          record { steps = t.1; holding = rw q (holds t Rs p q); after-rows = rw (q, ← s) o }
