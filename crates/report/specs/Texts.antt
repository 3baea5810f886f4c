-- The text is the paper's. A page's tests look at the lengths of the work area and the row buffer alone; a row buffer for every cell
-- holds the rows of all TRUE cells from the first on; and the lines of these rows are the paper's.
use Rattle.std.specs.Prelude.{ℕ, suc, ◌+◌, ◌*◌, ◌/◌, ◌≤◌, ◌<◌, ◌≡◌, Bool, true, false, ◌||◌, leb, ltb, length, take, drop, replicate, if◌then◌else◌, Ok, Err}
use Rattle.std.proofs.Math.Path.{refl, sym, ap, ap₂}
use Rattle.std.proofs.Common.{subst, ◌∙◌, arith, div-lt_iff_lt-mul, length-append, take_all, take_at}
use mathlib.Core.List.{List, [], ◌∷◌, ◌++◌}
use borrow.Author.Tests.{lt-ltb, le-ltb, leb-true, leb-false}
use Rattle.std.proofs.lemmas.List.{length-replicate}
use Rattle.paper.specs.declared.Cell.{Cell}
use Rattle.paper.specs.declared.Listed.{Listed}
use Rattle.paper.specs.declared.Refusal.{Refusal}
use Rattle.paper.specs.Limits.{most_axes, most_cells}
use Rattle.paper.specs.Refusals.{Res, ◌>>=◌}
use Rattle.paper.specs.Numbers.{text, over, last_of}
use Rattle.paper.specs.Axes.{cells, Shape, Array}
use Rattle.paper.specs.Cells.{is_true, trues}
use Rattle.paper.specs.Recipe.{Planned}
use Rattle.paper.specs.Values.{values, no_array}
use Rattle.paper.specs.Listing.{planned, last_shape, row_bytes, list_tests, page_tests, listed, Paged, page_of, page_values, page_after, page}
use Rattle.paper.specs.Rests.{most_bytes, all_rows, refused_text, printed, rests}
use Rattle.laws.specs.Tests.{no-refusal, none-refused, got-one, bind-got}
use Rattle.laws.specs.Limits.{limits-true}
use Rattle.laws.specs.Pages.{trues-no, trues-yes}
use Rattle.laws.specs.Rows.{rows_of, length-rows}
use Rattle.laws.specs.Results.{AsPlanned, values-full, planned-good, last-shape, last-whole, extent-good}
use Rattle.decimal.specs.Wrote.{Wrote}
use Rattle.decimal.specs.Lines.{most_found, found_line, found-text}
use Rattle.decimal.specs.Rows.{most_row}
use Rattle.report.specs.Rows.{size_of, listing_at, Between, rows-lines}
use Rattle.run.specs.declared.PageRows.{PageRows}
use Rattle.run.specs.Calls.{RowAxes}

-- the bytes that a text takes at most
abbrev pub most_text : ℕ
most_text = most_found + most_cells * most_row most_axes

-- a file is over its most bytes
abbrev pub too_long : List ℕ → List ℕ → Bool
too_long B R = ltb most_bytes (length B) || ltb most_bytes (length R)

-- what is left in the lent bytes: the text, and after it what stood there; work area and rows as a page call from 1 leaves them, and
-- untouched where a file is too long
pub record Left (B R W L D work-after rows-after out-after : List ℕ) : Type 0 where
  pub work : work-after ≡ (if too_long B R then W else (page B R W 1 L).work)
  pub rows : rows-after ≡ (if too_long B R then L else (page B R W 1 L).rows)
  pub out : out-after ≡ over (rests B R) D

-- the text printed, r bytes at the beginning, and what is left
abbrev pub Reported : List ℕ → List ℕ → List ℕ → List ℕ → List ℕ → ℕ → List ℕ → List ℕ → List ℕ → Type 0
Reported B R W L D r work-after rows-after out-after = (take r out-after ≡ rests B R) × (r ≤ length out-after) × Left B R W L D work-after rows-after out-after

-- a text put at the beginning stands there
first-text : (d x : List ℕ) (r : ℕ) (y t : List ℕ) → Wrote d 0 x r y → x ≡ t → (take r y ≡ t) × (r ≤ length y) × (y ≡ over t d)
first-text d x r y t w e =
    let l : length x ≡ r = omega (arith, w.0) in
    let n : 0 + length x ≡ length x = omega arith in
    let z : y ≡ over x d = w.1 ∙ ap (λ (i : ℕ). x ++ drop i d) n in
    (ap (take r) z ∙ take_at x (drop (length x) d) r l ∙ e, omega (arith, w.0, ap length z, length-append x (drop (length x) d)), z ∙ ap (λ (v : List ℕ). over v d) e)

-- ---- too long

module _ (B R W L D : List ℕ) (r : ℕ) (out-after : List ℕ) (w : Wrote D 0 (text "too long\n") r out-after) where
  long-text : too_long B R ≡ true → Reported B R W L D r W L out-after
  unfolding rests
  long-text h = let t = first-text D (text "too long\n") r out-after (rests B R) w (rw h refl) in (t.0, t.1, record { work = rw h refl; rows = rw h refl; out = t.2 })

  pub long-bundle : most_bytes < length B → Reported B R W L D r W L out-after
  long-bundle h = long-text (rw (lt-ltb most_bytes (length B) h) refl)

  pub long-recipe : length B ≤ most_bytes → most_bytes < length R → Reported B R W L D r W L out-after
  long-recipe h k = long-text (rw (le-ltb most_bytes (length B) h, lt-ltb most_bytes (length R) k) refl)

-- ---- the tests look at lengths alone

tests_same : (B R W₀ L₀ W L : List ℕ) (start : ℕ) → length W₀ ≡ length W → length L₀ ≡ length L
    → page_tests B R W₀ start L₀ ≡ page_tests B R W start L
unfolding page_tests
tests_same B R W₀ L₀ W L start e f = rw (e, f) refl

-- the values, where the tests are passed
abbrev values_of : Res (List Array × List Planned) → Res (List Array)
values_of t = t >>= (λ x. values x.0 x.1)

tests-planned : (B R W L : List ℕ) (start : ℕ) (As : List Array) (ps : List Planned) → page_tests B R W start L ≡ Ok (As, ps)
    → planned B R ≡ Ok (As, ps)
unfolding page_tests
tests-planned B R W L start As ps e =
    let a = bind-got (planned B R) _ (As, ps) e in
    let b = bind-got (list_tests a.0.1 (length W) start (length L)) _ (As, ps) a.2 in
    a.1 ∙ ap Ok (got-one a.0 (As, ps) b.2)

-- ---- what a page says

same-refusal : {A : Type 0} (x y : Refusal) → ◌≡◌ {A = Res A} (Err x) (Err y) → x ≡ y
same-refusal x y e = cc

-- a refusal
values-refused : (v : Res (List Array)) (ps : List Planned) (W L : List ℕ) (r : Refusal) → Err r ≡ (page_values ps W 1 L v).answer
    → refused_text r ≡ printed v
unfolding page_values page_of printed
values-refused (Ok Rs) ps W L r e = absurd (no-refusal r _ e)
values-refused (Err x) ps W L r e = ap refused_text (same-refusal r x e)

page-refused : (t : Res (List Array × List Planned)) (W L : List ℕ) (r : Refusal) → Err r ≡ (page_after W 1 L t).answer
    → refused_text r ≡ printed (values_of t)
unfolding page_after printed
page-refused (Ok x) W L r e = values-refused (values x.0 x.1) x.1 W L r e
page-refused (Err x) W L r e = ap refused_text (same-refusal r x e)

-- a listing of n rows
record Told (t : Res (List Array × List Planned)) (L : List ℕ) (n : ℕ) (rows : List ℕ) : Type 0 where
  As : List Array
  ps : List Planned
  Rs : List Array
  tests : t ≡ Ok (As, ps)
  valued : values As ps ≡ Ok Rs
  count : n ≡ length (listed (last_of no_array Rs) 1 (length L / row_bytes (last_of no_array Rs).shape))
  bytes : rows ≡ over (rows_of (last_of no_array Rs).shape (listed (last_of no_array Rs) 1 (length L / row_bytes (last_of no_array Rs).shape))) L

module _ (W L : List ℕ) (l : Listed) (w rows : List ℕ) where
  values-told : (As : List Array) (ps : List Planned) (v : Res (List Array)) → values As ps ≡ v
      → record { answer = Ok l; work = w; rows = rows } ≡ page_values ps W 1 L v → Told (Ok (As, ps)) L l.written rows
  unfolding page_values page_of
  values-told As ps (Ok Rs) q e = record {
    As = As;
    ps = ps;
    Rs = Rs;
    tests = refl;
    valued = q;
    count = ap (λ (x : Listed). x.written) (got-one l _ (ap (λ (p : Paged). p.answer) e));
    bytes = ap (λ (p : Paged). p.rows) e;
  }
  values-told As ps (Err x) q e = absurd (none-refused l x (ap (λ (p : Paged). p.answer) e))

  page-told : (t : Res (List Array × List Planned)) → record { answer = Ok l; work = w; rows = rows } ≡ page_after W 1 L t
      → Told t L l.written rows
  unfolding page_after
  page-told (Ok x) e = values-told x.0 x.1 (values x.0 x.1) refl e
  page-told (Err x) e = absurd (none-refused l x (ap (λ (p : Paged). p.answer) e))

-- ---- all TRUE cells

trues-few : (cs : List Cell) (o : ℕ) → length (trues o cs) ≤ length cs
unfolding trues
trues-few [] o = omega arith
trues-few (c ∷ cs) o = by (is_true c) refl (trues-few cs (o + 1))
  where
    by : (b : Bool) → is_true c ≡ b → length (trues (o + 1) cs) ≤ length cs → length (trues o (c ∷ cs)) ≤ suc (length cs)
    by true q h = omega (arith, ap length (trues-yes o c cs q))
    by false q h = omega (arith, ap length (trues-no o c cs q))

trues-between : (cs : List Cell) (o n : ℕ) → 1 ≤ o → o + length cs ≤ n + 1 → Between 1 n (trues o cs)
unfolding trues
trues-between [] o n h k = tt
trues-between (c ∷ cs) o n h k = by (is_true c) refl (trues-between cs (o + 1) n (omega arith) (omega arith))
  where
    by : (b : Bool) → is_true c ≡ b → Between 1 n (trues (o + 1) cs) → Between 1 n (trues o (c ∷ cs))
    by true q v = subst (Between 1 n) (sym (trues-yes o c cs q)) (h, omega arith, v)
    by false q v = subst (Between 1 n) (sym (trues-no o c cs q)) v

-- room for all
room-all : (m n : ℕ) → 0 < m → most_cells * m ≤ n → most_cells ≤ n / m
room-all m n h l = by (leb most_cells (n / m)) refl
  where
    by : (b : Bool) → leb most_cells (n / m) ≡ b → most_cells ≤ n / m
    by true e = leb-true most_cells (n / m) e
    by false e = absurd (omega (arith, (div-lt_iff_lt-mul {x = n} {y = most_cells} h).0 (leb-false most_cells (n / m) e)))

listed-all : (A : Array) (n : ℕ) → length A.cells ≤ n → listed A 1 n ≡ trues 1 A.cells
unfolding listed
listed-all A n h = take_all n (trues 1 A.cells) (omega (arith, trues-few A.cells 1))

-- ---- the text of a listing

pub record Written (B R rows : List ℕ) (k n : ℕ) : Type 0 where
  pub few : n ≤ most_cells
  pub room : n * size_of k ≤ length rows
  pub is : listing_at rows k n ≡ rests B R

module _ (B R L rows : List ℕ) (n k : ℕ) (As : List Array) (ps : List Planned) (Rs : List Array) (e : planned B R ≡ Ok (As, ps))
    (v : values As ps ≡ Ok Rs)
    (h_l : length L ≡ all_rows) (f : k ≤ most_axes) (u : k ≡ length (last_shape ps).axes) where
  abbrev A : Array
  A = last_of no_array Rs

  abbrev s : Shape
  s = A.shape

  abbrev os : List ℕ
  os = trues 1 A.cells

  as-planned : AsPlanned ps Rs
  as-planned = values-full ps 1 As [] Rs v

  axes : k ≡ length s.axes
  axes = u ∙ ap (λ (x : Shape). length x.axes) (sym (last-shape ps Rs as-planned))

  whole : length A.cells ≡ cells s.axes
  whole = last-whole ps Rs (planned-good B R As ps e) as-planned

  small : cells s.axes ≤ most_cells
  small = (extent-good B R As ps Rs e v).1

  -- the row buffer has room for all of them
  all_listed : listed A 1 (length L / row_bytes s) ≡ os
  all_listed = listed-all A (length L / row_bytes s) (omega (arith, whole, small, room-all (row_bytes s) (length L) (omega arith) (omega (arith, h_l, axes))))

  module _ (c : n ≡ length os) (b : rows ≡ over (rows_of s os) L) where
    few-rows : n ≤ most_cells
    few-rows = omega (arith, trues-few A.cells 1, whole, small)

    room-rows : n * size_of k ≤ length rows
    room-rows =
        let z : size_of k ≡ row_bytes s = omega (arith, axes) in
        let m : n * size_of k ≡ length os * row_bytes s = ap₂ (λ (i j : ℕ). i * j) c z in
        omega (arith, m, ap length b, length-append (rows_of s os) (drop (length (rows_of s os)) L), length-rows s os)

    listing-is : listing_at rows k n ≡ printed (Ok Rs)
    unfolding printed
    listing-is =
        let i = trues-between A.cells 1 (cells s.axes) (omega arith) (omega (arith, whole)) in
        let r = rows-lines s os rows 0 (drop (length (rows_of s os)) L) (limits-true s.axes (extent-good B R As ps Rs e v).0) small i b in
        ap₂ (λ (x y : ℕ). listing_at rows x y) axes c ∙ ap (λ (l : List ℕ). found_line (length os) ++ l) r ∙ sym (found-text A os)

-- ---- the text of a page

module _ (B R W L : List ℕ) (h_b : length B ≤ most_bytes) (h_r : length R ≤ most_bytes) (h_w : length W ≡ most_bytes)
    (h_l : length L ≡ all_rows) where
  rests-is : rests B R ≡ printed (values_of (page_tests B R W 1 L))
  unfolding rests
  rests-is =
      let e = tests_same B R (replicate most_bytes 0) (replicate all_rows 0) W L 1 (length-replicate {A = ℕ} most_bytes 0 ∙ sym h_w) (length-replicate {A = ℕ} all_rows 0 ∙ sym h_l) in
      rw (le-ltb most_bytes (length B) h_b, le-ltb most_bytes (length R) h_r) (ap (λ (t : Res (List Array × List Planned)). printed (values_of t)) e)

  pub refused-text : {w rows : List ℕ} {x : Refusal} → record { answer = Err x; work = w; rows = rows } ≡ page B R W 1 L
      → refused_text x ≡ rests B R
  refused-text {x = x} e = page-refused (page_tests B R W 1 L) W L x (ap (λ (p : Paged). p.answer) e) ∙ sym rests-is

  module _ (r : PageRows) (w rows : List ℕ) (e : record { answer = Ok r.listed; work = w; rows = rows } ≡ page B R W 1 L) where
    pub listing-text : RowAxes B R r → Written B R rows r.axes r.listed.written
    listing-text n =
        let x : Listed = r.listed in
        let t = page-told W L x w rows (page_tests B R W 1 L) e in
        let p = tests-planned B R W L 1 t.As t.ps t.tests in
        let k = r.axes in
        let u : k ≡ length (last_shape t.ps).axes = rw p at n.same in
        let A : Array = last_of no_array t.Rs in
        let o = all_listed B R L rows x.written k t.As t.ps t.Rs p t.valued h_l n.few u in
        let c : x.written ≡ length (trues 1 A.cells) = t.count ∙ ap length o in
        let b : rows ≡ over (rows_of A.shape (trues 1 A.cells)) L = t.bytes ∙ ap (λ (os : List ℕ). over (rows_of A.shape os) L) o in
        let y : printed (Ok t.Rs) ≡ rests B R = sym (rests-is ∙ ap (λ (r : Res (List Array × List Planned)). printed (values_of r)) t.tests ∙ ap printed t.valued) in
        record {
          few = few-rows B R L rows x.written k t.As t.ps t.Rs p t.valued h_l n.few u c b;
          room = room-rows B R L rows x.written k t.As t.ps t.Rs p t.valued h_l n.few u c b;
          is = listing-is B R L rows x.written k t.As t.ps t.Rs p t.valued h_l n.few u c b ∙ y;
        }

  -- the text of a page's answer, written
  pub paged-text : (D x : List ℕ) (r : ℕ) (answer : Res Listed) (work-after rows-after out-after : List ℕ)
      → record { answer = answer; work = work-after; rows = rows-after } ≡ page B R W 1 L
      → Wrote D 0 x r out-after → x ≡ rests B R → Reported B R W L D r work-after rows-after out-after
  paged-text D x r answer work-after rows-after out-after e w q =
      let h : too_long B R ≡ false = rw (le-ltb most_bytes (length B) h_b, le-ltb most_bytes (length R) h_r) refl in
      let t = first-text D x r out-after (rests B R) w q in
      (t.0, t.1, record { work = rw h (ap (λ (p : Paged). p.work) e); rows = rw h (ap (λ (p : Paged). p.rows) e); out = t.2 })
