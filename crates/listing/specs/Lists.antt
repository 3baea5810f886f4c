-- A page row after row: the rows of the TRUE cells met so far stand in the buffer, and with those that are still to be met there are as
-- many as there is room for. The loop ends with the buffer full or the cells used up, and in both cases goes on where it stands.
use Prim.Native.Nat.{ℕ, suc, ◌+◌, ◌-◌, ◌*◌, ◌/◌, ◌≤◌, ◌<◌}
use Rattle.std.specs.Prelude.{◌≡◌, Bool, drop, get_or, if◌then◌else◌, Ok}
use Rattle.std.proofs.Math.Path.{refl, sym, ap, ap₂}
use Rattle.std.proofs.Common.{◌∙◌, suc-mul, mul-le-mul_right, div-mul-le_self, le-div_iff_mul-le, add-one, length-append, drop_of_length-le, take_at, drop_at, take_all, drop-cons, drop-drop}
use Rattle.std.proofs.Math.Bool.{true, false}
use mathlib.Core.List.{List, [], ◌∷◌, ◌++◌, map, append_assoc, append-nil}
use native.Mathlib.Omega.{arith}
use borrow.Author.Tests.{eqb-true, eqb-false}
use Rattle.std.proofs.Math.Dec.{eqb}
use Rattle.std.proofs.Math.ListN.{length, take}
use Rattle.std.proofs.Math.Seq.{paste, length-paste, take-nil}
use Rattle.paper.specs.declared.Axis.{Axis}
use Rattle.paper.specs.declared.Cell.{Cell}
use Rattle.paper.specs.declared.Cell.TheVariants.{Empty}
use Rattle.paper.specs.declared.Listed.{Listed}
use Rattle.paper.specs.Limits.{BOOLEAN, limit_bytes, cell_bytes}
use Rattle.paper.specs.Numbers.{part, le_bytes, position_bytes, last_of, concat, over}
use Rattle.paper.specs.Axes.{cells, coordinate, Shape, Array}
use Rattle.paper.specs.Cells.{cell_of, is_true, trues}
use Rattle.paper.specs.Listing.{row_bytes, row, listed, go_on, Paged, page_of}
use Rattle.laws.specs.Judged.{or_empty, cells_from, cell-no, length-cells}
use Rattle.extent.specs.Judged.{Small}
use Rattle.laws.specs.Rows.{concat-map, rows_of, length-rows}
use Rattle.laws.specs.Pages.{trues-yes, trues-no}
use Rattle.listing.specs.Rows.{nameless}

-- what was tested before: the extent is good, its n cells lie in the bytes, the start is in range, a row has room
pub record Listable (E : List Axis) (at n start : ℕ) (work rows : List ℕ) : Type 0 where
  pub small : Small E
  pub number : n ≡ cells E
  pub lies : at + cells E * cell_bytes ≤ length work
  pub from : 1 ≤ start
  pub upto : start ≤ cells E + 1
  pub room : limit_bytes + limit_bytes * length E ≤ length rows

-- the page of any array with these axes whose cells are those bytes' cells
pub record ListedAs (work : List ℕ) (at : ℕ) (E : List Axis) (start : ℕ) (rows : List ℕ) (r : Listed) (after : List ℕ) : Type 0 where
  pub page : (A : Array) (w : List ℕ) → A.shape.axes ≡ E → A.cells ≡ cells_from BOOLEAN (cells E) (drop at work)
      → page_of A start rows w ≡ record { answer = Ok r; work = w; rows = after }

-- ---- the next cell

cell-next : (t n at k : ℕ) (bs : List ℕ) → k < n
    → drop k (cells_from t n (drop at bs))
    ≡ or_empty (cell_of t (part (at + k * cell_bytes) cell_bytes bs)) ∷ drop (k + 1) (cells_from t n (drop at bs))
cell-next t n at k bs h =
    let cs = cells_from t n (drop at bs) in
    let c : get_or (cells_from t n (drop at bs)) k Empty ≡ or_empty (cell_of t (part (at + k * cell_bytes) cell_bytes bs)) =
    cell-no n t k (drop at bs) h ∙ ap (λ (x : List ℕ). or_empty (cell_of t (take cell_bytes x))) (drop-drop (k * cell_bytes) at bs) in
    drop-cons cs k Empty (omega (arith, length-cells t n (drop at bs))) ∙ ap₂ (λ (x : Cell) (j : ℕ). x ∷ drop j cs) c (sym (add-one k))

-- ---- the loop: k cells passed, w rows written

pub record Going (s : Shape) (cs : List Cell) (first room : ℕ) (d₀ d : List ℕ) (k w : ℕ) : Type 0 where
  pub done : List ℕ
  pub many : w ≡ length done
  pub all : done ++ take (room - w) (trues (k + 1) (drop k cs)) ≡ take room (trues (first + 1) (drop first cs))
  pub rows : d ≡ over (rows_of s done) d₀
  pub long : length d ≡ length d₀
  pub turns : k ≤ length cs
  pub fewer : w ≤ k
  pub fits : w ≤ room
  pub last : room ≤ w → last_of 0 done ≡ k

last_one : (l : List ℕ) (a x : ℕ) → last_of a (l ++ (x ∷ [])) ≡ x
unfolding last_of
last_one [] a x = refl
last_one (y ∷ l) a x = last_one l y x

-- bytes put after those that stand over a buffer
over-more : (bs x d : List ℕ) (at n : ℕ) → at ≡ length bs → n ≡ length x → paste (over bs d) at x n ≡ over (bs ++ x) d
over-more bs x d at n e f =
    let t : take at (over bs d) ≡ bs = take_at bs (drop (length bs) d) at (sym e) in
    let r : drop at (over bs d) ≡ drop (length bs) d = drop_at bs (drop (length bs) d) at (sym e) in
    let q : length bs + n ≡ length (bs ++ x) = omega (arith, length-append bs x) in
    let u : drop (at + n) (over bs d) ≡ drop (length (bs ++ x)) d =
    sym (drop-drop n at (over bs d)) ∙ ap (drop n) r ∙ drop-drop n (length bs) d ∙ ap (λ (j : ℕ). drop j d) q in
    rw (t, u, take_all n x (omega arith))

module _ (s : Shape) (cs : List Cell) (first room : ℕ) (d₀ : List ℕ) where
  pub going_start : first ≤ length cs → 1 ≤ room → Going s cs first room d₀ d₀ first 0
  unfolding concat
  going_start f g =
      let m : room - 0 ≡ room = omega arith in
      record {
        done = [];
        many = refl;
        all = rw m;
        rows = refl;
        long = refl;
        turns = f;
        fewer = omega arith;
        fits = omega arith;
        last = λ h. absurd (omega arith);
      }

  module _ (d : List ℕ) (k w : ℕ) (v : Going s cs first room d₀ d k w) (h : k < length cs) (g : w < room) (c : Cell)
      (q : drop k cs ≡ c ∷ drop (k + 1) cs) where
    -- a cell that is not TRUE
    pub going-no : is_true c ≡ false → Going s cs first room d₀ d (k + 1) w
    going-no t =
        let e : trues (k + 1) (drop k cs) ≡ trues (k + 1 + 1) (drop (k + 1) cs) =
        ap (trues (k + 1)) q ∙ trues-no (k + 1) c (drop (k + 1) cs) t in
        record {
          done = v.done;
          many = v.many;
          all = ap (λ (l : List ℕ). v.done ++ take (room - w) l) (sym e) ∙ v.all;
          rows = v.rows;
          long = v.long;
          turns = omega arith;
          fewer = omega (arith, v.fewer);
          fits = v.fits;
          last = λ f. absurd (omega arith);
        }

    -- a TRUE one, whose row was put
    pub going-yes : is_true c ≡ true → w * row_bytes s + row_bytes s ≤ length d₀ → (y : List ℕ)
        → y ≡ paste d (w * row_bytes s) (row s (k + 1)) (row_bytes s) → Going s cs first room d₀ y (k + 1) (w + 1)
    unfolding concat
    going-yes t f y p =
        let e : trues (k + 1) (drop k cs) ≡ (k + 1) ∷ trues (k + 1 + 1) (drop (k + 1) cs) =
        ap (trues (k + 1)) q ∙ trues-yes (k + 1) c (drop (k + 1) cs) t in
        let m : room - w ≡ suc (room - (w + 1)) = omega arith in
        let n : take (room - w) (trues (k + 1) (drop k cs)) ≡ (k + 1) ∷ take (room - (w + 1)) (trues (k + 1 + 1) (drop (k + 1) cs)) =
        rw (e, m) in
        let l : row_bytes s ≡ length (row s (k + 1)) = omega (arith, length-rows s ((k + 1) ∷ []), ap length (append-nil (row s (k + 1)))) in
        let b : rows_of s v.done ++ row s (k + 1) ≡ rows_of s (v.done ++ ((k + 1) ∷ [])) =
        ap (λ (x : List ℕ). rows_of s v.done ++ x) (sym (append-nil (row s (k + 1)))) ∙ concat-map (row s) v.done ((k + 1) ∷ []) in
        record {
          done = v.done ++ ((k + 1) ∷ []);
          many = ap (λ (j : ℕ). j + 1) v.many ∙ sym (length-append v.done ((k + 1) ∷ []));
          all =
              append_assoc v.done ((k + 1) ∷ []) (take (room - (w + 1)) (trues (k + 1 + 1) (drop (k + 1) cs)))
              ∙ ap (λ (x : List ℕ). v.done ++ x) (sym n) ∙ v.all;
          rows =
              p ∙ ap (λ (x : List ℕ). paste x (w * row_bytes s) (row s (k + 1)) (row_bytes s)) v.rows
              ∙ over-more (rows_of s v.done) (row s (k + 1)) d₀ (w * row_bytes s) (row_bytes s)
              (ap (λ (j : ℕ). j * row_bytes s) v.many ∙ sym (length-rows s v.done)) l
              ∙ ap (λ (x : List ℕ). over x d₀) b;
          long =
              ap length p ∙ length-paste d (w * row_bytes s) (row s (k + 1)) (row_bytes s) (omega (arith, v.long)) (omega arith) ∙ v.long;
          turns = omega arith;
          fewer = omega (arith, v.fewer);
          fits = omega arith;
          last = λ r. last_one v.done 0 (k + 1);
        }

  -- ---- the end

  module _ (d : List ℕ) (k w : ℕ) (v : Going s cs first room d₀ d k w) where
    -- the buffer is full
    all-full : room ≤ w → v.done ≡ take room (trues (first + 1) (drop first cs))
    all-full h =
        let e : room - w ≡ 0 = omega arith in
        sym (append-nil v.done) ∙ (rw e at v.all)

    -- or no cell is left
    all-passed : length cs ≤ k → v.done ≡ take room (trues (first + 1) (drop first cs))
    unfolding trues
    all-passed h = sym (append-nil v.done) ∙ (rw (drop_of_length-le cs {i = k} h, take-nil {A = ℕ}) at v.all)

-- how a loop ends
pub data Ended (n room k w : ℕ) : Type 0 where
  full : room ≤ w → Ended n room k w
  passed : n ≤ k → Ended n room k w

-- ---- as the code has it: the cells from their bytes, the room from the buffer's length

-- rows of `size` bytes, w of which are written: one more has room
pub row_fits : (w size len : ℕ) → w < len / size → w * size + size ≤ len
row_fits w size len h = omega (arith, suc-mul w size, mul-le-mul_right size h, div-mul-le_self len size)

-- a buffer with room for a row
pub one-fits : (size len : ℕ) → 0 < size → size ≤ len → 1 ≤ len / size
one-fits size len p h = (le-div_iff_mul-le p).1 (omega arith)

-- the listing of n cells from `at` on
abbrev pub Listing : List ℕ → ℕ → ℕ → List Axis → ℕ → ℕ → List ℕ → List ℕ → ℕ → ℕ → Type 0
Listing work at n E first room d₀ d k w = Going (nameless E) (cells_from BOOLEAN n (drop at work)) first room d₀ d k w

-- a turn of the loop over cell k, which is TRUE where b says so: its row was put, or nothing was done
pub data Met (E : List Axis) (size : ℕ) (d : List ℕ) (k w : ℕ) (b : Bool) (y : List ℕ) (x : ℕ) : Type 0 where
  wrote : b ≡ true → y ≡ paste d (w * size) (row (nameless E) (k + 1)) (row_bytes (nameless E)) → x ≡ w + 1
      → Met E size d k w b y x
  skipped : b ≡ false → y ≡ d → x ≡ w → Met E size d k w b y x

module _ (work : List ℕ) (at n : ℕ) (E : List Axis) (first size : ℕ) (d₀ : List ℕ) (z : size ≡ row_bytes (nameless E)) where
  abbrev s : Shape
  s = nameless E

  abbrev cs : List Cell
  cs = cells_from BOOLEAN n (drop at work)

  long-cs : length (cells_from BOOLEAN n (drop at work)) ≡ n
  long-cs = length-cells BOOLEAN n (drop at work)

  pub list-start : first ≤ n → size ≤ length d₀ → Listing work at n E first (length d₀ / size) d₀ d₀ first 0
  list-start h g = going_start s cs first (length d₀ / size) d₀ (omega (arith, long-cs)) (one-fits size (length d₀) (omega arith) g)

  pub list-upto : {room : ℕ} {d : List ℕ} {k w : ℕ} → Listing work at n E first room d₀ d k w → k ≤ n
  list-upto v = omega (arith, v.turns, long-cs)

  -- a turn: what it finds and does, and the listing after it
  pub list-more : {d : List ℕ} {k w : ℕ} → Listing work at n E first (length d₀ / size) d₀ d k w → k < n → w < length d₀ / size
      → {b : Bool} → b ≡ is_true (or_empty (cell_of BOOLEAN (part (at + k * cell_bytes) cell_bytes work))) → {y : List ℕ} {x : ℕ}
      → Met E size d k w b y x
      → Listing work at n E first (length d₀ / size) d₀ y (k + 1) x
  list-more {d} {k} {w} v h g e (skipped f p q) =
      let t = sym e ∙ f in
      rw (p, q) (going-no s cs first (length d₀ / size) d₀ d k w v (omega (arith, long-cs)) g _ (cell-next BOOLEAN n at k work h) t)
  list-more {d} {k} {w} v h g e {y} (wrote f p q) =
      let t = sym e ∙ f in
      let r : w * row_bytes (nameless E) + row_bytes (nameless E) ≤ length d₀ = rw (← z) (row_fits w size (length d₀) g) in
      let o = p ∙ ap (λ (j : ℕ). paste d (w * j) (row s (k + 1)) (row_bytes s)) z in
      rw q (going-yes s cs first (length d₀ / size) d₀ d k w v (omega (arith, long-cs)) g _ (cell-next BOOLEAN n at k work h) t r y o)

-- a row tells of a shape's axes alone
row-axes : (s t : Shape) → s.axes ≡ t.axes → row s ≡ row t
unfolding row
row-axes s t e = ap {B = ℕ → List ℕ} (λ (E : List Axis) (o : ℕ). le_bytes limit_bytes o ++ concat (map position_bytes (coordinate E o))) e

-- an answer, by its parts
abbrev paged_as : ℕ → ℕ → List ℕ → List ℕ → Paged
paged_as w o u d = record { answer = Ok (record { written = w; next = record { 0 = o } }); work = u; rows = d }

module _ (work : List ℕ) (at n start : ℕ) (E : List Axis) (d₀ : List ℕ) {d : List ℕ} {room k w : ℕ} (h : n ≡ cells E) (b : 1 ≤ start)
    (g : room ≡ length d₀ / row_bytes (nameless E)) (v : Listing work at n E (start - 1) room d₀ d k w) (z : Ended n room k w) where
  abbrev held : List Cell
  held = cells_from BOOLEAN n (drop at work)

  from_start : take room (trues (start - 1 + 1) (drop (start - 1) held)) ≡ take room (trues start (drop (start - 1) held))
  from_start = let e : start - 1 + 1 ≡ start = omega arith in rw e

  all_done : Ended n room k w → v.done ≡ take room (trues start (drop (start - 1) held))
  all_done (full x) = all-full (nameless E) held (start - 1) room d₀ d k w v x ∙ from_start
  all_done (passed x) =
      all-passed (nameless E) held (start - 1) room d₀ d k w v (omega (arith, length-cells BOOLEAN n (drop at work))) ∙ from_start

  module _ (A : Array) (e : A.shape.axes ≡ E) where
    -- one past the last row's ordinality, which is where the loop stands; or all cells passed
    goes_on : go_on A room v.done ≡ k + 1
    unfolding go_on
    goes_on = by (eqb (length v.done) room) refl z
      where
        by : (b : Bool) → eqb (length v.done) room ≡ b → Ended n room k w
            → (if b then last_of 0 v.done + 1 else cells A.shape.axes + 1) ≡ k + 1
        by true q y = ap (λ (j : ℕ). j + 1) (v.last (omega (arith, eqb-true (length v.done) room q, v.many)))
        by false q (full x) = absurd (omega (arith, eqb-false (length v.done) room q, v.many, v.fits))
        by false q (passed x) = ap (λ (j : ℕ). j + 1) (ap cells e ∙ sym h ∙ omega (arith, v.turns, length-cells BOOLEAN n (drop at work)))

  pub listed-as : ListedAs work at E start d₀ (record { written = w; next = record { 0 = k + 1 } }) d
  unfolding page_of listed
  listed-as =
      record {
        page = λ A u e f.
            let m : length d₀ / row_bytes A.shape ≡ room =
            ap (λ (X : List Axis). length d₀ / (limit_bytes + limit_bytes * length X)) e ∙ sym g in
            let c : A.cells ≡ held = f ∙ ap (λ (j : ℕ). cells_from BOOLEAN j (drop at work)) (sym h) in
            let o : take (length d₀ / row_bytes A.shape) (trues start (drop (start - 1) A.cells)) ≡ v.done =
            ap₂ (λ (j : ℕ) (l : List Cell). take j (trues start (drop (start - 1) l))) m c ∙ sym (all_done z) in
            let r : over (rows_of A.shape v.done) d₀ ≡ d =
            ap (λ (f : ℕ → List ℕ). over (concat (map f v.done)) d₀) (row-axes A.shape (nameless E) e) ∙ sym v.rows in
            ap₂ (λ (j : ℕ) (os : List ℕ). paged_as (length os) (go_on A j os) u (over (rows_of A.shape os) d₀)) m o
            ∙ ap₂ (λ (x y : ℕ). paged_as x y u (over (rows_of A.shape v.done) d₀)) (sym v.many) (goes_on A e)
            ∙ ap (paged_as w (k + 1) u) r;
      }
