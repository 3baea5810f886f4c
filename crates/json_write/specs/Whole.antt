-- What the writer is given and what it leaves: rows of cells, the axes that are left, the whole text; and an array of a bundle written,
-- by the ways in which its judging can end.
use Rattle.std.specs.Prelude.{ℕ, zero, suc, ◌+◌, ◌-◌, ◌*◌, ◌^◌, ◌≤◌, ◌<◌, ◌≡◌, refl, false, List, [], ◌∷◌, ◌++◌, map, eqb, length, Some, Ok, Err}
use Rattle.std.proofs.Common.{sym, ap, subst, ◌∙◌, le_trans, arith, length-append, drop-drop}
use Rattle.std.proofs.Math.Nat.{zero-add}
use Rattle.laws.specs.Sizes.{fits}
use borrow.Author.Tests.{eq-eqb, ne_eqb, le-leb, lt-leb}
use Rattle.std.proofs.Math.ListN.{drop}
use Rattle.std.proofs.Math.Seq.{sets-eq}
use Rattle.paper.specs.declared.Version.{Version}
use Rattle.paper.specs.declared.Sizes.{Sizes}
use Rattle.paper.specs.declared.Axis.{Axis}
use Rattle.paper.specs.declared.Cell.{Cell}
use Rattle.paper.specs.declared.Head.{Head}
use Rattle.paper.specs.declared.Refusal.{Refusal}
use Rattle.paper.specs.Limits.{FLOAT, most_axes, most_cells, cell_bytes, sizes_of}
use Rattle.paper.specs.Refusals.{Res, refusal, present, unknown4, unfit7, small_output14}
use Rattle.paper.specs.Numbers.{text, from, part, nth}
use Rattle.paper.specs.Axes.{width, cells, Array}
use Rattle.paper.specs.Cells.{cell_of}
use Rattle.paper.specs.Bundle.{version_in, sizes_in, put_into, read_bundle}
use Rattle.paper.specs.Reference.{chosen}
use Rattle.paper.specs.Answers.{axes_of}
use Rattle.paper.specs.Json.{json_text, written, write_json}
use Rattle.laws.specs.Numbers.{Bytes}
use Rattle.laws.specs.Tests.{between-true, some_one, no_none, bind-got, present-got}
use Rattle.laws.specs.Judged.{or_empty, cells_from}
use Rattle.laws.specs.Limits.{Sound}
use Rattle.roundtrip.specs.Valid.{Valid, EachValid}
use Rattle.roundtrip.proofs.Reading.{bundle-read}
use Rattle.extent.specs.Judged.{Small, good-small}
use Rattle.bundle.specs.Read.{array_at}
use Rattle.refer.specs.Chosen.{ItsHead}
use Rattle.json_write.specs.Stores.{Stored, stored-then}
use Rattle.json_write.specs.Texts.{row_of, cell_on, axes_on, size_left, axis_left, text_left, text-one, text-more, size-one, size-more, all_left}
use Rattle.json_write.specs.Lengths.{marks, cells_long, json-long, json-short}
use Rattle.json_write.specs.Rows.{Rowing, row_at, row-cell, shut-cell, shut_row}

-- ---- cells by their index

-- cell i, from 0, of those that begin at byte `at`
abbrev pub cell_by : List ℕ → ℕ → ℕ → ℕ → Cell
cell_by bs at t i = or_empty (cell_of t (part (at + i * cell_bytes) cell_bytes bs))

cells-by : (bs : List ℕ) (at t i n : ℕ) → cells_from t n (drop (at + i * cell_bytes) bs) ≡ map (cell_by bs at t) (from i n)
unfolding cells_from from
cells-by bs at t i zero = refl
cells-by bs at t i (suc n) =
    let e : at + i * cell_bytes + cell_bytes ≡ at + suc i * cell_bytes = omega arith in
    ap (λ (l : List Cell). cell_by bs at t i ∷ l) (rw (drop-drop, e) (cells-by bs at t (suc i) n))

-- the whole text
abbrev pub json_at : List ℕ → ℕ → ℕ → List Axis → List ℕ
json_at bs at t E = json_text E (cells_from t (cells E) (drop at bs))

-- ---- a row of cells

-- w cells from a cell on: they lie in the bytes, and there is room for their text
pub record RowReady (bs : List ℕ) (at t w begin cell room : ℕ) : Type 0 where
  pub lies : at + (cell + w) * cell_bytes ≤ length bs
  pub fits : begin + length (row_of w (cell_on (cell_by bs at t)) 1 cell) ≤ room

pub record RowDrawn (bs : List ℕ) (at t w begin cell : ℕ) (out : List ℕ) (end next : ℕ) (last : List ℕ) : Type 0 where
  pub drawn : Stored out begin (row_of w (cell_on (cell_by bs at t)) 1 cell) end last
  pub goes : next ≡ cell + w

-- ---- the axes that are left

-- so many are left, one at least; their cells lie in the bytes, and there is room for their text
pub record TextFits (bs : List ℕ) (at t : ℕ) (E : List Axis) (left begin cell room : ℕ) : Type 0 where
  pub sound : Sound E
  pub some : 0 < left
  pub rank : left ≤ length E
  pub lies : at + (cell + size_left E left) * cell_bytes ≤ length bs
  pub fits : begin + length (text_left (cell_by bs at t) E left cell) ≤ room

-- the text was stored from `begin` on, and the next byte and the next cell are these
pub record Drawn (bs : List ℕ) (at t : ℕ) (E : List Axis) (left begin cell : ℕ) (out : List ℕ) (end next : ℕ) (last : List ℕ) : Type 0 where
  pub drawn : Stored out begin (text_left (cell_by bs at t) E left cell) end last
  pub goes : next ≡ cell + size_left E left

module _ {bs : List ℕ} {at t : ℕ} {E : List Axis} {left begin cell₀ room : ℕ} (r : TextFits bs at t E left begin cell₀ room) {w : ℕ}
    (e : w ≡ width (axis_left E left)) where
  -- one axis is left: its cells
  module _ (one : left ≡ 1) where
    one-text : text_left (cell_by bs at t) E left cell₀ ≡ row_of w (cell_on (cell_by bs at t)) 1 cell₀
    one-text = rw e (text-one E left r.rank (cell_by bs at t) one cell₀)

    one_size : size_left E left ≡ w
    one_size = rw e (size-one E left r.rank one)

    pub one-ready : RowReady bs at t w begin cell₀ room
    one-ready = record { lies = rw one_size at r.lies; fits = rw one-text at r.fits }

    pub one-drawn : {out last : List ℕ} {end next : ℕ} → RowDrawn bs at t w begin cell₀ out end next last
        → Drawn bs at t E left begin cell₀ out end next last
    one-drawn d = record { drawn = rw one-text d.drawn; goes = rw one_size d.goes }

  -- more are left: the row of the axes after the first
  module _ (more : left ≡ 1 → ⊥) where
    two : 1 < left
    two = omega (arith, r.some, more)

    more-text : text_left (cell_by bs at t) E left cell₀ ≡ row_of w (text_left (cell_by bs at t) E (left - 1)) (size_left E (left - 1)) cell₀
    more-text = rw e (text-more E left r.rank (cell_by bs at t) two cell₀)

    more-size : size_left E left ≡ w * size_left E (left - 1)
    more-size = rw e (size-more E left r.rank r.some)

    pub more-fits : begin + length (row_of w (text_left (cell_by bs at t) E (left - 1)) (size_left E (left - 1)) cell₀) ≤ room
    more-fits = rw more-text at r.fits

    module _ {out₀ out : List ℕ} {at₀ cell now n : ℕ}
        (x : Rowing out₀ (text_left (cell_by bs at t) E (left - 1)) (size_left E (left - 1)) w at₀ cell₀ out cell now n) where
      pub next-ready : at₀ ≡ begin + 1 → 0 < n → (m : ℕ) → m ≡ room → TextFits bs at t E (left - 1) now cell m
      next-ready a h m q =
          let l : at + (cell + size_left E (left - 1)) * cell_bytes ≤ length bs = omega (arith, r.lies, more-size, row-cell x h) in
          let f = row_at x begin room a more-fits h in
          record { sound = r.sound; some = omega (arith, two); rank = omega (arith, r.rank); lies = l; fits = omega (arith, f) }

      pub more-drawn : n ≤ 0 → (entry : List ℕ) {last : List ℕ} {end : ℕ} → Stored entry begin (91 ∷ []) at₀ out₀
          → Stored out now (93 ∷ []) end last → Drawn bs at t E left begin cell₀ entry end cell last
      more-drawn h entry p q = record { drawn = rw more-text (shut_row x h entry begin p q); goes = rw more-size (shut-cell x h) }

-- ---- the whole object

-- a good extent, by its limits and its number of cells, of one axis at least, whose cells lie in the bytes
pub record Whole (bs : List ℕ) (at : ℕ) (E : List Axis) : Type 0 where
  pub small : Small E
  pub some : 0 < length E
  pub rank : length E ≤ most_axes
  pub lies : at + cells E * cell_bytes ≤ length bs

module _ {bs : List ℕ} {at : ℕ} {E : List Axis} (v : Whole bs at E) where
  pub whole-sound : Sound E × (cells E ≤ most_cells)
  whole-sound = (v.small.sound, v.small.few)

  module _ (t : ℕ) where
    cells_are : cells_from t (cells E) (drop at bs) ≡ map (cell_by bs at t) (from 0 (cells E))
    cells_are = let e : at + 0 * cell_bytes ≡ at = omega arith in rw (← cells-by bs at t 0 (cells E), e)

    -- its length, and that it is short
    pub whole_long : length (json_at bs at t E) ≡ 9 + marks E + cells_long (cell_by bs at t) 0 (cells E)
    whole_long = rw cells_are (json-long (cell_by bs at t) E whole-sound.0 v.some)

    pub whole-short : length (json_at bs at t E) < 2 ^ 32
    whole-short = omega (arith, whole_long, json-short (cell_by bs at t) E whole-sound.0 v.rank whole-sound.1)

    module _ {room : ℕ} (h : length (json_at bs at t E) ≤ room) {rank : ℕ} (n : rank ≡ length E) where
      whole-text : text_left (cell_by bs at t) E rank 0 ≡ axes_on (cell_by bs at t) E 0
      whole-text = rw (n, all_left)

      pub whole-fits : 9 + length (text_left (cell_by bs at t) E rank 0) ≤ room
      whole-fits = rw whole-text (omega (arith, simp (cells_are, length-append) at h))

      pub whole_ready : (first : ℕ) → first ≡ 8 → TextFits bs at t E rank first 0 room
      whole_ready first q =
          let s : size_left E rank ≡ cells E = rw (n, all_left) in
          let f : first + length (text_left (cell_by bs at t) E rank 0) ≤ room = omega (arith, whole-fits) in
          record { sound = whole-sound.0; some = omega (arith, v.some); rank = omega arith; lies = omega (arith, v.lies); fits = f }

      pub whole-drawn : (out : List ℕ) {out₁ out₂ out₃ : List ℕ} {first end next r : ℕ} → Stored out 0 (text "{\"data\":") first out₁
          → Drawn bs at t E rank first 0 out₁ end next out₂ → Stored out₂ end (125 ∷ []) r out₃ → Stored out 0 (json_at bs at t E) r out₃
      whole-drawn out {out₁} {first = first} p d q =
          let T = text_left (cell_by bs at t) E rank 0 in
          rw (cells_are, ← whole-text)
          (stored-then out 0 (text "{\"data\":") (T ++ (125 ∷ [])) p (stored-then out₁ first T (125 ∷ []) d.drawn q))

-- ---- an array of a bundle

-- it is valid
nth-valid : (z : Sizes) (As : List Array) (k : ℕ) (A : Array) → EachValid z As → nth As k ≡ Some A → Valid z A
nth-valid z As zero A v e = absurd (no_none A e)
nth-valid z [] (suc k) A v e = absurd (no_none A e)
nth-valid z (B ∷ As) (suc zero) A v e = subst (Valid z) (some_one B A e) v.0
nth-valid z (B ∷ As) (suc (suc k)) A v e = nth-valid z As (suc k) A v.1 e

pub chosen-valid : (bs : List ℕ) (k : ℕ) (A : Array) → Bytes bs → chosen bs k ≡ Ok A → Valid (sizes_in bs) A
unfolding chosen
chosen-valid bs k A b e =
    let r = bind-got (read_bundle bs) (λ As. present (nth As k) (refusal unknown4 k 0)) A e in
    nth-valid (sizes_in bs) r.0 k A (bundle-read bs r.0 b r.1).valid.each
    (present-got (nth r.0 k) (refusal unknown4 k 0) A r.2)

pub its-axes : (u : Version) (A : Array) → Valid (sizes_of u) A → (1 ≤ length A.shape.axes) × (length A.shape.axes ≤ most_axes)
its-axes u A v = let r = between-true (sizes_of u).axes (length A.shape.axes) v.rank in (r.0, le_trans r.1 (fits u).axes)

-- what is answered and left in the buffer is what the paper says: a refusal leaves the buffer, a text stands in front of what was there
abbrev pub Both : List ℕ → ℕ → List ℕ → Res ℕ → List ℕ → Type 0
Both bs k out r last = (r ≡ (write_json bs k out).answer) × (last ≡ (write_json bs k out).buffer)

-- the array's own refusal
pub own-refusal : (bs : List ℕ) (k : ℕ) (out : List ℕ) {x : Refusal} → Err x ≡ chosen bs k → Both bs k out (Err x) out
unfolding written put_into
own-refusal bs k out e = rw (← e) (refl, refl)

module _ {bs : List ℕ} {k : ℕ} {h : Head} (v : ItsHead bs k h) (out : List ℕ) where
  abbrev its_text : List ℕ
  its_text = json_at bs h.at h.form.kind (axes_of h.form.extent)

  pub float-refused : h.form.kind ≡ FLOAT → {x : Refusal} → x ≡ refusal unfit7 k 0 → Both bs k out (Err x) out
  unfolding written put_into array_at
  float-refused e q = rw (← v.said, eq-eqb h.form.kind FLOAT e, q) (refl, refl)

  module _ (f : h.form.kind ≡ FLOAT → ⊥) where
    not_float : eqb h.form.kind FLOAT ≡ false
    not_float = ne_eqb h.form.kind FLOAT f

    pub small-refused : length out < length its_text → {x : Refusal} → x ≡ refusal small_output14 0 0 → Both bs k out (Err x) out
    unfolding written put_into array_at
    small-refused l q = rw (← v.said, not_float, lt-leb (length its_text) (length out) l, q) (refl, refl)

    pub text-got : {n r : ℕ} {last : List ℕ} → length its_text ≤ length out → n ≡ length its_text → Stored out 0 its_text r last
        → Both bs k out (Ok n) last
    unfolding written put_into array_at
    text-got {n} {r} {last} l q s =
        let e : last ≡ its_text ++ drop (length its_text) out = s.1 ∙ sets-eq its_text out 0 (omega arith) ∙ rw zero-add in
        rw (← v.said, not_float, le-leb (length its_text) (length out) l) (ap Ok q, e)

  pub its-whole : Bytes bs → Whole bs h.at (axes_of h.form.extent)
  unfolding array_at
  its-whole b =
      let w = chosen-valid bs k (array_at bs h) b (sym v.said) in
      let r = its-axes (version_in bs) (array_at bs h) w in
      record { small = good-small _ _ w.extent; some = r.0; rank = r.1; lies = v.fit.fits }
