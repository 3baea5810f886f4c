-- Arrays written one after the other: an array's parts as the code puts them, the loop over the arrays as a record with a law for each
-- event, and packing as a whole.
use Rattle.std.specs.Prelude.{ℕ, ◌+◌, ◌*◌, ◌≤◌, ◌<◌, ◌≡◌, List, [], ◌∷◌, ◌++◌, leb, take, drop, Ok, Err}
use Rattle.std.specs.Option.{unwrap_or}
use Rattle.std.proofs.Math.Path.{refl, sym, ap}
use Rattle.std.proofs.Common.{◌∙◌, le-leb, drop_of_length-le}
use native.Mathlib.Omega.{arith}
use Rattle.std.proofs.lemmas.Bool.{lt-leb}
use Rattle.std.proofs.Math.ListN.{length, length-append, length-drop}
use Rattle.std.proofs.Math.Seq.{drop-drop}
use Rattle.paper.specs.declared.Sizes.{Sizes}
use Rattle.paper.specs.declared.Form.{Form}
use Rattle.paper.specs.declared.Refusal.{Refusal}
use Rattle.paper.specs.Limits.{most_arrays, most_cells, cell_bytes}
use Rattle.paper.specs.Refusals.{Res, ◌>>=◌, ◌>>◌, refusal, ensure, small_output14}
use Rattle.paper.specs.Numbers.{le_bytes, part}
use Rattle.paper.specs.Axes.{Shape}
use Rattle.paper.specs.Bundle.{mark, mark_bytes, version_told, packed, After, put_into, pack}
use Rattle.paper.specs.Answers.{axes_of, shape_of}
use Rattle.laws.specs.Numbers.{Bytes}
use Rattle.laws.specs.Sizes.{Fits}
use Rattle.laws.specs.Tests.{between-true}
use Rattle.extent.specs.Judged.{few_cells}
use Rattle.bundle.specs.Read.{cells_in}
use Rattle.pack.specs.declared.put.Ends.{Ends}
use Rattle.laws.specs.Put.{put, put-none, length-put, after}
use Rattle.pack.specs.Heads.{head_of, HeadRoom, HeadPut, its-long, head-kept}
use Rattle.pack.specs.Laid.{shapes_of, cell_room, form_bytes, FormPassed, ready-small, ready-alike, ready-long, AllReady, laid_bytes, bundle_of, packed-ready}
use Rattle.pack.specs.Judging.{AllGot}

-- ---- an array

-- a form that was judged, and room for its bytes
pub record ArrayRoom (z : Sizes) (form : Form) (bs : List ℕ) (from : ℕ) (d : List ℕ) (at : ℕ) : Type 0 where
  pub start : from ≤ length bs
  pub ready : FormPassed z form (drop from bs)
  pub room : at + length (form_bytes z form (drop from bs)) ≤ length d

-- its bytes are put, and its cells and its bytes end there
pub record ArrayPut (z : Sizes) (form : Form) (bs : List ℕ) (from : ℕ) (d : List ℕ) (at : ℕ) (r : Ends) (y : List ℕ) : Type 0 where
  pub bytes : y ≡ put d at (form_bytes z form (drop from bs))
  pub cells : r.from ≡ from + cell_room form
  pub next : r.at ≡ at + length (form_bytes z form (drop from bs))

module _ {z : Sizes} (fits : Fits z) {form : Form} {bs : List ℕ} {from : ℕ} {d : List ℕ} {at : ℕ} (q : ArrayRoom z form bs from d at)
    {m : ℕ}
    (em : m ≡ unwrap_or (few_cells (axes_of form.extent)) 0) where
  its-cells : m ≡ cells_in form
  its-cells = em ∙ rw (le-leb (cells_in form) most_cells (ready-small fits q.ready).few)

  pub head-room : HeadRoom z form at d
  head-room = record { alike = ready-alike fits q.ready; room = omega (arith, q.room, ready-long fits q.ready) }

  all-long : length (form_bytes z form (drop from bs)) ≡ length (head_of z (shape_of form)) + m * cell_bytes
  all-long = omega (arith, ready-long fits q.ready, its-cells, its-long fits head-room q.ready.named)

  pub its-fit : from + m * cell_bytes ≤ length bs
  its-fit = omega (arith, q.ready.fits, q.start, length-drop from bs, its-cells)

  module _ {begin : ℕ} {y : List ℕ} (h : HeadPut z form at d begin y) where
    pub cells-room : begin + m * cell_bytes ≤ length y
    cells-room = omega (arith, h.end, q.room, all-long, head-kept fits head-room h)

    -- head and cells, one after the other
    pub array-put : (x : List ℕ) → x ≡ put y begin (part from (m * cell_bytes) bs)
        → ArrayPut z form bs from d at (record { from = from + m * cell_bytes; at = begin + m * cell_bytes }) x
    array-put x w = record {
      bytes =
          after d at (head_of z (shape_of form)) (part from (m * cell_bytes) bs) y x begin (omega (arith, q.room, all-long)) h.end
          h.bytes w
          ∙ rw its-cells;
      cells = rw its-cells;
      next = omega (arith, h.end, all-long);
    }

-- the buffer after an array is as long as before
pub array-kept : {z : Sizes} {form : Form} {bs : List ℕ} {from : ℕ} {d : List ℕ} {at : ℕ} {r : Ends} {y : List ℕ}
    → ArrayRoom z form bs from d at
    → ArrayPut z form bs from d at r y → length y ≡ length d
array-kept {z} {form} {bs} {from} {d} {at} q p = ap length p.bytes ∙ length-put d at (form_bytes z form (drop from bs)) q.room

-- ---- arrays in a loop

-- forms that were judged, and room for all their bytes
pub record AllRoom (z : Sizes) (count : ℕ) (forms : List Form) (bs d : List ℕ) : Type 0 where
  pub few : count ≤ most_arrays
  pub ready : AllReady z (take count forms) bs
  pub room : mark_bytes + 1 + length (laid_bytes z (take count forms) bs) ≤ length d

-- i forms of fs are written, up to byte `at`, with their cells before byte `from`
pub record Laying (z : Sizes) (fs : List Form) (bs d₀ d : List ℕ) (from at i : ℕ) : Type 0 where
  pub turns : i ≤ length fs
  pub long : length d ≡ length d₀
  pub start : from ≤ length bs
  pub ready : AllReady z (drop i fs) (drop from bs)
  pub room : at + length (laid_bytes z (drop i fs) (drop from bs)) ≤ length d
  pub left : put d at (laid_bytes z (drop i fs) (drop from bs)) ≡ put d₀ (mark_bytes + 1) (laid_bytes z fs bs)

pub laying-start : (z : Sizes) (fs : List Form) (bs d : List ℕ) → AllReady z fs bs → mark_bytes + 1 + length (laid_bytes z fs bs) ≤ length d
    → Laying z fs bs d d 0 (mark_bytes + 1) 0
laying-start z fs bs d v h = record { turns = omega arith; long = refl; start = omega arith; ready = v; room = h; left = refl }

module _ {z : Sizes} {fs : List Form} {bs d₀ d : List ℕ} {from at i : ℕ} (v : Laying z fs bs d₀ d from at i) where
  module _ {f : Form} (e : drop i fs ≡ f ∷ drop (i + 1) fs) where
    its-room : at + (length (form_bytes z f (drop from bs)) + length (laid_bytes z (drop (i + 1) fs) (drop (from + cell_room f) bs)))
        ≤ length d
    unfolding laid_bytes
    its-room = rw (e, drop-drop (cell_room f) from bs, length-append (form_bytes z f (drop from bs))) at v.room

    its-ready : FormPassed z f (drop from bs) × AllReady z (drop (i + 1) fs) (drop (from + cell_room f) bs)
    its-ready = rw (e, drop-drop (cell_room f) from bs) at v.ready

    pub laying-room : ArrayRoom z f bs from d at
    laying-room = record { start = v.start; ready = its-ready.0; room = omega (arith, its-room) }

    pub laying-more : i < length fs → {r : Ends} {y : List ℕ} → ArrayPut z f bs from d at r y
        → Laying z fs bs d₀ y r.from r.at (i + 1)
    unfolding laid_bytes
    laying-more h {r} {y} p =
        let k = array-kept laying-room p in
        rw p.cells
        (record {
          turns = omega arith;
          long = k ∙ v.long;
          start = omega (arith, its-ready.0.fits, v.start, length-drop from bs);
          ready = its-ready.1;
          room = omega (arith, its-room, p.next);
          left =
              after d at (form_bytes z f (drop from bs)) _ y _ r.at laying-room.room p.next p.bytes refl
              ∙ (rw (e, drop-drop (cell_room f) from bs) at v.left);
        })

  pub laying-end : length fs ≤ i → d ≡ put d₀ (mark_bytes + 1) (laid_bytes z fs bs)
  unfolding laid_bytes
  laying-end h = sym (put-none d at) ∙ (rw (drop_of_length-le fs {i = i} h) at v.left)

-- ---- packing

-- the promise in a version: the answer and the output buffer after are those that the paper's packing gives of these shapes and cells
pub record PackedAs (z : Sizes) (ss : List Shape) (bs out : List ℕ) (r : Res ℕ) (y : List ℕ) : Type 0 where
  pub said : r ≡ (put_into out (packed z ss bs (length out))).answer
  pub wrote : y ≡ (put_into out (packed z ss bs (length out))).buffer

pub pack-refused : (z : Sizes) (ss : List Shape) (bs out : List ℕ) (x : Refusal) → Err x ≡ packed z ss bs (length out)
    → PackedAs z ss bs out (Err x) out
unfolding put_into
pack-refused z ss bs out x e = record { said = rw (← e); wrote = rw (← e) }

module _ {z : Sizes} (fits : Fits z) {count : ℕ} {forms : List Form} {bs : List ℕ} {n : ℕ} (j : AllGot z count forms bs n) where
  abbrev bundle : List ℕ
  bundle = bundle_of z count (take count forms) bs

  pub count-least : (1 ≤ count) × (count ≤ most_arrays)
  count-least = between-true most_arrays count j.counted

  its-length : length bundle ≡ n
  unfolding le_bytes
  its-length = omega (arith, j.long)

  -- the mark is written
  pub all_room : (out : List ℕ) → n ≤ length out → (x : List ℕ) → x ≡ put out 0 (mark z ++ (count ∷ [])) → AllRoom z count forms bs x
  unfolding le_bytes
  all_room out h x p =
      let e : length x ≡ length out = ap length p ∙ length-put out 0 (mark z ++ (count ∷ [])) (omega (arith, j.long)) in
      record { few = count-least.1; ready = j.ready; room = omega (arith, j.long) }

  module _ (l : length forms ≡ most_arrays) (g : Bytes bs) (out : List ℕ) where
    by-room : packed z (shapes_of count forms) bs (length out) ≡ (ensure (leb (length bundle) (length out)) small_output14 0 >> Ok bundle)
    by-room = packed-ready z fits count forms bs (length out) (omega (arith, count-least)) j.counted j.ready j.rest g

    pub pack-small : length out < n → PackedAs z (shapes_of count forms) bs out (Err (refusal small_output14 0 0)) out
    pack-small h = pack-refused z _ bs out _ (sym (rw (lt-leb (length bundle) (length out) (omega (arith, its-length))) at by-room))

    pub pack-got : n ≤ length out → (x w : List ℕ) → x ≡ put out 0 (mark z ++ (count ∷ []))
        → w ≡ put x (mark_bytes + 1) (laid_bytes z (take count forms) bs) → PackedAs z (shapes_of count forms) bs out (Ok n) w
    unfolding put_into le_bytes
    pack-got h x w p q =
        let e : packed z (shapes_of count forms) bs (length out) ≡ Ok bundle =
        rw (le-leb (length bundle) (length out) (omega (arith, its-length))) at by-room in
        let u =
        after out 0 (mark z ++ (count ∷ [])) (laid_bytes z (take count forms) bs) x w (mark_bytes + 1) (omega (arith, j.long)) refl p q in
        let b : 0 + length bundle ≡ length bundle = omega arith in
        record { said = rw (e, its-length); wrote = rw e (rw b at u) }

-- ---- by the version told

-- the promise: so by the number of a version
pub record PackedInto (version : ℕ) (ss : List Shape) (bs out : List ℕ) (r : Res ℕ) (y : List ℕ) : Type 0 where
  pub said : r ≡ (pack version ss bs out).answer
  pub wrote : y ≡ (pack version ss bs out).buffer

module _ (version : ℕ) (ss : List Shape) (bs out : List ℕ) where
  -- another number than a version's
  pub told_none : {x : Refusal} → Err x ≡ version_told version → PackedInto version ss bs out (Err x) out
  unfolding put_into
  told_none e = record { said = rw (← e); wrote = rw (← e) }

  pub told-one : (z : Sizes) → Ok z ≡ version_told version → {r : Res ℕ} {y : List ℕ} → PackedAs z ss bs out r y
      → PackedInto version ss bs out r y
  told-one z e p =
      let q : put_into out (packed z ss bs (length out)) ≡ pack version ss bs out =
      ap (λ (m : Res Sizes). put_into out (m >>= (λ x. packed x ss bs (length out)))) e in
      record { said = p.said ∙ ap (λ (a : After). a.answer) q; wrote = p.wrote ∙ ap (λ (a : After). a.buffer) q }
