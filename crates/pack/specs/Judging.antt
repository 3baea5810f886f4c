-- Forms judged one after the other: what is known of one, the loop as a record with a law for each event, and what is known of all.
use Rattle.std.specs.Prelude.{ℕ, ◌+◌, ◌-◌, ◌*◌, ◌≤◌, ◌<◌, ◌≡◌, refl, Bool, true, false, List, [], ◌∷◌, map, length, get_or, take, Ok, Err}
use Rattle.std.proofs.Math.Path.{sym, ap}
use Rattle.std.proofs.Common.{ap₂, ◌∙◌, add-one, arith, ne_eqb, length-drop, drop-drop}
use Rattle.std.proofs.Math.ListN.{drop, length-append, drop_of_length-le}
use Rattle.paper.specs.declared.Sizes.{Sizes}
use Rattle.paper.specs.declared.Form.{Form}
use Rattle.paper.specs.declared.Refusal.{Refusal}
use Rattle.paper.specs.Limits.{most_arrays, most_axes, type_bytes, cell_bytes}
use Rattle.paper.specs.Refusals.{Res, refusal, between, bad_bytes1, bad_extent2}
use Rattle.paper.specs.Numbers.{none?}
use Rattle.paper.specs.Cells.{is_type}
use Rattle.paper.specs.Bundle.{mark_bytes, names_fit, pack_array, pack_arrays, packed}
use Rattle.paper.specs.Answers.{shape_of}
use Rattle.laws.specs.Loops.{length-first, drop-first-cons}
use Rattle.laws.specs.Sizes.{Fits}
use Rattle.laws.specs.Tests.{between-true}
use Rattle.extent.specs.Rank.{Rank}
use Rattle.bundle.specs.Axes.{axes-small}
use Rattle.bundle.specs.Read.{JudgedArray}
use Rattle.pack.specs.declared.judge.FormJudged.{FormJudged}
use Rattle.pack.specs.Put.{names-full}
use Rattle.pack.specs.Laid.{shapes_of, shapes-length, shapes-few, cell_room, form_bytes, most_bytes, FormPassed}
use Rattle.pack.specs.Laid.{ready-packed, ready-small, ready-long, AllReady, laid_bytes, rest_of, packed-left}

-- ---- one form

-- a form that was judged good: its cells end there, and it has so many bytes in the bundle
pub record FormGot (z : Sizes) (bs : List ℕ) (from : ℕ) (form : Form) (r : FormJudged) : Type 0 where
  pub ready : FormPassed z form (drop from bs)
  pub end : r.end ≡ from + cell_room form
  pub long : r.long ≡ length (form_bytes z form (drop from bs))
  pub few : r.long ≤ most_bytes
  pub room : r.end ≤ length bs

-- the same, or the refusal
abbrev pub JudgedForm : Sizes → List ℕ → ℕ → ℕ → Form → Res FormJudged → Type 0
JudgedForm z bs from k form (Ok r) = FormGot z bs from form r
JudgedForm z bs from k form (Err x) = Err x ≡ pack_array z k (shape_of form) (drop from bs)

-- n is the number of axes
module _ (z : Sizes) (form : Form) {n : ℕ} (r : Rank form.extent n) where
  counted : between 1 z.axes n ≡ true → between 1 z.axes (length (shape_of form).axes) ≡ true
  counted b = rw (← r.number) b

  -- the names are the first n
  names-are : {p : Bool} → names_fit z (take n form.names) ≡ p → names_fit z (shape_of form).names ≡ p
  names-are e = ap (λ (m : ℕ). names_fit z (take m form.names)) (sym r.number) ∙ e

-- each way out of the judging of one
module _ {z : Sizes} (fits : Fits z) (bs : List ℕ) (from k : ℕ) (form : Form) where
  pub form_type : is_type form.kind ≡ false → JudgedForm z bs from k form (Err (refusal bad_bytes1 k 0))
  unfolding pack_array
  form_type t = rw t

  module _ (t : is_type form.kind ≡ true) {n : ℕ} (r : Rank form.extent n) where
    pub form-count : between 1 z.axes n ≡ false → JudgedForm z bs from k form (Err (refusal bad_bytes1 k 0))
    unfolding pack_array
    form-count b = rw (t, ← r.number, b)

    module _ (b : between 1 z.axes n ≡ true) where
      pub form-long : names_fit z (take n form.names) ≡ false → JudgedForm z bs from k form (Err (refusal bad_extent2 k 0))
      unfolding pack_array
      form-long e = rw (t, counted z form r b, names-are z form r e)

      module _ (e : names_fit z (take n form.names) ≡ true) where
        pub form-bad : {x : Refusal} → JudgedArray bs k form from (Err x) → JudgedForm z bs from k form (Err x)
        unfolding pack_array
        form-bad j = rw (t, counted z form r b, names-are z form r e) j

        -- an array that was read is ready to be packed
        pub form-got : length form.names ≡ most_axes → {c : ℕ} → JudgedArray bs k form from (Ok c)
            → JudgedForm z bs from k form (Ok (record { end = from + c * cell_bytes; long = type_bytes + n * z.axis + c * cell_bytes }))
        form-got m {c} j =
            let f = j.1 in
            let l : cell_room form ≤ length (drop from bs) = omega (arith, length-drop from bs, f.fits) in
            let v : FormPassed z form (drop from bs) =
            record {
              type = t;
              rank = counted z form r b;
              short = names-are z form r e;
              good = f.good;
              named = names-full form m;
              fits = l;
              clean = f.clean;
            } in
            let p : c * cell_bytes ≡ cell_room form = ap (λ (i : ℕ). i * cell_bytes) f.counted in
            let s = axes-small z fits n (between-true z.axes n b).1 in
            record {
              ready = v;
              end = ap (λ (i : ℕ). from + i) p;
              long = ap₂ (λ (i j : ℕ). type_bytes + i * z.axis + j) r.number p ∙ sym (ready-long fits v);
              few = omega (arith, s, (ready-small fits v).few);
              room = omega (arith, p, f.fits);
            }

-- ---- arrays in a loop

-- i forms of fs were judged, their cells before byte `at`, and the bundle has `long` bytes so far
pub record Judging (z : Sizes) (fs : List Form) (bs : List ℕ) (at long i : ℕ) : Type 0 where
  pub turns : i ≤ length fs
  pub few : long ≤ mark_bytes + 1 + i * most_bytes
  pub room : at ≤ length bs
  pub no : (x : Refusal) → Err x ≡ pack_arrays z (i + 1) (map shape_of (drop i fs)) (drop at bs)
      → Err x ≡ pack_arrays z 1 (map shape_of fs) bs
  pub ready : AllReady z (drop i fs) (drop at bs) → AllReady z fs bs
  pub rest : rest_of (drop i fs) (drop at bs) ≡ rest_of fs bs
  pub size : long + length (laid_bytes z (drop i fs) (drop at bs)) ≡ mark_bytes + 1 + length (laid_bytes z fs bs)

pub judging-start : (z : Sizes) (fs : List Form) (bs : List ℕ) → Judging z fs bs 0 (mark_bytes + 1) 0
judging-start z fs bs =
    record { turns = omega arith; few = omega arith; room = omega arith; no = λ x e. e; ready = λ v. v; rest = refl; size = refl }

module _ {z : Sizes} (fits : Fits z) {fs : List Form} {bs : List ℕ} {at long i : ℕ} (v : Judging z fs bs at long i)
    {f : Form} (e : drop i fs ≡ f ∷ drop (i + 1) fs) where
  judging-refused : {x : Refusal} → JudgedForm z bs at (i + 1) f (Err x) → Err x ≡ pack_arrays z 1 (map shape_of fs) bs
  unfolding pack_arrays
  judging-refused {x} j = v.no x (rw (e, ← j))

  pub judging-more : {r : FormJudged} → JudgedForm z bs at (i + 1) f (Ok r) → i < length fs
      → Judging z fs bs r.end (long + r.long) (i + 1)
  unfolding pack_arrays laid_bytes rest_of
  judging-more {r} j h =
      let g : drop (cell_room f) (drop at bs) ≡ drop r.end bs = rw (j.end, drop-drop) in
      record {
        turns = omega arith;
        few = omega (arith, v.few, j.few);
        room = j.room;
        no = λ x q. v.no x (rw (e, ready-packed fits j.ready (i + 1), g, ← q));
        ready = λ a. v.ready (rw e (j.ready, rw g a));
        rest = ap (rest_of (drop (i + 1) fs)) (sym g) ∙ (rw e at v.rest);
        size = omega (arith, rw (e, g, length-append (form_bytes z f (drop at bs))) at v.size, j.long);
      }

-- ---- all of them

-- every one was judged good, no cell bytes are left over, and the bundle has n bytes
pub record AllGot (z : Sizes) (count : ℕ) (forms : List Form) (bs : List ℕ) (n : ℕ) : Type 0 where
  pub counted : between 1 most_arrays count ≡ true
  pub ready : AllReady z (take count forms) bs
  pub rest : rest_of (take count forms) bs ≡ []
  pub long : n ≡ mark_bytes + 1 + length (laid_bytes z (take count forms) bs)
  pub few : n ≤ mark_bytes + 1 + most_arrays * most_bytes

-- the same, or the refusal, whatever room the output has
abbrev pub JudgedAll : Sizes → ℕ → List Form → List ℕ → Res ℕ → Type 0
JudgedAll z count forms bs (Ok n) = AllGot z count forms bs n
JudgedAll z count forms bs (Err x) = (room : ℕ) → Err x ≡ packed z (shapes_of count forms) bs room

-- so many forms, from 1 to the most, and they are there
pub record Counted (count : ℕ) (forms : List Form) : Type 0 where
  pub range : between 1 most_arrays count ≡ true
  pub full : length forms ≡ most_arrays

-- each way out
module _ {z : Sizes} (fits : Fits z) (count : ℕ) (forms : List Form) where
  pub all-count : (bs : List ℕ) → between 1 most_arrays count ≡ false → JudgedAll z count forms bs (Err (refusal bad_bytes1 0 0))
  unfolding packed
  all-count bs b = λ room. rw (shapes-length count forms, b)

  module _ (n : Counted count forms) where
    count-few : count ≤ length forms
    count-few = omega (arith, n.full, between-true most_arrays count n.range)

    pub count-first : length (take count forms) ≡ count
    count-first = length-first forms count count-few

    pub next-form : (i : ℕ) (d : Form) → i < count → drop i (take count forms) ≡ get_or forms i d ∷ drop (i + 1) (take count forms)
    next-form i d h = rw add-one (drop-first-cons forms count count-few i d h)

    module _ {bs : List ℕ} {at long i : ℕ} (v : Judging z (take count forms) bs at long i) where
      pub all-bad : {f : Form} → drop i (take count forms) ≡ f ∷ drop (i + 1) (take count forms) → {x : Refusal}
          → JudgedForm z bs at (i + 1) f (Err x) → JudgedAll z count forms bs (Err x)
      unfolding packed
      all-bad g j = λ room. rw (shapes-length count forms, n.range, shapes-few count forms count-few, ← judging-refused fits v g j)

      -- none are left
      module _ (h : count ≤ i) where
        none_left : drop i (take count forms) ≡ []
        none_left = drop_of_length-le (take count forms) {i = i} (omega (arith, count-first))

        all-ready : AllReady z (take count forms) bs
        all-ready = v.ready (rw none_left tt)

        its-rest : drop at bs ≡ rest_of (take count forms) bs
        unfolding rest_of
        its-rest = rw none_left at v.rest

        pub all_left : at < length bs → JudgedAll z count forms bs (Err (refusal bad_bytes1 0 0))
        all_left g =
            let y : none? (drop at bs) ≡ false = rw (length-drop at bs) (ne_eqb (length bs - at) 0 (λ e. omega arith)) in
            λ room. sym (packed-left z fits count forms bs room count-few n.range all-ready (rw its-rest at y))

        pub all-got : length bs ≤ at → JudgedAll z count forms bs (Ok long)
        unfolding laid_bytes
        all-got g =
            record {
              counted = n.range;
              ready = all-ready;
              rest = sym its-rest ∙ drop_of_length-le bs {i = at} g;
              long = omega (arith, rw none_left at v.size);
              few = omega (arith, v.few, v.turns, count-first, count-few);
            }
