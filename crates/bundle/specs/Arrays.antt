-- An array read, by cases: each way out of the code from the tests that lead to it, at offsets into the bundle's bytes.
use Rattle.std.specs.Prelude.{ℕ, ◌+◌, ◌-◌, ◌*◌, ◌≤◌, ◌<◌, ◌≡◌, ◌&&◌, eqb, length, drop, Ok, Err, Some, None}
use Rattle.std.proofs.Math.Path.{sym, ap, ap₂}
use Rattle.std.proofs.Common.{◌∙◌}
use Rattle.std.proofs.Math.Bool.{true, false}
use mathlib.Core.List.{List}
use native.Mathlib.Omega.{arith}
use borrow.Author.Tests.{ne_eqb, le-leb, lt-leb}
use Rattle.std.proofs.Math.Dec.{leb}
use Rattle.std.proofs.Math.ListN.{get_or, length-drop}
use Rattle.std.proofs.Math.Seq.{drop-drop, get_or-drop}
use Rattle.paper.specs.declared.Sizes.{Sizes}
use Rattle.paper.specs.declared.Name.{Name}
use Rattle.paper.specs.declared.Axis.{Axis}
use Rattle.paper.specs.declared.Form.{Form}
use Rattle.paper.specs.declared.Extent.{Extent}
use Rattle.paper.specs.declared.Refusal.{Refusal}
use Rattle.paper.specs.Limits.{most_cells, type_bytes, cell_bytes}
use Rattle.paper.specs.Refusals.{◌>>=◌, ◌>>◌, refusal, ensure, between, bad_bytes1, bad_extent2, bad_cell3}
use Rattle.paper.specs.Axes.{cells, good_extent, within, Shape, shaped}
use Rattle.paper.specs.Cells.{is_type}
use Rattle.paper.specs.Bundle.{name_of, axis_of, maximum_of, each_axis, array_of, read_array}
use Rattle.paper.specs.Answers.{extent_of, names_of, shape_of}
use Rattle.laws.specs.Sizes.{Fits}
use Rattle.laws.specs.Tests.{and_left, between-true}
use Rattle.laws.specs.Judged.{first_bad, cells_from, judged, cells-judged}
use Rattle.laws.specs.Answers.{form_of, form-shape}
use Rattle.extent.specs.Judged.{cells_within, within-none, within-some, good-small}
use Rattle.bundle.specs.Axes.{length-each}
use Rattle.bundle.specs.Read.{array_at, head_at, JudgedArray, cells_at, FormAt, FormRead, ReadArray}

-- ---- from the bytes after the axes

module _ (k : ℕ) (s : List ℕ) (from : ℕ) (form : Form) where
  abbrev shape : Shape
  shape = shape_of form

  abbrev t : ℕ
  t = form.kind

  pub of-extent : None ≡ cells_within shape.names shape.axes shape.maximum → JudgedArray s k form from (Err (refusal bad_extent2 k 0))
  unfolding array_of
  of-extent e = rw (within-none shape.names shape.axes shape.maximum (sym e))

  module _ (n : ℕ) (some : Some n ≡ cells_within shape.names shape.axes shape.maximum) where
    is-good : ((good_extent shape.names shape.axes && within shape.axes shape.maximum) ≡ true) × (cells shape.axes ≡ n)
    is-good = within-some shape.names shape.axes shape.maximum some

    pub few-cells : n ≤ most_cells
    few-cells = omega (arith, is-good.1, (good-small shape.names shape.axes (and_left _ (within shape.axes shape.maximum) is-good.0)).few)

    pub of-short : length s - from < n * cell_bytes → JudgedArray s k form from (Err (refusal bad_bytes1 k 0))
    unfolding array_of
    of-short h =
        let f : leb (n * cell_bytes) (length s - from) ≡ false = lt-leb (n * cell_bytes) (length s - from) h in
        rw (is-good.0, is-good.1, length-drop, f)

    module _ (h : n * cell_bytes ≤ length s - from) (b : ℕ) (e : b ≡ first_bad t 1 n (drop from s)) where
      of-cells : array_of k shape (drop from s)
          ≡ (judged k b (cells_from t n (drop from s))
          >>= (λ cs. Ok (record { shape = shape; cells = cs }, drop (n * cell_bytes) (drop from s))))
      unfolding array_of
      of-cells =
          let f : leb (n * cell_bytes) (length s - from) ≡ true = le-leb (n * cell_bytes) (length s - from) h in
          rw (is-good.0, is-good.1, length-drop, f, cells-judged n k t 1 (drop from s) (omega arith), ← e)

      pub of-bad : (b ≡ 0 → ⊥) → JudgedArray s k form from (Err (refusal bad_cell3 k b))
      of-bad z = let f : eqb b 0 ≡ false = ne_eqb b 0 z in sym (of-cells ∙ rw f)

      -- all cells are cells: the array is as it stands in the bytes
      pub of-got : from ≤ length s → b ≡ 0 → JudgedArray s k form from (Ok n)
      unfolding array_at
      of-got l z =
          let m = is-good.1 in (
            ap₂ (λ (j : ℕ) (d : List ℕ). Ok (record { shape = shape; cells = cells_from t j (drop from s) }, d)) m
                (sym (drop-drop (n * cell_bytes) from s))
                ∙ sym (of-cells ∙ rw z),
            record {
              good = is-good.0;
              counted = sym m;
              few = few-cells;
              fits = omega (arith, m);
              clean = ap (λ (j : ℕ). first_bad t 1 j (drop from s)) m ∙ sym e ∙ z;
            },
          )

-- ---- from its first byte

module _ (z : Sizes) (fits : Fits z) (s : List ℕ) (at t n : ℕ) (et : t ≡ get_or s at 0) (en : n ≡ get_or s (at + 1) 0) where
  abbrev N : List Name
  N = each_axis z (name_of z) n (drop (at + type_bytes) s)

  abbrev E : List Axis
  E = each_axis z (axis_of z) n (drop (at + type_bytes) s)

  abbrev M : List Axis
  M = each_axis z (maximum_of z) n (drop (at + type_bytes) s)

  moved : (k : ℕ) → read_array z k (drop at s)
      ≡ (ensure (is_type t) bad_bytes1 k >> (ensure (between 1 z.axes n) bad_bytes1 k
      >> (ensure (leb (type_bytes + n * z.axis) (length s - at)) bad_bytes1 k
      >> array_of k (shaped t N E M) (drop (at + type_bytes + n * z.axis) s))))
  unfolding read_array
  moved k =
      let o : at + 0 ≡ at = omega arith in
      let p : get_or (drop at s) 0 0 ≡ t = get_or-drop at s 0 0 ∙ ap (λ (j : ℕ). get_or s j 0) o ∙ sym et in
      let r : get_or (drop at s) 1 0 ≡ n = get_or-drop at s 1 0 ∙ sym en in
      let w : at + (type_bytes + n * z.axis) ≡ at + type_bytes + n * z.axis = omega arith in
      rw (p, r, length-drop at s, drop-drop type_bytes at s, drop-drop (type_bytes + n * z.axis) at s, w)

  -- the bytes are bad
  pub form_type : is_type t ≡ false → FormRead z s at None
  form_type e = λ k. sym (moved k ∙ rw e)

  module _ (e : is_type t ≡ true) where
    pub form-count : between 1 z.axes n ≡ false → FormRead z s at None
    form-count f = λ k. sym (moved k ∙ rw (e, f))

    module _ (f : between 1 z.axes n ≡ true) where
      pub form-short : length s - at < type_bytes + n * z.axis → FormRead z s at None
      form-short h =
          let g : leb (type_bytes + n * z.axis) (length s - at) ≡ false = lt-leb _ _ h in
          λ k. sym (moved k ∙ rw (e, f, g))

      -- the axes are read
      module _ (h : type_bytes + n * z.axis ≤ length s - at) (l : List Name) (x m : Extent)
          (el : l ≡ names_of N) (ex : x ≡ extent_of E) (em : m ≡ extent_of M) where
        abbrev form : Form
        form = record { kind = t; extent = x; names = l; maximum = m }

        form-is : form ≡ form_of (shaped t N E M)
        form-is = λ i. record { kind = t; extent = ex i; names = el i; maximum = em i }

        few : n ≤ z.axes
        few = (between-true z.axes n f).1

        long : length E ≡ n
        long = length-each z (axis_of z) n (drop (at + type_bytes) s)

        ranked : x.rank ≡ n
        ranked = ap (λ (o : Extent). o.rank) ex ∙ long

        shape_is : shape_of form ≡ shaped t N E M
        shape_is =
            let d = drop (at + type_bytes) s in
            ap shape_of form-is
            ∙ form-shape (shaped t N E M) (length-each z (name_of z) n d ∙ sym long) (omega (arith, long, few, fits.axes))
            (omega (arith, length-each z (maximum_of z) n d, few, fits.axes))

        form-whole : FormAt z s at form
        form-whole =
            let g : leb (type_bytes + n * z.axis) (length s - at) ≡ true = le-leb _ _ h in
            record {
              tidy = form-is ∙ sym (ap form_of shape_is);
              rank = ranked ∙ sym (ap (λ (y : Shape). length y.axes) shape_is ∙ long);
              few = omega (arith, ranked, few);
              room = rw ranked (omega arith);
              rest = λ k.
                  ap₂ (λ (y : Shape) (b : ℕ). array_of k y (drop (at + type_bytes + b * z.axis) s)) shape_is ranked
                  ∙ sym (moved k ∙ rw (e, f, g));
            }

        pub form-read : FormRead z s at (Some form)
        form-read = form-whole

-- ---- its form read, and then its cells judged, from byte `from` on

module _ {z : Sizes} {bs : List ℕ} {at from : ℕ} {form : Form} (f : FormAt z bs at form) (p : from ≡ cells_at z at form) (k : ℕ) where
  judged-rest : array_of k (shape_of form) (drop from bs) ≡ read_array z k (drop at bs)
  judged-rest = ap (λ (b : ℕ). array_of k (shape_of form) (drop b bs)) p ∙ f.rest k

  pub array-refused : {x : Refusal} → JudgedArray bs k form from (Err x) → Err x ≡ read_array z k (drop at bs)
  array-refused j = j ∙ judged-rest

  pub array-read : {n : ℕ} → JudgedArray bs k form from (Ok n) → ReadArray z bs at k (head_at form from n)
  array-read j =
      record {
        said = sym (j.0 ∙ judged-rest);
        fit = j.1;
        tidy = λ i. record { form = f.tidy i; at = from; cells = j.1.counted i };
        begins = p ∙ (omega arith) ∙ ap (λ (m : ℕ). at + (type_bytes + m * z.axis)) f.rank;
        rank = omega (arith, f.rank, f.few);
      }
