-- Heads of arrays, read from bytes: the form of each; the shapes that are packed, or taken for a stretch's sides, are the heads'.
use Rattle.std.specs.Prelude.{ℕ, zero, suc, ◌+◌, ◌*◌, ◌≤◌, ◌<◌, ◌≡◌, refl, Bool, true, false, List, [], ◌∷◌, map, eqb, leb, take, drop, length, get_or, if◌then◌else◌}
use Rattle.std.proofs.Common.{sym, ap, ap₂, ◌∙◌, mul-le-mul_right, arith, eq-eqb, ne_eqb, leb-true, le-leb, length-take, drop-drop, get_or-drop}
use Rattle.std.proofs.lemmas.Bool.{lt-leb}
use Rattle.paper.specs.declared.Sizes.{Sizes}
use Rattle.paper.specs.declared.Name.{Name}
use Rattle.paper.specs.declared.Extent.{Extent}
use Rattle.paper.specs.declared.Form.{Form}
use Rattle.paper.specs.Limits.{most_arrays, type_bytes}
use Rattle.paper.specs.Axes.{Shape, shaped}
use Rattle.paper.specs.Bundle.{name_of, axis_of, maximum_of, each_axis}
use Rattle.paper.specs.Answers.{extent_of, names_of, shape_of}
use Rattle.laws.specs.Answers.{form_of, form-shape, no_head}
use Rattle.laws.specs.Sizes.{Fits}
use Rattle.bundle.specs.Axes.{length-each}
use Rattle.pack.specs.Heads.{head_length}
use Rattle.pack.specs.Laid.{shapes_of, shapes-few}
use Rattle.c_asked.specs.declared.Forms.{Forms}
use Rattle.c_asked.specs.Asked.{pieces, each_piece, head_count, shape_in, heads_in, side_shape}
use Rattle.c_asked.specs.Pieces.{each-length}

-- the form that the first bytes describe
abbrev pub form_in : Sizes → List ℕ → Form
form_in z bs = form_of (shape_in z bs)

-- the forms of these heads, as many as there are
pub record HeadsIn (z : Sizes) (heads : List ℕ) (r : Forms) : Type 0 where
  pub count : r.count ≡ pieces most_arrays (head_length z) (length heads)
  pub forms : take r.count r.forms ≡ each_piece (form_in z) (head_length z) r.count heads

-- ---- how many axes

module _ (z : Sizes) (n : ℕ) where
  pub count-told : n ≤ z.axes → n ≡ head_count z n
  count-told h = rw (le-leb n z.axes h)

  pub count-over : z.axes < n → 0 ≡ head_count z n
  count-over h = rw (lt-leb n z.axes h)

  -- no more than the version has, and their bytes fit a whole head
  pub head_few : head_count z n ≤ z.axes
  head_few = by (leb n z.axes) refl
    where
      by : (b : Bool) → leb n z.axes ≡ b → (if b then n else 0) ≤ z.axes
      by true e = leb-true n z.axes e
      by false e = omega arith

  pub head-room : head_count z n * z.axis ≤ z.axes * z.axis
  head-room = mul-le-mul_right {m = head_count z n} {n = z.axes} z.axis head_few

-- ---- one head

-- the form by its parts at an offset
pub form-told : (z : Sizes) (s : List ℕ) (at : ℕ) {rank : ℕ} {N : List Name} {E M : Extent} → rank ≡ head_count z (get_or s (at + 1) 0)
    → N ≡ names_of (each_axis z (name_of z) rank (drop (at + type_bytes) s))
    → E ≡ extent_of (each_axis z (axis_of z) rank (drop (at + type_bytes) s))
    → M ≡ extent_of (each_axis z (maximum_of z) rank (drop (at + type_bytes) s))
    → ◌≡◌ {A = Form} (record { kind = get_or s at 0; names = N; extent = E; maximum = M }) (form_in z (drop at s))
unfolding shape_in
form-told z s at r n e m =
    let o : at + 0 ≡ at = omega arith in rw (n, e, m, r, get_or-drop at s 0 0, get_or-drop at s 1 0, drop-drop type_bytes at s, o)

-- it has no more axes than a form has room for
head-shape : (z : Sizes) → Fits z → (bs : List ℕ) → shape_of (form_in z bs) ≡ shape_in z bs
unfolding shape_in
head-shape z f bs =
    let n = head_count z (get_or bs 1 0) in
    let h = head_few z (get_or bs 1 0) in
    let d = drop type_bytes bs in
    form-shape (shape_in z bs) (length-each z (name_of z) n d ∙ sym (length-each z (axis_of z) n d))
    (rw (length-each z (axis_of z) n d) (omega (arith, h, f.axes))) (rw (length-each z (maximum_of z) n d) (omega (arith, h, f.axes)))

-- ---- packing

head-shapes : (z : Sizes) → Fits z → (n : ℕ) (bs : List ℕ)
    → map shape_of (each_piece (form_in z) (head_length z) n bs) ≡ each_piece (shape_in z) (head_length z) n bs
unfolding each_piece
head-shapes z f zero bs = refl
head-shapes z f (suc n) bs = ap₂ (λ (s : Shape) (l : List Shape). s ∷ l) (head-shape z f bs) (head-shapes z f n (drop (head_length z) bs))

-- the shapes that are packed are the heads'
pub heads-shapes : (z : Sizes) → Fits z → (heads : List ℕ) (r : Forms) → HeadsIn z heads r
    → shapes_of r.count r.forms ≡ heads_in z heads
heads-shapes z f heads r v =
    let n = r.count in
    let e : length (take n r.forms) ≡ n = ap length v.forms ∙ each-length (form_in z) (head_length z) n heads in
    let h : n ≤ length r.forms = omega (arith, length-take n r.forms) in
    rw (shapes-few n r.forms h, v.forms, head-shapes z f n heads, v.count)

-- ---- one side of a stretch

module _ (z : Sizes) (head : List ℕ) where
  pub side-other : (length head ≡ head_length z → ⊥) → no_head.form ≡ form_of (side_shape z head)
  side-other h = rw (ne_eqb (length head) (head_length z) h)

  pub side-head : length head ≡ head_length z → form_in z head ≡ form_of (side_shape z head)
  side-head h = rw (eq-eqb (length head) (head_length z) h)

  by : Fits z → (b : Bool) → let s : Shape = if b then shape_in z head else shaped 0 [] [] [] in shape_of (form_of s) ≡ s
  by f true = head-shape z f head
  by f false = form-shape (shaped 0 [] [] []) refl (omega arith) (omega arith)

  -- a side has the shape that its head describes
  pub side-shape : Fits z → shape_of (form_of (side_shape z head)) ≡ side_shape z head
  side-shape f = by f (eqb (length head) (head_length z))
