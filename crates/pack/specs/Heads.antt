-- A head: an array's type, axis count and axes with their names and maxima. A whole head has room for as many axes as the version's arrays may have,
-- and zeros past the last.
use Rattle.std.specs.Prelude.{ℕ, zero, suc, ◌+◌, ◌-◌, ◌*◌, ◌≤◌, ◌≡◌, refl, List, [], ◌∷◌, ◌++◌, length, drop, set, replicate}
use Rattle.std.proofs.Common.{sym, ap, ◌∙◌, append_assoc, add-mul, arith, length-append, length-set}
use Rattle.std.proofs.lemmas.List.{length-replicate}
use Rattle.paper.specs.declared.Sizes.{Sizes}
use Rattle.paper.specs.declared.Form.{Form}
use Rattle.paper.specs.Limits.{type_bytes}
use Rattle.paper.specs.Numbers.{over}
use Rattle.paper.specs.Axes.{Shape}
use Rattle.paper.specs.Bundle.{axes_bytes}
use Rattle.paper.specs.Answers.{axes_of, shape_of}
use Rattle.laws.specs.Sizes.{Fits}
use Rattle.laws.specs.Put.{put, length-put, after}
use Rattle.cell.proofs.Runs.{stores_at-spliced}
use Rattle.pack.specs.Put.{AxesRoom, axes-length}

abbrev pub head_of : Sizes → Shape → List ℕ
head_of z s = s.type ∷ length s.axes ∷ axes_bytes z s.names s.axes s.maximum

abbrev pub head_length : Sizes → ℕ
head_length z = type_bytes + z.axes * z.axis

abbrev pub whole_head : Sizes → Shape → List ℕ
whole_head z s = head_of z s ++ replicate ((z.axes - length s.axes) * z.axis) 0

pub head-long : (z : Sizes) → Fits z → (s : Shape) → length s.names ≡ length s.axes → length s.maximum ≡ length s.axes
    → length (head_of z s) ≡ type_bytes + length s.axes * z.axis
head-long z f s n e = omega (arith, axes-length z f s.names s.axes s.maximum n e)

-- ---- a head put

-- there are as many names as axes
abbrev pub Named : Form → Type 0
Named form = length (shape_of form).names ≡ length (shape_of form).axes

-- as many maxima as axes, and room for them
pub record HeadRoom (z : Sizes) (form : Form) (at : ℕ) (d : List ℕ) : Type 0 where
  pub alike : length (axes_of form.maximum) ≡ length (axes_of form.extent)
  pub room : at + (type_bytes + length (axes_of form.extent) * z.axis) ≤ length d

-- it stands there, and ends at this byte
pub record HeadPut (z : Sizes) (form : Form) (at : ℕ) (d : List ℕ) (after : ℕ) (y : List ℕ) : Type 0 where
  pub named : Named form
  pub end : after ≡ at + length (head_of z (shape_of form))
  pub bytes : y ≡ put d at (head_of z (shape_of form))

module _ {z : Sizes} (f : Fits z) {form : Form} {at : ℕ} {d : List ℕ} (q : HeadRoom z form at d) where
  pub its-long : Named form → length (head_of z (shape_of form)) ≡ type_bytes + length (axes_of form.extent) * z.axis
  its-long n = head-long z f (shape_of form) n q.alike

  -- the buffer is as long as before
  pub head-kept : {end : ℕ} {y : List ℕ} → HeadPut z form at d end y → length y ≡ length d
  head-kept p = ap length p.bytes ∙ length-put d at (head_of z (shape_of form)) (omega (arith, its-long p.named, q.room))

  pub head-axes : {n : ℕ} → n ≡ length (axes_of form.extent)
      → AxesRoom z form.extent form.maximum (at + type_bytes) (set (set d at form.kind) (at + 1) n)
  head-axes e = record { alike = q.alike; room = simp length-set (omega (arith, q.room)) }

  -- type, axis count, axes, one after the other
  pub head-put : Named form → {n : ℕ} → n ≡ length (axes_of form.extent) → {y : List ℕ}
      → y ≡ put (set (set d at form.kind) (at + 1) n) (at + type_bytes)
      (axes_bytes z (shape_of form).names (shape_of form).axes (shape_of form).maximum)
      → HeadPut z form at d (at + type_bytes + n * z.axis) y
  head-put m {n} e {y} p =
      let t : List ℕ = form.kind ∷ n ∷ [] in
      let u = after d at t _ _ y (at + type_bytes) (omega (arith, q.room)) refl (stores_at-spliced t d at (omega (arith, q.room))) p in
      record { named = m; end = ap (λ (j : ℕ). at + type_bytes + j * z.axis) e ∙ (omega (arith, its-long m)); bytes = u ∙ rw e }

-- ---- a whole head

zeros-left : (m k : ℕ) (t : List ℕ) → drop m (replicate (m + k) 0 ++ t) ≡ replicate k 0 ++ t
zeros-left zero k t = let e : 0 + k ≡ k = omega arith in rw e
zeros-left (suc m) k t = let e : suc m + k ≡ suc (m + k) = omega arith in rw e (zeros-left m k t)

-- the axes that there are and the axes that there is room for
all-axes : (z : Sizes) (n : ℕ) → n ≤ z.axes → z.axes * z.axis ≡ n * z.axis + (z.axes - n) * z.axis
all-axes z n h = let e : z.axes ≡ n + (z.axes - n) = omega arith in ap (λ (m : ℕ). m * z.axis) e ∙ add-mul n (z.axes - n) z.axis

pub whole_long : {z : Sizes} → Fits z → (form : Form) {at : ℕ} {d : List ℕ} → HeadRoom z form at d → Named form
    → length (axes_of form.extent) ≤ z.axes → length (whole_head z (shape_of form)) ≡ head_length z
whole_long {z} f form q n h =
    let k : ℕ = (z.axes - length (axes_of form.extent)) * z.axis in
    omega (
      arith,
      its-long f q n,
      length-append (head_of z (shape_of form)) (replicate k 0),
      length-replicate {A = ℕ} k 0,
      all-axes z (length (axes_of form.extent)) h,
    )

-- x at the beginning of k zeros more than it has bytes
over_zeros : (x d : List ℕ) (k : ℕ) → put (over (replicate (length x + k) 0) d) 0 x ≡ over (x ++ replicate k 0) d
over_zeros x d k =
    let n : length (x ++ replicate k 0) ≡ length x + k = omega (arith, length-append x (replicate k 0), length-replicate {A = ℕ} k 0) in
    let e : 0 + length x ≡ length x = omega arith in
    rw (e, length-replicate {A = ℕ} (length x + k) 0, zeros-left (length x) k (drop (length x + k) d), n)
    (sym (append_assoc x (replicate k 0) _))

-- a head put at the beginning of as many zeros as a whole one has bytes
pub whole-put : {z : Sizes} → Fits z → (form : Form) (d : List ℕ) {y w : List ℕ} {end : ℕ} → HeadRoom z form 0 y
    → length (axes_of form.extent) ≤ z.axes
    → y ≡ over (replicate (head_length z) 0) d → HeadPut z form 0 y end w → w ≡ over (whole_head z (shape_of form)) d
whole-put {z} f form d q h p w =
    let l : head_length z ≡ length (head_of z (shape_of form)) + (z.axes - length (axes_of form.extent)) * z.axis
    = omega (arith, its-long f q w.named, all-axes z (length (axes_of form.extent)) h) in
    w.bytes ∙ ap (λ (x : List ℕ). put x 0 (head_of z (shape_of form))) (p ∙ ap (λ (i : ℕ). over (replicate i 0) d) l)
    ∙ over_zeros (head_of z (shape_of form)) d _
