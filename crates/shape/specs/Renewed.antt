-- Axes made anew from a step's detail, which has so many bytes for each: the paper's `each_anew`, by what it makes anew. Axis i comes
-- of axis i and the bytes after those of the axes before.
use Rattle.std.specs.Prelude.{ℕ, zero, suc, ◌+◌, ◌*◌, ◌≤◌, ◌<◌, ◌≡◌, refl, List, [], ◌∷◌, length, get_or, drop}
use Rattle.std.proofs.Common.{sym, ap, ap₂, ◌∙◌, mul-le-mul_right, le_trans, le_of_eq, arith, drop-drop, to_z}
use Rattle.std.specs.Int.{w32}
use Rattle.paper.specs.declared.Axis.{Axis}
use Rattle.paper.specs.Limits.{limit_bytes, pair_bytes}
use Rattle.paper.specs.Numbers.{le_of, part, signed_at, position_at, moved, distance}
use Rattle.paper.specs.Axes.{limited, no_axis}
use Rattle.paper.specs.Recipe.{each_anew}
use Rattle.positions.specs.Runs.{part-after}
use Rattle.shape.specs.declared.Change.{Change}
use Rattle.shape.specs.declared.Change.TheVariants.{Limits, Moved}

-- an axis from a pair's bytes
abbrev pub pair_of : List ℕ → Axis
pair_of d = limited (position_at 0 d) (position_at limit_bytes d)

-- an axis from an old one and the bytes for it
abbrev pub fresh : Change → Axis → List ℕ → Axis
fresh Limits = λ a d. pair_of d
fresh Moved = λ a d. limited (moved a.lo (signed_at 0 d)) (moved a.hi (signed_at 0 d))

-- and how many these are
abbrev pub bytes_for : Change → ℕ
bytes_for Limits = pair_bytes
bytes_for Moved = limit_bytes

next : (i w : ℕ) → i * w + w ≡ (i + 1) * w
next i w = omega arith

-- the bytes for n axes have those of axis i
pub fits : (how : Change) (i n : ℕ) → i < n → i * bytes_for how + bytes_for how ≤ n * bytes_for how
fits how i n h = le_trans (le_of_eq (next i (bytes_for how))) (mul-le-mul_right (bytes_for how) (omega arith))

-- ---- axis i

pub length-anew : {A B : Type 0} (f : A → List ℕ → B) (w : ℕ) (E : List A) (d : List ℕ) → length (each_anew f w E d) ≡ length E
unfolding each_anew
length-anew f w [] d = refl
length-anew f w (a ∷ E) d = ap suc (length-anew f w E (drop w d))

pub anew-at : {A : Type 0} (x : A) (f : A → List ℕ → A) (w : ℕ) (E : List A) (d : List ℕ) (i : ℕ) → i < length E
    → get_or (each_anew f w E d) i x ≡ f (get_or E i x) (drop (i * w) d)
unfolding each_anew
anew-at x f w [] d i h = absurd (omega arith)
anew-at x f w (a ∷ E) d zero h = let e : 0 * w ≡ 0 = omega arith in rw e
anew-at x f w (a ∷ E) d (suc i) h =
    let e : w + i * w ≡ suc i * w = omega arith in
    anew-at x f w E (drop w d) i (omega arith) ∙ ap (f (get_or E i x)) (drop-drop (i * w) w d ∙ ap (λ (n : ℕ). drop n d) e)

-- ---- all of them

abbrev pub renewed : Change → List Axis → List ℕ → ℕ → List Axis
renewed how E s at = each_anew (fresh how) (bytes_for how) E (drop at s)

pub length-renewed : (how : Change) (E : List Axis) (s : List ℕ) (at : ℕ) → length (renewed how E s at) ≡ length E
length-renewed how E s at = length-anew (fresh how) (bytes_for how) E (drop at s)

pub renewed-at : (how : Change) (E : List Axis) (s : List ℕ) (at i : ℕ) → i < length E
    → fresh how (get_or E i no_axis) (drop (at + i * bytes_for how) s) ≡ get_or (renewed how E s at) i no_axis
renewed-at how E s at i h =
    sym (anew-at no_axis (fresh how) (bytes_for how) E (drop at s) i h ∙ ap (fresh how (get_or E i no_axis)) (drop-drop (i * bytes_for how) at s))

-- ---- from a detail of d bytes, which has those of every axis

pub detail-after : (s : List ℕ) (at d n i k : ℕ) → n + i + k ≤ d → part i k (drop n (part at d s)) ≡ part i k (drop n (drop at s))
detail-after s at d n i k h = part-after s at d n i k h ∙ ap (part i k) (sym (drop-drop n at s))

fresh-after : (how : Change) (a : Axis) (s : List ℕ) (at d n : ℕ) → n + bytes_for how ≤ d
    → fresh how a (drop n (part at d s)) ≡ fresh how a (drop n (drop at s))
fresh-after Limits a s at d n h =
    ap₂ (λ (x y : List ℕ). limited (distance (to_z w32 (le_of x))) (distance (to_z w32 (le_of y))))
    (detail-after s at d n 0 limit_bytes (omega arith)) (detail-after s at d n limit_bytes limit_bytes (omega arith))
fresh-after Moved a s at d n h =
    ap (λ (x : List ℕ). limited (moved a.lo (to_z w32 (le_of x))) (moved a.hi (to_z w32 (le_of x))))
    (detail-after s at d n 0 limit_bytes (omega arith))

anew-after : (how : Change) (E : List Axis) (s : List ℕ) (at d n : ℕ) → n + length E * bytes_for how ≤ d
    → each_anew (fresh how) (bytes_for how) E (drop n (part at d s)) ≡ each_anew (fresh how) (bytes_for how) E (drop n (drop at s))
unfolding each_anew
anew-after how [] s at d n h = refl
anew-after how (a ∷ E) s at d n h =
    let w = bytes_for how in
    let e : w + length E * w ≡ suc (length E) * w = omega arith in
    let p = drop-drop w n (part at d s) in
    let q = drop-drop w n (drop at s) in
    ap₂ (λ (x : Axis) (l : List Axis). x ∷ l) (fresh-after how a s at d n (omega (arith, e, h)))
    (ap (each_anew (fresh how) w E) p ∙ anew-after how E s at d (n + w) (omega (arith, e, h)) ∙ sym (ap (each_anew (fresh how) w E) q))

pub in-detail : (how : Change) (E : List Axis) (s : List ℕ) (at d : ℕ) → length E * bytes_for how ≤ d
    → each_anew (fresh how) (bytes_for how) E (drop at s) ≡ each_anew (fresh how) (bytes_for how) E (part at d s)
in-detail how E s at d h = sym (anew-after how E s at d 0 (omega (arith, h)))
