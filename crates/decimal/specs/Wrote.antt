-- What a writer says of its buffer: where it stopped, and what stands there now. One writer after the other writes both texts.
use Rattle.std.specs.Prelude.{ℕ, ◌+◌, ◌≤◌, ◌≡◌, refl, List, ◌++◌, length, set}
use Rattle.std.proofs.Common.{ap, ◌∙◌, arith, length-append, drop-set-lt}
use Rattle.std.proofs.Math.Seq.{take-length}
use Rattle.std.proofs.lemmas.List.{take-set-le}
use Rattle.paper.specs.Numbers.{part}
use Rattle.laws.specs.Put.{put, length-put, after}

-- x was put into d from byte `at` on, which gave y, and r is the byte after x
abbrev pub Wrote : List ℕ → ℕ → List ℕ → ℕ → List ℕ → Type 0
Wrote d at x r y = (r ≡ at + length x) × (y ≡ put d at x)

-- x, and then w
pub wrote_then : (d : List ℕ) (at : ℕ) (x : List ℕ) (m : ℕ) (y w : List ℕ) (r : ℕ) (z : List ℕ) → at + length x ≤ length d
    → Wrote d at x m y → Wrote y m w r z
    → Wrote d at (x ++ w) r z
wrote_then d at x m y w r z h p q = (omega (arith, length-append x w, p.0, q.0), after d at x w y z m h p.0 p.1 q.1)

-- the same text said otherwise
pub wrote_as : (d : List ℕ) (at : ℕ) {x w y : List ℕ} {r : ℕ} → w ≡ x → Wrote d at x r y → Wrote d at w r y
wrote_as d at e p = rw e p

-- a text in two parts, where there is room for all of it
pub wrote-both : (d : List ℕ) (at : ℕ) (x w t : List ℕ) {m r : ℕ} {y z : List ℕ} → t ≡ x ++ w → at + length t ≤ length d → Wrote d at x m y
    → Wrote y m w r z → Wrote d at t r z
wrote-both d at x w t e h p q = rw e (wrote_then d at x _ _ w _ _ (omega (arith, ap length e, length-append x w)) p q)

-- in three
pub wrote-three : (d : List ℕ) (at : ℕ) (x v w t : List ℕ) {m n r : ℕ} {y u z : List ℕ} → t ≡ x ++ v ++ w → at + length t ≤ length d
    → Wrote d at x m y → Wrote y m v n u → Wrote u n w r z → Wrote d at t r z
wrote-three d at x v w t e h p q s =
    wrote-both d at (x ++ v) w t e h
    (wrote_then d at x _ _ v _ _ (omega (arith, ap length e, length-append (x ++ v) w, length-append x v)) p q) s

-- over a byte that was stored where the text begins
pub wrote-over : (d : List ℕ) (at b : ℕ) (x : List ℕ) {r : ℕ} {y : List ℕ} → 1 ≤ length x → Wrote (set d at b) at x r y → Wrote d at x r y
wrote-over d at b x h p = rw (take-set-le at d at b (omega arith), drop-set-lt (at + length x) d at b (omega arith)) at p

-- the buffer keeps its length
pub wrote-long : (d : List ℕ) (at : ℕ) (x : List ℕ) (r : ℕ) (y : List ℕ) → at + length x ≤ length d → Wrote d at x r y → length y ≡ length d
wrote-long d at x r y h p = ap length p.1 ∙ length-put d at x h

-- all bytes of a text, copied
pub copy-wrote : (s d : List ℕ) (at : ℕ) (y : List ℕ) → y ≡ put d at (part 0 (length s) s) → Wrote d at s (at + length s) y
copy-wrote s d at y e = (refl, e ∙ ap (put d at) (take-length s))
