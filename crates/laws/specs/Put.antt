-- Bytes put into a buffer at a place, and what writers cite: two parts put one after the other are put as one, and a buffer keeps its
-- length; bytes copied twice are copied. A loop that copies keeps it true that what is left, put where it now stands, gives what the whole
-- gave at the start.
use Rattle.std.specs.Prelude.{ℕ, suc, ◌+◌, ◌-◌, ◌≤◌, ◌<◌, ◌≡◌, refl, List, [], ◌∷◌, ◌++◌, length, get_or, take, drop, set}
use Rattle.std.proofs.Common.{sym, ap, ◌∙◌, append_assoc, append-nil, arith, length-append, length-drop, take-append-drop, length-take-le, take_at, drop_at, drop-drop, drop-cons, take-add}
use Rattle.std.proofs.lemmas.List.Edits.{sets-eq}
use Rattle.paper.specs.Numbers.{part}

-- x stands in d from byte `at` on; the rest stays
abbrev pub put : List ℕ → ℕ → List ℕ → List ℕ
put d at x = take at d ++ x ++ drop (at + length x) d

pub put-none : (d : List ℕ) (at : ℕ) → put d at [] ≡ d
put-none d at = let e : at + 0 ≡ at = omega arith in rw (append-nil (take at d), e) (take-append-drop at d)

-- one byte
pub put_byte : (d : List ℕ) (at b : ℕ) → at < length d → set d at b ≡ put d at (b ∷ [])
put_byte d at b h = sets-eq (b ∷ []) d at (omega arith)

module _ (d : List ℕ) (at : ℕ) (x : List ℕ) (h : at + length x ≤ length d) where
  front : length (take at d ++ x) ≡ at + length x
  front = length-append (take at d) x ∙ ap (λ (n : ℕ). n + length x) (length-take-le at d (omega arith))

  pub length-put : length (put d at x) ≡ length d
  length-put = length-append (take at d ++ x) (drop (at + length x) d) ∙ omega (arith, front, length-drop (at + length x) d)

  -- what stands before and behind is as it was
  pub before-put : take at (put d at x) ≡ take at d
  before-put =
      ap (take at) (append_assoc (take at d) x (drop (at + length x) d))
      ∙ take_at (take at d) (x ++ drop (at + length x) d) at (length-take-le at d (omega arith))

  behind-put : (n : ℕ) → drop (at + length x + n) (put d at x) ≡ drop (at + length x + n) d
  behind-put n =
      sym (drop-drop n (at + length x) (put d at x))
      ∙ ap (drop n) (drop_at (take at d ++ x) (drop (at + length x) d) _ front)
      ∙ drop-drop n (at + length x) d

  -- one part after the other
  pub put-put : (n : ℕ) (y : List ℕ) → n ≡ at + length x → put (put d at x) n y ≡ put d at (x ++ y)
  put-put n y e =
      let f : at + length (x ++ y) ≡ at + length x + length y = omega (arith, length-append x y) in
      let t : take (at + length x) (put d at x) ≡ take at d ++ x = take_at (take at d ++ x) (drop (at + length x) d) _ front in
      rw (e, f, t, append_assoc (take at d) x y, behind-put (length y))

  -- a part at the same place, over one that is no longer
  put-again : (y : List ℕ) → length x ≤ length y → put (put d at x) at y ≡ put d at y
  put-again y l =
      let n : at + length y ≡ at + length x + (length y - length x) = omega arith in
      rw (before-put, n, behind-put (length y - length x))

-- a part after another, each put by a call of its own
pub after : (d : List ℕ) (at : ℕ) (x w y z : List ℕ) (n : ℕ) → at + length x ≤ length d → n ≡ at + length x → y ≡ put d at x → z ≡ put y n w
    → z ≡ put d at (x ++ w)
after d at x w y z n h e p q = q ∙ ap (λ (u : List ℕ). put u n w) p ∙ put-put d at x h n w e

-- ---- bytes copied from another buffer

-- n bytes, and those after them
pub part-add : (s : List ℕ) (from n m : ℕ) → part from (n + m) s ≡ part from n s ++ part (from + n) m s
part-add s from n m = take-add n m (drop from s) ∙ ap (λ (l : List ℕ). part from n s ++ take m l) (drop-drop n from s)

pub length_part : (s : List ℕ) (from n : ℕ) → from + n ≤ length s → length (part from n s) ≡ n
length_part s from n h = length-take-le n (drop from s) (omega (arith, length-drop from s))

-- w bytes are copied, then m from byte n on, which is not behind their end, by a call each: all k are there
pub copied : (s : List ℕ) (from : ℕ) (d : List ℕ) (at n w m k : ℕ) {d₁ d₂ : List ℕ} → k ≡ n + m → n ≤ w → w ≤ k → from + k ≤ length s
    → at + k ≤ length d → d₁ ≡ put d at (part from w s) → d₂ ≡ put d₁ (at + n) (part (from + n) m s) → d₂ ≡ put d at (part from k s)
copied s from d at n w m k e a b hs hd p q =
    let x = part from n s in
    let y = part (from + n) (w - n) s in
    let z = part (from + n) m s in
    let lx = length_part s from n (omega arith) in
    let ly = length_part s (from + n) (w - n) (omega arith) in
    let lz = length_part s (from + n) m (omega arith) in
    let f : w ≡ n + (w - n) = omega arith in
    let h : at + length x ≤ length d = omega arith in
    let g : at + n ≡ at + length x = omega arith in
    let r : part from w s ≡ x ++ y = ap (λ (v : ℕ). part from v s) f ∙ part-add s from n (w - n) in
    let u = p ∙ ap (put d at) r ∙ sym (put-put d at x h (at + n) y g) in
    q ∙ ap (λ (v : List ℕ). put v (at + n) z) u
    ∙ put-again (put d at x) (at + n) y (omega (arith, length-put d at x h)) z (omega arith)
    ∙ put-put d at x h (at + n) z g
    ∙ ap (put d at) (sym (ap (λ (v : ℕ). part from v s) e ∙ part-add s from n m))

-- k of n bytes are copied
pub record Copying (s : List ℕ) (from : ℕ) (d₀ : List ℕ) (at n : ℕ) (d : List ℕ) (k : ℕ) : Type 0 where
  pub turns : k ≤ n
  pub long : length d ≡ length d₀
  pub left : put d (at + k) (part (from + k) (n - k) s) ≡ put d₀ at (part from n s)

module _ (s : List ℕ) (from : ℕ) (d₀ : List ℕ) (at n : ℕ) (hs : from + n ≤ length s) (hd : at + n ≤ length d₀) where
  pub copy-begins : Copying s from d₀ at n d₀ 0
  copy-begins =
      let a : at + 0 ≡ at = omega arith in
      let b : from + 0 ≡ from = omega arith in
      let c : n - 0 ≡ n = omega arith in
      record { turns = omega arith; long = refl; left = rw (a, b, c) }

  module _ (d : List ℕ) (k : ℕ) (v : Copying s from d₀ at n d k) where
    pub copy_more : k < n → Copying s from d₀ at n (set d (at + k) (get_or s (from + k) 0)) (k + 1)
    copy_more h =
        let w : at + k < length d = omega (arith, v.long) in
        let b : at + k + 1 ≤ length d = omega (arith, v.long) in
        let e = put_byte d (at + k) (get_or s (from + k) 0) w in
        let l = length-put d (at + k) (get_or s (from + k) 0 ∷ []) b in
        let f : n - k ≡ suc (n - (k + 1)) = omega arith in
        let g : suc (from + k) ≡ from + (k + 1) = omega arith in
        let p : part (from + k) (n - k) s ≡ get_or s (from + k) 0 ∷ part (from + (k + 1)) (n - (k + 1)) s = rw (f, drop-cons s (from + k) 0 (omega arith), g) in
        record {
          turns = omega arith;
          long = ap length e ∙ l ∙ v.long;
          left =
              ap (λ (y : List ℕ). put y (at + (k + 1)) (part (from + (k + 1)) (n - (k + 1)) s)) e
              ∙ put-put d (at + k) (get_or s (from + k) 0 ∷ []) b (at + (k + 1)) (part (from + (k + 1)) (n - (k + 1)) s) (omega arith)
              ∙ ap (put d (at + k)) (sym p) ∙ v.left;
        }

    pub copy-ends : n ≤ k → d ≡ put d₀ at (part from n s)
    copy-ends h = let f : n - k ≡ 0 = omega arith in sym (put-none d (at + k)) ∙ (rw f at v.left)
