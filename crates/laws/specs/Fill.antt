-- An array's cells as bytes, w to a cell, and what a loop that writes them one after the other into a buffer cites: after k cells
-- the buffer is `paste d at (bytes_of E f) (k * w)`, where d is the buffer before, at its place and f a coordinate's w bytes.
use Prim.Native.Nat.{ℕ, zero, suc, ◌+◌, ◌*◌, ◌≤◌, ◌<◌}
use Rattle.std.specs.Prelude.{◌≡◌, length, get_or, take, drop, set}
use Rattle.std.proofs.Math.Path.{sym, ap}
use Rattle.std.proofs.Common.{ap₂, ◌∙◌, not-suc-le-zero, le_of_suc-le-suc, add_assoc, arith, add-one, length-drop, take_at, drop_at, take-add, drop-drop, get_or-drop}
use mathlib.Core.List.{List, [], ◌∷◌, ◌++◌, append_assoc}
use Rattle.std.proofs.Math.Nat.{zero-mul, suc-mul, add_comm}
use Rattle.std.proofs.Math.ListN.{length-append}
use Rattle.std.proofs.Math.Seq.{paste, paste-suc}
use Rattle.std.proofs.lemmas.List.Edits.{take-paste, drop-paste}
use Rattle.paper.specs.declared.Axis.{Axis}
use Rattle.paper.specs.Numbers.{concat}
use Rattle.paper.specs.Axes.{build}

-- the bytes of cell k of a buffer, w to a cell
abbrev pub piece_at : ℕ → List ℕ → ℕ → List ℕ
piece_at w bs k = take w (drop (k * w) bs)

-- the bytes of an array that is built coordinate by coordinate
abbrev pub bytes_of : List Axis → (List ℕ → List ℕ) → List ℕ
bytes_of E f = concat (build E f)

-- ---- lists of one length, one after the other

module _ (w : ℕ) where
  abbrev pub Each : List (List ℕ) → Type 0
  Each cs = (i : ℕ) → i < length cs → length (get_or cs i []) ≡ w

  each_tail : (c : List ℕ) (cs : List (List ℕ)) → Each (c ∷ cs) → Each cs
  each_tail c cs h i k = h (suc i) (omega arith)

  pub length-concat : (cs : List (List ℕ)) → Each cs → length (concat cs) ≡ length cs * w
  unfolding concat
  length-concat [] h = sym (zero-mul w)
  length-concat (c ∷ cs) h = length-append c (concat cs) ∙ omega (arith, h 0 (omega arith), length-concat cs (each_tail c cs h), suc-mul (length cs) w)

  pub piece-concat : (cs : List (List ℕ)) (k : ℕ) → Each cs → k < length cs → piece_at w (concat cs) k ≡ get_or cs k []
  unfolding concat
  piece-concat [] k h b = absurd (not-suc-le-zero b)
  piece-concat (c ∷ cs) zero h b = rw zero-mul (take_at c (concat cs) w (h 0 (omega arith)))
  piece-concat (c ∷ cs) (suc k) h b =
      let e : suc k * w ≡ w + k * w = suc-mul k w ∙ add_comm (k * w) w in
      rw e (ap (take w) (sym (drop-drop (k * w) w (c ++ concat cs)) ∙ ap (drop (k * w)) (drop_at c (concat cs) w (h 0 (omega arith))))
      ∙ piece-concat cs k (each_tail c cs h) (le_of_suc-le-suc b))

-- ---- a copy that goes on where it stopped

pub paste-paste : {A : Type 0} (d : List A) (at : ℕ) (s : List A) (n m : ℕ) → at ≤ length d → n ≤ length s
    → paste (paste d at s n) (at + n) (drop n s) m ≡ paste d at s (n + m)
paste-paste d at s n m hd hs =
    ap₂ (λ a b. a ++ take m (drop n s) ++ b) (take-paste d at s n hd hs)
    (sym (drop-drop m (at + n) (paste d at s n)) ∙ ap (drop m) (drop-paste d at s n hd hs) ∙ drop-drop m (at + n) d)
    ∙ ap₂ (λ a b. a ++ b) (append_assoc (take at d) (take n s) (take m (drop n s)) ∙ ap (λ r. take at d ++ r) (sym (take-add n m s))) (ap (λ k. drop k d) (add_assoc at n m))

-- ---- a turn of a loop that copies byte by byte, as the code has it
pub paste_more : (d : List ℕ) (at : ℕ) (s : List ℕ) (i k : ℕ) → at + k < length d → i + k < length s
    → set (paste d at (drop i s) k) (at + k) (get_or s (i + k) 0) ≡ paste d at (drop i s) (k + 1)
paste_more d at s i k hd hs = rw (← get_or-drop i s k 0, add-one) (paste-suc d at (drop i s) k 0 hd (simp length-drop (omega arith)))
