-- What is left of a text from byte i on (i from 0) while parts are still to come: where it stops being JSON, and its tokens. A reader of a
-- part says how what is left with the part in front follows from what is left behind it.
use Rattle.std.specs.Prelude.{◌≡◌, ℕ, ◌+◌, ◌<◌, ◌≤◌, false, List, [], ◌∷◌, ◌++◌, length, drop, slice_index, refl, Result, Ok, Err, Option, None, Some}
use Rattle.std.proofs.Common.{sym, ap, ◌∙◌, add-one, drop-cons}
use Rattle.std.proofs.Math.ListN.{drop_of_length-le}
use Rattle.paper.specs.Grammar.{Part}
use Rattle.paper.specs.Machine.{settled, step, complete, fault_from}
use Rattle.paper.specs.JsonRead.{Token, token_of, tokens_from}
use Rattle.json_text.specs.declared.Fault.{Fault}

-- the fault and the tokens
pub record Rest : Type 0 where
  pub fault : Option ℕ
  pub tokens : List Token

unfoldable pub left : List ℕ → List Part → ℕ → Rest
left s gs i = record { fault = fault_from gs (i + 1) (drop i s); tokens = tokens_from gs (i + 1) (drop i s) }

-- the text stops being JSON with byte i, and no token is left
abbrev pub stops : ℕ → Rest
stops i = record { fault = Some (i + 1); tokens = [] }

-- what a reader of a part answers: where it ends, or where the text stops being JSON
abbrev pub Ended : Type 0
Ended = Result ℕ Fault

abbrev pub fault_at : ℕ → Ended
fault_at i = Err (record { 0 = i })

-- the byte where it stands then
abbrev pub byte_of : Ended → ℕ
byte_of (Ok i) = i
byte_of (Err f) = f.0

-- what is left there, with these parts to come
abbrev pub reached : List ℕ → List Part → Ended → Rest
reached s gs (Ok i) = left s gs i
reached s gs (Err f) = stops f.0

-- the parts ps from byte i on end so, whatever comes after them
pub record Ends (s : List ℕ) (ps : List Part) (i : ℕ) (e : Ended) : Type 0 where
  pub within : byte_of e ≤ length s
  pub onward : i ≤ byte_of e
  pub goes : (gs : List Part) → left s (ps ++ gs) i ≡ reached s gs e

-- ---- one byte

byte_next : (s : List ℕ) (i : ℕ) → i < length s → drop i s ≡ slice_index s i ∷ drop (i + 1) s
byte_next s i h = drop-cons s i 0 h ∙ ap (λ (n : ℕ). slice_index s i ∷ drop n s) (sym (add-one i))

module _ (s : List ℕ) (gs : List Part) (i : ℕ) where
  -- the text is at its end, and a part is missing
  pub left_end : length s ≤ i → complete gs ≡ false → left s gs i ≡ stops i
  unfolding left fault_from tokens_from
  left_end h c = let e : drop i s ≡ [] = drop_of_length-le s {i = i} h in rw (e, c)

  module _ (h : i < length s) where
    -- no part goes on with the byte
    pub left-stops : step gs (slice_index s i) ≡ None → left s gs i ≡ stops i
    unfolding left fault_from tokens_from
    left-stops e = rw (byte_next s i h, e)

    -- a byte at which no token begins
    pub left-byte : (hs : List Part) → step gs (slice_index s i) ≡ Some hs
        → token_of (settled gs (slice_index s i)) (i + 1) (slice_index s i) (drop (i + 1) s) ≡ [] → left s gs i ≡ left s hs (i + 1)
    unfolding left fault_from tokens_from
    left-byte hs e f = rw (byte_next s i h, e, f)

-- a token in front of what is left
abbrev pub preceded : List Token → Rest → Rest
preceded ks r = record { fault = r.fault; tokens = ks ++ r.tokens }

pub left-token : (s : List ℕ) (gs : List Part) (i : ℕ) → i < length s → (hs : List Part) → step gs (slice_index s i) ≡ Some hs
    → left s gs i ≡ preceded (token_of (settled gs (slice_index s i)) (i + 1) (slice_index s i) (drop (i + 1) s)) (left s hs (i + 1))
unfolding left fault_from tokens_from
left-token s gs i h hs e = rw (byte_next s i h, e)

-- parts that settle alike
pub left-settled : (s : List ℕ) (gs hs : List Part) (i : ℕ) → i < length s → settled gs (slice_index s i) ≡ settled hs (slice_index s i)
    → left s gs i ≡ left s hs i
unfolding left fault_from tokens_from
left-settled s gs hs i h e = rw (byte_next s i h, e) refl
