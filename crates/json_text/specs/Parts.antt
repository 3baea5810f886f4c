-- A part that is neither left out nor the beginning of a token, at a byte: by the rule that has the byte, or by none. Which rule that
-- is, is computed for all bytes from one to another at once.
use Rattle.std.specs.Prelude.{◌≡◌, ℕ, ◌+◌, ◌<◌, ◌≤◌, Bool, true, false, ◌&&◌, ◌||◌, List, [], ◌∷◌, ◌++◌, length, drop, nat_le, nat_lt, slice_index, Ok, if◌then◌else◌, Option, None, Some}
use Rattle.std.proofs.Math.Path.{refl}
use Rattle.std.proofs.Common.{sym, subst, ◌∙◌, arith}
use borrow.Author.Tests.{leb-true, ltb-true}
use Rattle.paper.specs.Refusals.{between}
use Rattle.paper.specs.Grammar.{Part, Rule, Bytes, among, optional, rules, one}
use Rattle.paper.specs.Machine.{chosen, settled, move}
use Rattle.paper.specs.JsonRead.{token_of}
use Rattle.laws.specs.Tests.{and_left, and_right, some_one, no_none}
use Rattle.json_text.specs.Left.{left, stops, Ended, fault_at, Ends, left_end, left-stops, left-byte}
use Rattle.json_text.specs.Bytes.{in-range, below-range, above-range}

-- ---- one part at a byte

module _ (s : List ℕ) (g : Part) (gs : List Part) (i : ℕ) where
  -- the text is at its end
  pub part_end : length s ≤ i → left s (g ∷ gs) i ≡ stops i
  part_end h = left_end s (g ∷ gs) i h refl

  module _ (q : optional g ≡ false) (h : i < length s) where
    -- no rule has the byte
    pub part_out : chosen (rules g) (slice_index s i) ≡ None → left s (g ∷ gs) i ≡ stops i
    unfolding settled move
    part_out e = left-stops s (g ∷ gs) i h (rw (q, e))

    -- a rule has it
    pub part_in : (ps : List Part) → chosen (rules g) (slice_index s i) ≡ Some ps → token_of (g ∷ gs) (i + 1) (slice_index s i) (drop (i + 1) s) ≡ []
        → left s (g ∷ gs) i ≡ left s (ps ++ gs) (i + 1)
    unfolding settled move
    part_in ps e t = left-byte s (g ∷ gs) i h (ps ++ gs) (rw (q, e)) (rw q t)

-- one of some bytes
module _ (s : List ℕ) (c : Bytes) (gs : List Part) (i : ℕ) (h : i < length s) where
  pub one_out : among c (slice_index s i) ≡ false → left s (one c ∷ gs) i ≡ stops i
  unfolding optional chosen rules
  one_out e = part_out s (one c) gs i refl h (rw e)

  pub one_in : among c (slice_index s i) ≡ true → left s (one c ∷ gs) i ≡ left s gs (i + 1)
  unfolding optional chosen rules token_of
  one_in e = part_in s (one c) gs i refl h [] (rw e) refl

-- ---- parts read one after the other

-- the parts ps from byte j on have been read up to byte i, where qs are left of them
pub record Going (s : List ℕ) (ps : List Part) (j : ℕ) (qs : List Part) (i : ℕ) : Type 0 where
  pub within : i ≤ length s
  pub onward : j ≤ i
  pub goes : (gs : List Part) → left s (qs ++ gs) i ≡ left s (ps ++ gs) j

module _ (s : List ℕ) (ps : List Part) (j : ℕ) where
  pub going : j ≤ length s → Going s ps j ps j
  going h = record { within = h; onward = omega arith; goes = λ gs. refl }

  module _ (i : ℕ) where
    pub going-as : {qs rs : List Part} → qs ≡ rs → Going s ps j qs i → Going s ps j rs i
    going-as e w = subst (λ (l : List Part). Going s ps j l i) e w

    -- all are read
    pub all_read : Going s ps j [] i → Ends s ps j (Ok i)
    all_read w = record { within = w.within; onward = w.onward; goes = λ gs. sym (w.goes gs) }

    -- the text stops
    pub going-stops : (qs : List Part) → Going s ps j qs i → ((gs : List Part) → left s (qs ++ gs) i ≡ stops i)
        → Ends s ps j (fault_at i)
    going-stops qs w f = record { within = w.within; onward = w.onward; goes = λ gs. sym (w.goes gs) ∙ f gs }

    -- one of some bytes is next
    module _ (c : Bytes) (qs : List Part) (w : Going s ps j (one c ∷ qs) i) where
      pub byte-missing : length s ≤ i → Ends s ps j (fault_at i)
      byte-missing h = going-stops (one c ∷ qs) w (λ gs. part_end s (one c) (qs ++ gs) i h)

      module _ (h : i < length s) where
        pub byte-out : among c (slice_index s i) ≡ false → Ends s ps j (fault_at i)
        byte-out e = going-stops (one c ∷ qs) w (λ gs. one_out s c (qs ++ gs) i h e)

        pub byte-in : among c (slice_index s i) ≡ true → Going s ps j qs (i + 1)
        byte-in e = record {
          within = omega arith;
          onward = omega (arith, w.onward);
          goes = λ gs. sym (one_in s c (qs ++ gs) i h e) ∙ w.goes gs;
        }

-- ---- one part alone

module _ (s : List ℕ) (g : Part) (i : ℕ) where
  pub part-missing : i ≤ length s → length s ≤ i → Ends s (g ∷ []) i (fault_at i)
  part-missing h k = going-stops s (g ∷ []) i i (g ∷ []) (going s (g ∷ []) i h) (λ gs. part_end s g gs i k)

  module _ (q : optional g ≡ false) (h : i < length s) where
    pub part-refused : chosen (rules g) (slice_index s i) ≡ None → Ends s (g ∷ []) i (fault_at i)
    part-refused e = going-stops s (g ∷ []) i i (g ∷ []) (going s (g ∷ []) i (omega arith)) (λ gs. part_out s g gs i q h e)

    -- its first byte, and then the parts of the rule
    module _ (ps : List Part) (c : chosen (rules g) (slice_index s i) ≡ Some ps)
        (t : (gs : List Part) → token_of (g ∷ gs) (i + 1) (slice_index s i) (drop (i + 1) s) ≡ []) where
      pub part_then : (e : Ended) → Ends s ps (i + 1) e → Ends s (g ∷ []) i e
      part_then e w = record {
        within = w.within;
        onward = omega (arith, w.onward);
        goes = λ gs. part_in s g gs i q h ps c (t gs) ∙ w.goes gs;
      }

-- ---- all bytes from l to h at once

-- they lie in one of the ranges
abbrev pub covered : Bytes → ℕ → ℕ → Bool
covered [] l h = false
covered (r ∷ rs) l h = (nat_le r.0 l && nat_le h r.1) || covered rs l h

-- they lie in none
abbrev pub outside : Bytes → ℕ → ℕ → Bool
outside [] l h = true
outside (r ∷ rs) l h = (nat_lt r.1 l || nat_lt h r.0) && outside rs l h

-- what all of them choose, if it is the same
abbrev pub chosen_by : List Rule → ℕ → ℕ → Option (Option (List Part))
chosen_by [] l h = Some None
chosen_by (r ∷ rs) l h = if covered r.byte l h then Some (Some r.rest) else (if outside r.byte l h then chosen_by rs l h else None)

or-true : (x : Bool) → (x || true) ≡ true
or-true true = refl
or-true false = refl

module _ (l h b : ℕ) (i : l ≤ b) (j : b ≤ h) where
  covers : (m n : ℕ) (rs : Bytes) (t : Bool) → (nat_le m l && nat_le h n) ≡ t → (t ≡ false → among rs b ≡ true) → among ((m, n) ∷ rs) b ≡ true
  unfolding among
  covers m n rs true e f =
      let p : m ≤ l = leb-true m l (and_left (nat_le m l) (nat_le h n) e) in
      let q : h ≤ n = leb-true h n (and_right (nat_le m l) (nat_le h n) e) in
      in-range m n b rs (omega arith) (omega arith)
  covers m n rs false e f = rw (f refl) (or-true (between m n b))

  pub among-covered : (rs : Bytes) → covered rs l h ≡ true → among rs b ≡ true
  unfolding among
  among-covered [] e = e
  among-covered (r ∷ rs) e = covers r.0 r.1 rs _ refl (λ z. among-covered rs (rw z at e))

  avoids : (m n : ℕ) (rs : Bytes) (t : Bool) → nat_lt n l ≡ t → (t || nat_lt h m) ≡ true → among ((m, n) ∷ rs) b ≡ among rs b
  avoids m n rs true e f = let p : n < l = ltb-true n l e in above-range m n b rs (omega arith)
  avoids m n rs false e f = let p : h < m = ltb-true h m f in below-range m n b rs (omega arith)

  pub among-outside : (rs : Bytes) → outside rs l h ≡ true → among rs b ≡ false
  unfolding among
  among-outside [] e = refl
  among-outside (r ∷ rs) e =
      avoids r.0 r.1 rs _ refl (and_left (nat_lt r.1 l || nat_lt h r.0) (outside rs l h) e)
      ∙ among-outside rs (and_right (nat_lt r.1 l || nat_lt h r.0) (outside rs l h) e)

  chooses : (r : Rule) (rs : List Rule) (o : Option (List Part)) (t u : Bool) → covered r.byte l h ≡ t → outside r.byte l h ≡ u
      → (if t then Some (Some r.rest) else (if u then chosen_by rs l h else None)) ≡ Some o
      → (chosen_by rs l h ≡ Some o → chosen rs b ≡ o) → chosen (r ∷ rs) b ≡ o
  unfolding chosen
  chooses r rs o true u c d e f = rw (among-covered r.byte c) (some_one _ _ e)
  chooses r rs o false true c d e f = rw (among-outside r.byte d) (f e)
  chooses r rs o false false c d e f = absurd (no_none _ e)

  pub chosen-chosen_by : (rs : List Rule) (o : Option (List Part)) → chosen_by rs l h ≡ Some o → chosen rs b ≡ o
  unfolding chosen
  chosen-chosen_by [] o e = some_one _ _ e
  chosen-chosen_by (r ∷ rs) o e = chooses r rs o _ _ refl refl e (chosen-chosen_by rs o)
