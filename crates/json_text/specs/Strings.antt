-- The characters of a string, one after the other.
use Rattle.std.specs.Prelude.{◌≡◌, ℕ, zero, suc, ◌+◌, ◌-◌, ◌<◌, ◌≤◌, Bool, true, false, leb, List, [], ◌∷◌, ◌++◌, length, drop, replicate, ◌==◌, ◌≢◌, nat_eq, nat_le, slice_index, slice_index_or, IfOk, Ok, Err, Option, None, Some}
use Rattle.std.proofs.Math.Path.{refl, sym, ap}
use Rattle.std.proofs.Common.{◌∙◌, append_assoc, arith}
use Rattle.std.specs.Prelude as std
use Rattle.std.specs.Prelude.{None, Some}
use Rattle.paper.specs.Grammar.{Part, Rule, Bytes, among, range, these, hex_digit, plain, optional, rules, one, chars, escape}
use Rattle.paper.specs.Machine.{chosen, settled, move}
use Rattle.paper.specs.JsonRead.{token_of}
use Rattle.json_text.specs.declared.strings.Lead.{Lead}
use Rattle.json_text.specs.Left.{left, reached, Ended, fault_at, byte_of, Ends}
use Rattle.json_text.specs.Numbers.{Stays, PassedOver}
use Rattle.json_text.specs.Bytes.{below-range, above-range, among-others}
use Rattle.json_text.specs.Parts.{Going, going, going-stops, all_read, part_end, part_out, part_in, part_then, part-refused}

-- ---- the readers' promises

abbrev pub hexes : ℕ → List Part
hexes n = replicate n (one hex_digit)

-- the rules of characters of several bytes: those of `chars` after plain bytes, quote and backslash
unfoldable pub wide : List Rule
unfolding rules
wide = drop 3 (rules chars)

-- so many bytes, the first from l to h, the others further ones
unfoldable pub spanned : ℕ → ℕ → ℕ → List Part
spanned zero l h = []
spanned (suc n) l h = one (range l h) ∷ spanned n 0x80 0xbf

-- what follows a character's first byte
unfoldable pub leading : std.Option Lead → Option (List Part)
leading None = None
leading (Some r) = Some (spanned r.0 r.1 r.2 ++ (chars ∷ []))

-- r is the first byte from i on that is not plain, or the end
pub record Plain (s : List ℕ) (i r : ℕ) : Type 0 where
  pub going : Going s (chars ∷ []) i (chars ∷ []) r
  pub stays : r < length s → among plain (slice_index s r) ≡ false

-- byte i is neither plain nor a quote
abbrev pub Other : List ℕ → ℕ → Type 0
Other s i = (among plain (slice_index s i) ≡ false) × (slice_index s i ≢ 0x22)

-- a character that begins with such a byte ends so, and more characters come
pub record Passes (s : List ℕ) (i : ℕ) (e : Ended) : Type 0 where
  pub within : byte_of e ≤ length s
  pub onward : i ≤ byte_of e
  pub further : IfOk e (λ j. i < j)
  pub goes : Other s i → (gs : List Part) → left s (chars ∷ gs) i ≡ reached s (chars ∷ gs) e

-- ---- bytes left

pub hexes-next : (e i : ℕ) → i < e → hexes (e - i) ≡ one hex_digit ∷ hexes (e - (i + 1))
hexes-next e i h = let q : e - i ≡ suc (e - (i + 1)) = omega arith in rw q

pub spanned-next : (e i l h : ℕ) → i < e → spanned (e - i) l h ≡ one (range l h) ∷ spanned (e - (i + 1)) 0x80 0xbf
unfolding spanned
spanned-next e i l h k = let q : e - i ≡ suc (e - (i + 1)) = omega arith in rw q

pub spanned-none : (e i l h : ℕ) → e ≤ i → spanned (e - i) l h ≡ []
unfolding spanned
spanned-none e i l h k = let q : e - i ≡ 0 = omega arith in rw q

-- a byte outside its range
pub range-low : (l h b : ℕ) → b < l → among (range l h) b ≡ false
unfolding among
range-low l h b k = below-range l h b [] k

pub range-high : (l h b : ℕ) → h < b → among (range l h) b ≡ false
unfolding among
range-high l h b k = above-range l h b [] k

-- ---- characters

-- plain bytes leave them as they are
plain-stays : (gs : List Part) → Stays plain (chars ∷ gs)
unfolding settled optional move chosen rules token_of
plain-stays gs b e = record { goes = rw e refl; quiet = λ i bs. refl }

pub plain-over : (s : List ℕ) (i r : ℕ) → PassedOver plain s i r → Plain s i r
plain-over s i r p = record {
  going = record { within = p.within; onward = p.onward; goes = λ gs. sym (p.over (chars ∷ gs) (plain-stays gs)) };
  stays = p.other;
}

-- ---- what follows a backslash

-- the letters and signs that stand alone there
abbrev pub alone : Bytes
alone = these "\"\\/bfnrt"

module _ (s : List ℕ) (i : ℕ) (h : i < length s) where
  pub escape-alone : among alone (slice_index s i) ≡ true → Ends s (escape ∷ []) i (Ok (i + 1))
  unfolding optional chosen rules token_of
  escape-alone e =
      part_then s escape i refl h [] (rw e) (λ gs. refl) _ (all_read s [] (i + 1) (i + 1) (going s [] (i + 1) (omega arith)))

  pub escape-hex : slice_index_or s i 0 ≡ 0x75 → (e : Ended) → Ends s (hexes 4) (i + 1) e → Ends s (escape ∷ []) i e
  unfolding optional chosen rules token_of among
  escape-hex q e w = part_then s escape i refl h (hexes 4) (rw q) (λ gs. refl) e w

  pub escape-refused : among alone (slice_index s i) ≡ false → among (these "u") (slice_index s i) ≡ false
      → Ends s (escape ∷ []) i (fault_at i)
  unfolding optional chosen rules
  escape-refused e f = part-refused s escape i refl h (rw (e, f))

-- ---- a character that is neither plain nor the closing quote

-- its first byte, in the table
module _ (b : ℕ) where
  pub chosen-escape : b ≡ 0x5c → chosen (rules chars) b ≡ Some (escape ∷ chars ∷ [])
  unfolding chosen rules among
  chosen-escape q = rw q

  pub chosen-wide : among plain b ≡ false → (b ≢ 0x22) → (b ≢ 0x5c) → chosen (rules chars) b ≡ chosen wide b
  unfolding chosen rules wide
  chosen-wide p q r =
      let x : among (these "\"") b ≡ false = among-others (0x22 ∷ []) b q (these "\"") refl in
      let y : among (these "\\") b ≡ false = among-others (0x5c ∷ []) b r (these "\\") refl in
      rw (p, x, y)

-- it ends behind its first byte
onward-more : (i : ℕ) (e : Ended) → i + 1 ≤ byte_of e → IfOk e (λ j. i < j)
onward-more i (Ok j) h = omega arith
onward-more i (Err f) h = tt

module _ (s : List ℕ) (i : ℕ) where
  pub pass-missing : i ≤ length s → length s ≤ i → Passes s i (fault_at i)
  pass-missing h k = record {
    within = h;
    onward = omega arith;
    further = tt;
    goes = λ o gs. part_end s chars gs i k;
  }

  module _ (h : i < length s) where
    -- no rule has its first byte
    pub pass-refused : (Other s i → chosen (rules chars) (slice_index s i) ≡ None) → Passes s i (fault_at i)
    unfolding optional
    pass-refused f = record {
      within = omega arith;
      onward = omega arith;
      further = tt;
      goes = λ o gs. part_out s chars gs i refl h (f o);
    }

    -- the parts behind it end so
    pub pass-then : (ps : List Part) (e : Ended) → Ends s ps (i + 1) e
        → (Other s i → chosen (rules chars) (slice_index s i) ≡ Some (ps ++ (chars ∷ []))) → Passes s i e
    unfolding optional token_of
    pass-then ps e w f = record {
      within = w.within;
      onward = omega (arith, w.onward);
      further = onward-more i e w.onward;
      goes = λ o gs.
          part_in s chars gs i refl h (ps ++ (chars ∷ [])) (f o) refl
          ∙ ap (λ (l : List Part). left s l (i + 1)) (append_assoc ps (chars ∷ []) gs) ∙ w.goes (chars ∷ gs);
    }

-- ---- the loop over a string

-- up to byte i, which is not plain if it is there
module _ (s : List ℕ) (j i : ℕ) (w : Going s (chars ∷ []) j (chars ∷ []) i) where
  pub string-missing : length s ≤ i → Ends s (chars ∷ []) j (fault_at i)
  string-missing h = going-stops s (chars ∷ []) j i (chars ∷ []) w (λ gs. part_end s chars gs i h)

  module _ (h : i < length s) where
    pub string-quote : slice_index_or s i 0 ≡ 0x22 → Ends s (chars ∷ []) j (Ok (i + 1))
    unfolding optional chosen rules among token_of
    string-quote q = record {
      within = omega arith;
      onward = omega (arith, w.onward);
      goes = λ gs. sym (w.goes gs) ∙ part_in s chars gs i refl h [] (rw q) refl;
    }
