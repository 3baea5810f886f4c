-- A cell's text, where a value is due in an array, gives that cell: null, true, false, or a number that a comma or a bracket ends.
use Rattle.std.specs.Prelude.{ℕ, suc, ◌+◌, ◌≤◌, ◌<◌, ◌^◌, ◌≡◌, true, false, ◌&&◌, List, [], ◌∷◌, ◌++◌, eqb, ℤ, pos, negsuc, Some}
use Rattle.std.proofs.Math.Path.{refl}
use Rattle.std.proofs.Common.{sym, ap, ◌∙◌, arith, SFits}
use Rattle.std.specs.Option.{option_map}
use Rattle.std.specs.Int.Signed.{le_z, mag}
use Rattle.std.specs.Int.{w64}
use Rattle.paper.specs.declared.Cell.{Cell}
use Rattle.paper.specs.declared.Cell.TheVariants.{Empty, Int, Float, Truth}
use Rattle.paper.specs.Limits.{INT, FLOAT, BOOLEAN, smallest_int, largest_int}
use Rattle.paper.specs.Numbers.{text, alike}
use Rattle.paper.specs.Rests.{digits, decimal}
use Rattle.laws.specs.Tests.{and_both}
use Rattle.laws.specs.Parts.{fit_parts, yes_le}
use Rattle.laws.specs.Cells.{OfKind}
use Rattle.paper.specs.Grammar.{Part, among, range, these, ends, optional, rules}
use Rattle.paper.specs.Grammar.{number, at, value, more_items, unsigned, after_zero, after_digit}
use Rattle.paper.specs.Machine.{chosen, settled, move, step, fault_from}
use Rattle.paper.specs.Json.{cell_text}
use Rattle.paper.specs.JsonRead.{cell, begins, outer, token_of, tokens_from, data_in, cell_in, fits, fitted}
use Rattle.grammar.specs.Apart.{apart_from, apart, bytes_apart, chosen-it}
use Rattle.grammar.specs.Made.{here, there}
use Rattle.grammar.specs.Tables.{no_true, rules-distinct}
use Rattle.json_trip.specs.Decimals.{Run, end, next, Number, nought, other, Stops, comma, bracket, digit-yes, first-yes}
use Rattle.json_trip.specs.Decimals.{digits_number, begins-no-letter, integer-back}
use Rattle.json_trip.specs.Steps.{Quiet, Gives, quiet-quiet, gives-quiet, quiet_step, token-step}

-- ---- the bytes of a number

-- a digit after digits
more-digit : (i : ℕ) (gs : List Part) (b : ℕ) (bs : List ℕ) → 48 ≤ b → b ≤ 57
    → Quiet i (number after_digit ∷ gs) (b ∷ bs) (number after_digit ∷ gs) bs
unfolding settled optional ends move rules chosen token_of
more-digit i gs b bs p q =
    quiet_step i (number after_digit ∷ gs) b bs (number after_digit ∷ gs) (rw (digit-yes b p q) (rw (digit-yes b p q)))
    (rw (digit-yes b p q))

more-digits : (i : ℕ) (gs : List Part) (ds bs : List ℕ) → Run ds → Quiet i (number after_digit ∷ gs) (ds ++ bs) (number after_digit ∷ gs) bs
more-digits i gs [] bs end = record { place = i; fault = refl; tokens = refl }
more-digits i gs (d ∷ ds) bs (next p q r) =
    let v = more-digit i gs d (ds ++ bs) p q in
    quiet-quiet v (more-digits v.place gs ds bs r)

-- a number ends before a comma or a bracket
digit-ends : (i n : ℕ) (gs : List Part) (c : ℕ) (bs : List ℕ) → Stops c
    → Quiet i (number after_digit ∷ at more_items n ∷ gs) (c ∷ bs) (at more_items n ∷ gs) (c ∷ bs)
unfolding fault_from tokens_from settled optional ends rules chosen among
digit-ends i n gs c bs comma = record { place = i; fault = refl; tokens = refl }
digit-ends i n gs c bs bracket = record { place = i; fault = refl; tokens = refl }

zero-ends : (i n : ℕ) (gs : List Part) (c : ℕ) (bs : List ℕ) → Stops c
    → Quiet i (number after_zero ∷ at more_items n ∷ gs) (c ∷ bs) (at more_items n ∷ gs) (c ∷ bs)
unfolding fault_from tokens_from settled optional ends rules chosen among
zero-ends i n gs c bs comma = record { place = i; fault = refl; tokens = refl }
zero-ends i n gs c bs bracket = record { place = i; fault = refl; tokens = refl }

-- the first digit of a value
digit_value : (n : ℕ) (gs : List Part) (b : ℕ) → 49 ≤ b → b ≤ 57 → step (at value n ∷ gs) b ≡ Some (number after_digit ∷ gs)
unfolding settled optional move rules
digit_value n gs b p q =
    ap (option_map (λ qs. qs ++ gs))
    (chosen-it _ (rules (at value n)) b (rules-distinct (at value n)) (there (there (there (there (there (there (there here)))))))
    (first-yes b p q))

digit-unsigned : (gs : List Part) (b : ℕ) → 49 ≤ b → b ≤ 57 → step (number unsigned ∷ gs) b ≡ Some (number after_digit ∷ gs)
unfolding settled optional ends move rules
digit-unsigned gs b p q =
    ap (option_map (λ qs. qs ++ gs))
    (chosen-it _ (rules (number unsigned)) b (rules-distinct (number unsigned)) (there here) (first-yes b p q))

digit-token : (i n : ℕ) (gs : List Part) (b : ℕ) (bs : List ℕ) → 49 ≤ b → b ≤ 57
    → token_of (at value n ∷ gs) i b bs ≡ record { place = i; outermost = false; text = b ∷ bs } ∷ []
unfolding token_of outer apart apart_from
digit-token i n gs b bs p q = rw (bytes_apart (range 0x31 0x39) (these " \t\n\r,") b refl (first-yes b p q))

-- ---- numbers

module _ (t n : ℕ) (gs : List Part) (c : ℕ) (bs : List ℕ) (s : Stops c) where
  -- without sign
  plain-gives : (i : ℕ) (ds : List ℕ) (x : Cell) → Number ds → fits t cell (ds ++ (c ∷ bs)) ≡ Some (x ∷ [])
      → Gives t i (at value n ∷ at more_items n ∷ gs) (ds ++ (c ∷ bs)) (at more_items n ∷ gs) (c ∷ bs) (cell ∷ []) (x ∷ [])
  unfolding settled optional move rules chosen among token_of outer
  plain-gives i [] x s f = elim s [ ]
  plain-gives i (b ∷ ds) x nought f =
      let g =
      token-step t i (at value n ∷ at more_items n ∷ gs) 48 (c ∷ bs) (number after_zero ∷ at more_items n ∷ gs) cell
      (x ∷ []) refl refl f in
      gives-quiet g (zero-ends g.place n gs c bs s)
  plain-gives i (b ∷ ds) x (other p q r) f =
      let g =
      token-step t i (at value n ∷ at more_items n ∷ gs) b (ds ++ (c ∷ bs)) (number after_digit ∷ at more_items n ∷ gs) cell (x ∷ [])
      (digit_value n (at more_items n ∷ gs) b p q) (digit-token i n (at more_items n ∷ gs) b (ds ++ (c ∷ bs)) p q) f in
      let d = more-digits g.place (at more_items n ∷ gs) ds (c ∷ bs) r in
      gives-quiet g (quiet-quiet d (digit-ends d.place n gs c bs s))

  -- after the minus
  unsigned-quiet : (i : ℕ) (ds : List ℕ) → Number ds
      → Quiet i (number unsigned ∷ at more_items n ∷ gs) (ds ++ (c ∷ bs)) (at more_items n ∷ gs) (c ∷ bs)
  unfolding settled optional ends move rules chosen among token_of
  unsigned-quiet i [] n = elim n [ ]
  unsigned-quiet i (b ∷ ds) nought =
      let g = quiet_step i (number unsigned ∷ at more_items n ∷ gs) 48 (c ∷ bs) (number after_zero ∷ at more_items n ∷ gs) refl refl in
      quiet-quiet g (zero-ends g.place n gs c bs s)
  unsigned-quiet i (b ∷ ds) (other p q r) =
      let g =
      quiet_step i (number unsigned ∷ at more_items n ∷ gs) b (ds ++ (c ∷ bs)) (number after_digit ∷ at more_items n ∷ gs)
      (digit-unsigned (at more_items n ∷ gs) b p q) refl in
      let d = more-digits g.place (at more_items n ∷ gs) ds (c ∷ bs) r in
      quiet-quiet g (quiet-quiet d (digit-ends d.place n gs c bs s))

  minus-gives : (i : ℕ) (ds : List ℕ) (x : Cell) → Number ds → fits t cell (45 ∷ (ds ++ (c ∷ bs))) ≡ Some (x ∷ [])
      → Gives t i (at value n ∷ at more_items n ∷ gs) (45 ∷ (ds ++ (c ∷ bs))) (at more_items n ∷ gs) (c ∷ bs) (cell ∷ []) (x ∷ [])
  unfolding settled optional move rules chosen among token_of outer
  minus-gives i ds x m f =
      let g =
      token-step t i (at value n ∷ at more_items n ∷ gs) 45 (ds ++ (c ∷ bs)) (number unsigned ∷ at more_items n ∷ gs) cell
      (x ∷ []) refl refl f in
      gives-quiet g (unsigned-quiet g.place ds m)

-- ---- the cell that a number is

in-int : (z : ℤ) → SFits w64 z → (le_z smallest_int z && le_z z largest_int) ≡ true
in-int z h =
    let p = fit_parts h in
    and_both (yes_le smallest_int z (omega (arith, p.0, p.1))) (yes_le z largest_int (omega (arith, p.0, p.1)))

mag-fits : (z : ℤ) → SFits w64 z → mag z < 2 ^ 63
mag-fits z h = h.sfits

int-cell : (z : ℤ) (c : ℕ) (bs : List ℕ) → SFits w64 z → Stops c → begins (text "null") (decimal z ++ (c ∷ bs)) ≡ false
    → fits INT cell (decimal z ++ (c ∷ bs)) ≡ Some (Int z ∷ [])
unfolding fits cell_in
int-cell z c bs h s e = rw (e, integer-back z c bs (mag-fits z h) s, in-int z h)

pub most : (x : ℕ) → x < 2 ^ 63 → x < 10 ^ 20
most x h = omega arith

most-negative : (x : ℕ) → x < 2 ^ 63 → suc x < 10 ^ 20
most-negative x h = omega arith

-- ---- words

module _ (n : ℕ) (gs : List Part) (c : ℕ) (bs : List ℕ) (i : ℕ) where
  null-gives : (t : ℕ) → Gives t i (at value n ∷ gs) (text "null" ++ (c ∷ bs)) gs (c ∷ bs) (cell ∷ []) (Empty ∷ [])
  unfolding fault_from tokens_from data_in fitted fits cell_in settled optional move rules chosen among token_of outer alike
  null-gives t = record { place = i + 1 + 1 + 1 + 1; fault = refl; names = refl; cells = λ es. refl }

  true-gives : Gives BOOLEAN i (at value n ∷ gs) (text "true" ++ (c ∷ bs)) gs (c ∷ bs) (cell ∷ []) (Truth true ∷ [])
  unfolding fault_from tokens_from data_in fitted fits cell_in settled optional move rules chosen among token_of outer alike
  true-gives = record { place = i + 1 + 1 + 1 + 1; fault = refl; names = refl; cells = λ es. refl }

  false-gives : Gives BOOLEAN i (at value n ∷ gs) (text "false" ++ (c ∷ bs)) gs (c ∷ bs) (cell ∷ []) (Truth false ∷ [])
  unfolding fault_from tokens_from data_in fitted fits cell_in settled optional move rules chosen among token_of outer alike
  false-gives = record { place = i + 1 + 1 + 1 + 1 + 1; fault = refl; names = refl; cells = λ es. refl }

-- ---- cells

pub cell-gives : (t n : ℕ) (gs : List Part) (c : ℕ) (bs : List ℕ) → Stops c → (eqb t FLOAT ≡ false) → (i : ℕ) (x : Cell) → OfKind t x
    → Gives t i (at value n ∷ at more_items n ∷ gs) (cell_text x ++ (c ∷ bs)) (at more_items n ∷ gs) (c ∷ bs) (cell ∷ []) (x ∷ [])
unfolding OfKind cell_text decimal alike
cell-gives t n gs c bs s f i Empty k = null-gives n (at more_items n ∷ gs) c bs i t
cell-gives t n gs c bs s f i (Int (pos x)) k =
    let m : Number (digits 19 x) = digits_number 19 x (most x (mag-fits (pos x) k.1)) in
    rw k.0
    (plain-gives INT n gs c bs s i (digits 19 x) (Int (pos x)) m
    (int-cell (pos x) c bs k.1 s (begins-no-letter 110 (text "ull") (digits 19 x) (c ∷ bs) m (omega arith))))
cell-gives t n gs c bs s f i (Int (negsuc x)) k =
    let m : Number (digits 19 (suc x)) = digits_number 19 (suc x) (most-negative x (mag-fits (negsuc x) k.1)) in
    rw k.0 (minus-gives INT n gs c bs s i (digits 19 (suc x)) (Int (negsuc x)) m (int-cell (negsuc x) c bs k.1 s refl))
cell-gives t n gs c bs s f i (Float x) k = let z : false ≡ true = sym f ∙ ap (λ (u : ℕ). eqb u FLOAT) k.0 in no_true z
cell-gives t n gs c bs s f i (Truth true) k = rw k (true-gives n (at more_items n ∷ gs) c bs i)
cell-gives t n gs c bs s f i (Truth false) k = rw k (false-gives n (at more_items n ∷ gs) c bs i)
