-- Whatever is to come can be brought to an end: a shortest text for each part.
use Rattle.std.specs.Prelude.{ℕ, ◌≡◌, refl, true, List, [], ◌∷◌, ◌++◌, leb}
use Rattle.std.proofs.Common.{arith, le-leb}
use Rattle.paper.specs.Numbers.{text}
use Rattle.grammar.specs.Made.{here, there, Made, without, by}
use Rattle.paper.specs.Grammar.{Bytes, Part, among, ends, optional, rules}
use Rattle.paper.specs.Grammar.{one, chars, escape, number, colon, at, unsigned, after_zero, after_digit, after_fraction, after_e}
use Rattle.paper.specs.Grammar.{after_exponent}
use Rattle.paper.specs.Grammar.{value, items, more_items, object, members, member, more_members}
use Rattle.grammar.specs.Tables.{no_true, full}

-- a text for a part
unfoldable pub finish : Part → List ℕ
finish (one []) = []
finish (one (r ∷ c)) = r.0 ∷ []
finish chars = text "\""
finish escape = text "n"
finish (number unsigned) = text "0"
finish (number after_zero) = []
finish (number after_digit) = []
finish (number after_fraction) = []
finish (number after_e) = text "0"
finish (number after_exponent) = []
finish colon = text ":"
finish (at value n) = text "0"
finish (at items n) = text "]"
finish (at more_items n) = text "]"
finish (at object n) = text "{}"
finish (at members n) = text "}"
finish (at member n) = text "\"\":0}"
finish (at more_members n) = text "}"

first-among : (r : ℕ × ℕ) (c : Bytes) → leb r.0 r.1 ≡ true → among (r ∷ c) r.0 ≡ true
unfolding among
first-among r c e = rw (le-leb r.0 r.0 (omega arith), e)

pub finished : (g : Part) (gs : List Part) (bs : List ℕ) → full g ≡ true → Made gs bs → Made (g ∷ gs) (finish g ++ bs)
unfolding finish full rules among optional ends
finished (one []) gs bs f m = no_true f
finished (one (r ∷ c)) gs bs f m = by _ here (first-among r c f) m
finished chars gs bs f m = by _ (there here) refl m
finished escape gs bs f m = by _ here refl m
finished (number unsigned) gs bs f m = by _ here refl (without refl m)
finished (number after_zero) gs bs f m = without refl m
finished (number after_digit) gs bs f m = without refl m
finished (number after_fraction) gs bs f m = without refl m
finished (number after_e) gs bs f m = by _ (there here) refl (without refl m)
finished (number after_exponent) gs bs f m = without refl m
finished colon gs bs f m = by _ (there here) refl m
finished (at value n) gs bs f m = by _ (there (there (there (there (there (there here)))))) refl (without refl m)
finished (at items n) gs bs f m = by _ (there here) refl m
finished (at more_items n) gs bs f m = by _ (there (there here)) refl m
finished (at object n) gs bs f m = by _ (there here) refl (by _ (there here) refl m)
finished (at members n) gs bs f m = by _ (there here) refl m
finished (at member n) gs bs f m =
    by _ (there here) refl
    (by _ (there here) refl
    (by _ (there here) refl
    (by _ (there (there (there (there (there (there here)))))) refl (without refl
    (by _ (there (there here)) refl m)))))
finished (at more_members n) gs bs f m = by _ (there (there here)) refl m

-- a text for parts in order
unfoldable pub finish_all : List Part → List ℕ
finish_all [] = []
finish_all (g ∷ gs) = finish g ++ finish_all gs
