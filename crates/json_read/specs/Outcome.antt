-- What reading comes to, from what is left of the text: before `data`, in its value with what is due, after a misfit, after a second
-- `data`.
use Rattle.std.specs.Prelude.{ℕ, ◌+◌, ◌≡◌, true, false, List, [], ◌∷◌, ◌++◌, length, Option, None, Some, Ok, Err}
use Rattle.std.proofs.Math.Path.{refl}
use Rattle.std.proofs.Common.{sym, ap, append_assoc}
use Rattle.paper.specs.declared.Cell.{Cell}
use Rattle.paper.specs.Refusals.{Res, ◌>>=◌, ◌>>◌, refusal, present, not_json15, misfit16}
use Rattle.paper.specs.Grammar.{start}
use Rattle.paper.specs.Machine.{given}
use Rattle.paper.specs.JsonRead.{Token, is_data, data_in, second_in, unless15, data_of, Due, fits, fitted}
use Rattle.json_text.specs.Left.{Rest, left, stops, preceded}

-- where in the object reading is, and what is due
pub data Phase : Type 0 where
  before : List Due → Phase
  within : List Due → Phase
  wrong : ℕ → Phase
  twice : ℕ → Phase

-- no second `data` yet
abbrev pub Alive : Phase → Type 0
Alive (before ds) = Unit {0}
Alive (within ds) = Unit {0}
Alive (wrong p) = Unit {0}
Alive (twice p) = ⊥

-- the place of the first `data`
abbrev pub first_in : List Token → Option ℕ
first_in ks = given (data_in ks) None (λ d. Some d.0.place)

-- cells of type t, or the refusal; n is the place one past the text's end
unfoldable pub outcome : ℕ → ℕ → Phase → Rest → Res (List Cell)
outcome t n (before ds) r = do
  unless15 (second_in r.tokens)
  unless15 r.fault
  d ← present (data_in r.tokens) (refusal not_json15 0 n)
  fitted t ds d.1
outcome t n (within ds) r = do
  unless15 (first_in r.tokens)
  unless15 r.fault
  fitted t ds r.tokens
outcome t n (wrong p) r = do
  unless15 (first_in r.tokens)
  unless15 r.fault
  Err (refusal misfit16 0 p)
outcome t n (twice p) r = Err (refusal not_json15 0 p)

-- with cells that were had before
abbrev pub with : List Cell → Res (List Cell) → Res (List Cell)
with cs m = m >>= (λ more. Ok (cs ++ more))

-- all of it is still to be read
pub all_left : (t : ℕ) (ds : List Due) (bs : List ℕ) → (data_of bs >>= fitted t ds) ≡ outcome t (length bs + 1) (before ds) (left bs start 0)
unfolding data_of outcome left
all_left t ds bs = bound (second_in ks) (fault_of bs) (data_in ks)
  where
    ks : List Token
    ks = (left bs start 0).tokens

    fault_of : List ℕ → Option ℕ
    fault_of l = (left l start 0).fault

    bound : (p q : Option ℕ) (o : Option (Token × List Token))
        → ((unless15 p >> (unless15 q >> (present o (refusal not_json15 0 (length bs + 1)) >>= (λ d. Ok d.1)))) >>= fitted t ds)
        ≡ (unless15 p >> (unless15 q >> (present o (refusal not_json15 0 (length bs + 1)) >>= (λ d. fitted t ds d.1))))
    bound (Some i) q o = refl
    bound None (Some i) o = refl
    bound None None None = refl
    bound None None (Some d) = refl

-- ---- no cells before

pub with_none : (m : Res (List Cell)) → m ≡ with [] m
with_none (Ok cs) = refl
with_none (Err r) = refl

-- some, and then more
pub with-more : (cs ds : List Cell) (m : Res (List Cell)) → with cs (with ds m) ≡ with (cs ++ ds) m
with-more cs ds (Ok es) = ap Ok (sym (append_assoc cs ds es))
with-more cs ds (Err r) = refl

-- ---- a token

module _ (t n : ℕ) (k : Token) (r : Rest) where
  abbrev more : Rest
  more = preceded (k ∷ []) r

  module _ (e : is_data k ≡ false) where
    pub before-other : (ds : List Due) → outcome t n (before ds) more ≡ outcome t n (before ds) r
    unfolding outcome data_in
    before-other ds = rw e refl

    pub wrong-other : (p : ℕ) → outcome t n (wrong p) more ≡ outcome t n (wrong p) r
    unfolding outcome data_in
    wrong-other p = rw e refl

    pub within-over : outcome t n (within []) more ≡ outcome t n (within []) r
    unfolding outcome data_in fitted
    within-over = rw e refl

    pub within-fits : (d : Due) (ds : List Due) (cs : List Cell) → fits t d k.text ≡ Some cs
        → outcome t n (within (d ∷ ds)) more ≡ with cs (outcome t n (within ds) r)
    unfolding outcome data_in fitted
    within-fits d ds cs f = rw (e, f) (bound (first_in r.tokens) r.fault)
      where
        bound : (p q : Option ℕ)
            → (unless15 p >> (unless15 q >> (fitted t ds r.tokens >>= (λ xs. Ok (cs ++ xs)))))
            ≡ with cs (unless15 p >> (unless15 q >> fitted t ds r.tokens))
        bound (Some i) q = refl
        bound None (Some i) = refl
        bound None None = refl

    pub within-misfit : (d : Due) (ds : List Due) → fits t d k.text ≡ None
        → outcome t n (within (d ∷ ds)) more ≡ outcome t n (wrong k.place) r
    unfolding outcome data_in fitted
    within-misfit d ds f = rw (e, f) refl

  module _ (e : is_data k ≡ true) where
    pub before-data : (ds : List Due) → outcome t n (before ds) more ≡ outcome t n (within ds) r
    unfolding outcome data_in
    before-data ds = rw e refl

    pub within-data : (ds : List Due) → outcome t n (within ds) more ≡ outcome t n (twice k.place) r
    unfolding outcome data_in
    within-data ds = rw e refl

    pub wrong-data : (p : ℕ) → outcome t n (wrong p) more ≡ outcome t n (twice k.place) r
    unfolding outcome data_in
    wrong-data p = rw e refl

-- ---- nothing is left

abbrev pub done : Rest
done = record { fault = None; tokens = [] }

pub stopped : (t n i : ℕ) (ph : Phase) → Alive ph → outcome t n ph (stops i) ≡ Err (refusal not_json15 0 (i + 1))
unfolding outcome data_in
stopped t n i (before ds) a = refl
stopped t n i (within ds) a = refl
stopped t n i (wrong p) a = refl
stopped t n i (twice p) a = absurd a

pub done-before : (t n : ℕ) (ds : List Due) → outcome t n (before ds) done ≡ Err (refusal not_json15 0 n)
unfolding outcome data_in
done-before t n ds = refl

pub done-over : (t n : ℕ) → outcome t n (within []) done ≡ Ok []
unfolding outcome data_in fitted
done-over t n = refl

pub done-short : (t n : ℕ) (d : Due) (ds : List Due) → outcome t n (within (d ∷ ds)) done ≡ Err (refusal misfit16 0 0)
unfolding outcome data_in fitted
done-short t n d ds = refl

pub done-wrong : (t n p : ℕ) → outcome t n (wrong p) done ≡ Err (refusal misfit16 0 p)
unfolding outcome data_in
done-wrong t n p = refl
