-- Along a text from one place to a later one: the fault and the names `data` are those of what is left, and the tokens passed give cells.
use Rattle.std.specs.Prelude.{ℕ, ◌+◌, ◌≡◌, refl, Bool, true, false, List, [], ◌∷◌, ◌++◌, map, if◌then◌else◌, Option, None, Some, Ok, Err}
use Rattle.std.specs.Option.{option_map}
use Rattle.std.proofs.Common.{sym, ap, ◌∙◌, append_assoc}
use Rattle.std.proofs.Math.Option
use Rattle.paper.specs.declared.Cell.{Cell}
use Rattle.paper.specs.Refusals.{Res, ◌>>=◌}
use Rattle.paper.specs.Grammar.{Part, Rule, among, blank, these, optional, rules, values, before}
use Rattle.paper.specs.Grammar.{at, value, items, more_items}
use Rattle.paper.specs.Machine.{chosen, settled, move, step, fault_from}
use Rattle.paper.specs.JsonRead.{Token, Due, outer, token_of, tokens_from, data_in, fits, fitted}

-- ---- with no token, and with tokens that are due and give cells

pub record Quiet (i : ℕ) (gs : List Part) (bs : List ℕ) (hs : List Part) (rest : List ℕ) : Type 0 where
  pub place : ℕ
  pub fault : fault_from gs i bs ≡ fault_from hs place rest
  pub tokens : tokens_from gs i bs ≡ tokens_from hs place rest

pub record Gives (t i : ℕ) (gs : List Part) (bs : List ℕ) (hs : List Part) (rest : List ℕ) (ds : List Due) (cs : List Cell) : Type 0 where
  pub place : ℕ
  pub fault : fault_from gs i bs ≡ fault_from hs place rest
  pub names : data_in (tokens_from gs i bs) ≡ data_in (tokens_from hs place rest)
  pub cells : (es : List Due)
      → fitted t (ds ++ es) (tokens_from gs i bs) ≡ (fitted t es (tokens_from hs place rest) >>= (λ more. Ok (cs ++ more)))

-- ---- one after the other

module _ {i : ℕ} {gs hs ks : List Part} {bs cs es : List ℕ} where
  pub quiet-quiet : (q : Quiet i gs bs hs cs) → Quiet q.place hs cs ks es → Quiet i gs bs ks es
  quiet-quiet q r = record { place = r.place; fault = q.fault ∙ r.fault; tokens = q.tokens ∙ r.tokens }

  module _ {t : ℕ} {ds : List Due} {xs : List Cell} where
    pub quiet-gives : (q : Quiet i gs bs hs cs) → Gives t q.place hs cs ks es ds xs → Gives t i gs bs ks es ds xs
    quiet-gives q r =
        record {
          place = r.place;
          fault = q.fault ∙ r.fault;
          names = ap data_in q.tokens ∙ r.names;
          cells = λ ys. ap (λ (l : List Token). fitted t (ds ++ ys) l) q.tokens ∙ r.cells ys;
        }

    pub gives-quiet : (g : Gives t i gs bs hs cs ds xs) → Quiet g.place hs cs ks es → Gives t i gs bs ks es ds xs
    gives-quiet g q =
        record {
          place = q.place;
          fault = g.fault ∙ q.fault;
          names = g.names ∙ ap data_in q.tokens;
          cells = λ ys. g.cells ys ∙ ap (λ (l : List Token). fitted t ys l >>= (λ more. Ok (xs ++ more))) q.tokens;
        }

bind-twice : (m : Res (List Cell)) (xs ys : List Cell)
    → ((m >>= (λ more. Ok (ys ++ more))) >>= (λ more. Ok (xs ++ more))) ≡ (m >>= (λ more. Ok ((xs ++ ys) ++ more)))
bind-twice (Ok cs) xs ys = ap Ok (sym (append_assoc xs ys cs))
bind-twice (Err r) xs ys = refl

module _ {t i : ℕ} {gs hs ks : List Part} {bs cs es : List ℕ} {ds fs : List Due} {xs ys : List Cell} where
  pub gives_gives : (g : Gives t i gs bs hs cs ds xs) → Gives t g.place hs cs ks es fs ys → Gives t i gs bs ks es (ds ++ fs) (xs ++ ys)
  gives_gives g r =
      record {
        place = r.place;
        fault = g.fault ∙ r.fault;
        names = g.names ∙ r.names;
        cells = λ zs.
            ap (λ (l : List Due). fitted t l (tokens_from gs i bs)) (append_assoc ds fs zs) ∙ g.cells (fs ++ zs)
            ∙ ap (λ (m : Res (List Cell)). m >>= (λ more. Ok (xs ++ more))) (r.cells zs)
            ∙ bind-twice (fitted t zs (tokens_from ks r.place es)) xs ys;
      }

-- ---- one byte

-- a byte at which no token begins
pub quiet_step : (i : ℕ) (gs : List Part) (b : ℕ) (bs : List ℕ) (hs : List Part) → step gs b ≡ Some hs → token_of (settled gs b) i b bs ≡ []
    → Quiet i gs (b ∷ bs) hs bs
unfolding fault_from tokens_from
quiet_step i gs b bs hs e f = record { place = i + 1; fault = rw e; tokens = rw (e, f) }

-- a byte at which a token begins that is due
pub token-step : (t i : ℕ) (gs : List Part) (b : ℕ) (bs : List ℕ) (hs : List Part) (d : Due) (cs : List Cell) → step gs b ≡ Some hs
    → token_of (settled gs b) i b bs ≡ record { place = i; outermost = false; text = b ∷ bs } ∷ [] → fits t d (b ∷ bs) ≡ Some cs
    → Gives t i gs (b ∷ bs) hs bs (d ∷ []) cs
unfolding fault_from tokens_from data_in fitted
token-step t i gs b bs hs d cs e f g = record { place = i + 1; fault = rw e; names = rw (e, f); cells = λ es. rw (e, f) (rw g) }

-- ---- the first item of an array is read as a value

before-chosen : (ps : List Part) (rs : List Rule) (b : ℕ) → chosen (map (before ps) rs) b ≡ option_map (λ qs. qs ++ ps) (chosen rs b)
unfolding chosen
before-chosen ps [] b = refl
before-chosen ps (r ∷ rs) b = go (among r.byte b) (before-chosen ps rs b)
  where
    go : (c : Bool) → chosen (map (before ps) rs) b ≡ option_map (λ qs. qs ++ ps) (chosen rs b)
        → (if c then Some (r.rest ++ ps) else chosen (map (before ps) rs) b) ≡ option_map (λ qs. qs ++ ps)
        (if c then Some r.rest else chosen rs b)
    go true e = refl
    go false e = e

map-twice : (ps gs : List Part) (o : Option (List Part))
    → option_map (λ qs. qs ++ gs) (option_map (λ qs. qs ++ ps) o) ≡ option_map (λ qs. qs ++ (ps ++ gs)) o
map-twice ps gs None = refl
map-twice ps gs (Some qs) = ap Some (append_assoc qs ps gs)

pub item-step : (n : ℕ) (gs : List Part) (b : ℕ) → among blank b ≡ false → among (these "]") b ≡ false
    → step (at items n ∷ gs) b ≡ step (at value n ∷ at more_items n ∷ gs) b
unfolding settled optional move rules chosen
item-step n gs b e f =
    rw (e, f)
    (ap (option_map (λ qs. qs ++ gs)) (before-chosen (at more_items n ∷ []) (values n) b) ∙ map-twice (at more_items n ∷ []) gs
    (chosen (values n) b))

pub item-first : (i n : ℕ) (gs : List Part) (b : ℕ) (bs : List ℕ) → among blank b ≡ false → among (these "]") b ≡ false
    → Quiet i (at items n ∷ gs) (b ∷ bs) (at value n ∷ at more_items n ∷ gs) (b ∷ bs)
unfolding fault_from tokens_from settled optional token_of outer
item-first i n gs b bs e f = record { place = i; fault = rw (item-step n gs b e f); tokens = rw (item-step n gs b e f) }
