-- The tokens of a whole object do not run out: the last is its closing brace, which fits nothing. So where reading refuses with 16, its
-- place is a token's.
use Rattle.std.specs.Prelude.{ℕ, ◌+◌, ◌≡◌, refl, Bool, true, false, ◌&&◌, ◌||◌, List, [], ◌∷◌, ◌++◌, eqb, leb, ◌⊎◌, if◌then◌else◌, Option, None, Some, Ok, Err}
use Rattle.std.proofs.Common.{sym, ap, ◌∙◌, subst, arith, eqb-true, leb-true, inl, inr}
use Rattle.std.specs.Option.{option_map}
use Rattle.paper.specs.declared.Cell.{Cell}
use Rattle.paper.specs.declared.Refusal.{Refusal}
use Rattle.paper.specs.Limits.{INT}
use Rattle.paper.specs.Refusals.{Res, ◌>>=◌, refusal, present, misfit16}
use Rattle.paper.specs.Numbers.{text, alike}
use Rattle.laws.specs.Tests.{and_left, and_right, none-refused, no_none, some_one}
use Rattle.paper.specs.Grammar.{Spot, Part, among, blank, these, optional, rules, start}
use Rattle.paper.specs.Grammar.{one, chars, escape, number, colon, at, value, items, more_items, object, members, member, more_members}
use Rattle.paper.specs.Machine.{given, chosen, settled, move, step, fault_from, fault}
use Rattle.paper.specs.JsonRead.{Token, Due, opening, closing, cell, token_of, tokens_from, begins, is_data, data_in, digits_of, natural}
use Rattle.paper.specs.JsonRead.{cell_in, fits, fitted}
use Rattle.grammar.specs.Tables.{no_true}
use Rattle.grammar.specs.Going.{chosen-rule, map-some}
use Rattle.grammar.specs.Printed.{AllOf, each}

-- ---- a closing brace fits nothing

abbrev pub Brace : List ℕ → Type 0
Brace bs = begins (text "}") bs ≡ true

either-none : (c : Bool) → ◌≡◌ {A = Option Cell} (if c then None else None) None
either-none true = refl
either-none false = refl

brace-fits : (t : ℕ) (d : Due) (bs : List ℕ) → fits t d (125 ∷ bs) ≡ None
unfolding fits cell_in natural digits_of among alike
brace-fits t opening bs = refl
brace-fits t closing bs = refl
brace-fits t cell bs = ap (option_map (λ (x : Cell). x ∷ [])) (either-none (eqb t INT))

fits-none : (t : ℕ) (d : Due) (bs : List ℕ) → Brace bs → fits t d bs ≡ None
unfolding alike
fits-none t d [] e = no_true e
fits-none t d (b ∷ bs) e = let q : b ≡ 125 = eqb-true b 125 (and_left (eqb b 125) true e) in rw q (brace-fits t d bs)

-- ---- the last token is one

pub data Ends : List Token → Type 0 where
  last : {k : Token} → Brace k.text → Ends (k ∷ [])
  more : {k : Token} {ks : List Token} → Ends ks → Ends (k ∷ ks)

ends-split : (k : Token) (ks : List Token) → Ends (k ∷ ks) → Brace k.text ⊎ Ends ks
ends-split k ks (last b) = inl b
ends-split k ks (more x) = inr x

-- one of these tokens
pub data Among (k : Token) : List Token → Type 0 where
  here : {ks : List Token} → Among k (k ∷ ks)
  there : {j : Token} {ks : List Token} → Among k ks → Among k (j ∷ ks)

pub fitted-token : (t : ℕ) (ds : List Due) (ks : List Token) (r : Refusal) → Ends ks → fitted t ds ks ≡ Err r
    → (k : Token) × Among k ks × (refusal misfit16 0 k.place ≡ r)
unfolding fitted
fitted-token t (d ∷ ds) [] r e f = elim e [ ]
fitted-token t [] ks r e f = absurd (none-refused [] r f)
fitted-token t (d ∷ ds) (k ∷ ks) r e f = go (fits t d k.text) refl f (λ h g. fitted-token t ds ks r h g) e
  where
    one-refused : (x y : Refusal) → ◌≡◌ {A = Res (List Cell)} (Err x) (Err y) → x ≡ y
    one-refused x y q = cc

    bound : (cs : List Cell) (m : Res (List Cell)) → (m >>= (λ more. Ok (cs ++ more))) ≡ Err r → m ≡ Err r
    bound cs (Ok ds) q = absurd (none-refused _ r q)
    bound cs (Err x) q = ap Err (one-refused x r q)

    go : (o : Option (List Cell)) → fits t d k.text ≡ o
        → (present o (refusal misfit16 0 k.place) >>= (λ cs. fitted t ds ks >>= (λ more. Ok (cs ++ more)))) ≡ Err r
        → (Ends ks → fitted t ds ks ≡ Err r → (j : Token) × Among j ks × (refusal misfit16 0 j.place ≡ r)) → Ends (k ∷ ks)
        → (j : Token) × Among j (k ∷ ks) × (refusal misfit16 0 j.place ≡ r)
    go None h g ih e = (k, here, one-refused _ r g)
    go (Some cs) h g ih e = by (ends-split k ks e)
      where
        by : Brace k.text ⊎ Ends ks → (j : Token) × Among j (k ∷ ks) × (refusal misfit16 0 j.place ≡ r)
        by (inl b) = absurd (no_none cs (sym (fits-none t d k.text b) ∙ h))
        by (inr x) = let v = ih x (bound cs (fitted t ds ks) g) in (v.0, there v.1, v.2)

quote-brace : (bs : List ℕ) → begins (text "\"") bs ≡ true → Brace bs → ⊥
unfolding alike
quote-brace [] p q = no_true p
quote-brace (b ∷ bs) p q =
    let x : b ≡ 34 = eqb-true b 34 (and_left (eqb b 34) true p) in let y : b ≡ 125 = eqb-true b 125 (and_left (eqb b 125) true q) in
    omega arith

-- what follows `data` ends so too
data-ends : (ks : List Token) (k : Token) (js : List Token) → Ends ks → data_in ks ≡ Some (k, js) → Ends js
unfolding data_in
data-ends [] k js e f = elim e [ ]
data-ends (x ∷ ks) k js e f = go (is_data x) refl f (data-ends ks k js) e
  where
    its-quote : is_data x ≡ true → begins (text "\"") x.text ≡ true
    its-quote h = and_left (begins (text "\"") x.text) _ (and_right x.outermost _ h)

    go : (c : Bool) → is_data x ≡ c → (if c then Some (x, ks) else data_in ks) ≡ Some (k, js)
        → (Ends ks → data_in ks ≡ Some (k, js) → Ends js) → Ends (x ∷ ks) → Ends js
    go true h g ih y =
        let q : ks ≡ js = ap (λ (v : Token × List Token). v.1) (some_one {A = Token × List Token} (x, ks) (k, js) g) in
        subst Ends q (rest ks y)
      where
        rest : (l : List Token) → Ends (x ∷ l) → Ends l
        rest l (last b) = absurd (quote-brace x.text (its-quote h) b)
        rest l (more z) = z
    go false h g ih y = some-rest ks y g ih
      where
        some-rest : (l : List Token) → Ends (x ∷ l) → data_in l ≡ Some (k, js) → (Ends l → data_in l ≡ Some (k, js) → Ends js) → Ends js
        some-rest l (last b) w i = absurd (no_none {A = Token × List Token} (k, js) w)
        some-rest l (more z) w i = i z w

-- ---- the machine's last token

-- the object is still open: the last part is one of its own
unfoldable pub own : Spot → Bool
own value = false
own items = false
own more_items = false
own object = true
own members = true
own member = true
own more_members = true

unfoldable pub still : List Part → Bool
still [] = false
still (one c ∷ []) = false
still (chars ∷ []) = false
still (escape ∷ []) = false
still (number d ∷ []) = false
still (colon ∷ []) = false
still (at s n ∷ []) = own s
still (one c ∷ h ∷ gs) = still (h ∷ gs)
still (chars ∷ h ∷ gs) = still (h ∷ gs)
still (escape ∷ h ∷ gs) = still (h ∷ gs)
still (number d ∷ h ∷ gs) = still (h ∷ gs)
still (colon ∷ h ∷ gs) = still (h ∷ gs)
still (at s n ∷ h ∷ gs) = still (h ∷ gs)

still-rest : (g h : Part) (gs : List Part) → still (g ∷ h ∷ gs) ≡ still (h ∷ gs)
unfolding still
still-rest (one c) h gs = refl
still-rest chars h gs = refl
still-rest escape h gs = refl
still-rest (number d) h gs = refl
still-rest colon h gs = refl
still-rest (at s n) h gs = refl

still-more : (ps : List Part) (h : Part) (gs : List Part) → still (h ∷ gs) ≡ true → still (ps ++ (h ∷ gs)) ≡ true
still-more [] h gs e = e
still-more (p ∷ []) h gs e = still-rest p h gs ∙ e
still-more (p ∷ q ∷ ps) h gs e = still-rest p q (ps ++ (h ∷ gs)) ∙ still-more (q ∷ ps) h gs e

-- one of the object's own parts, moved on: it is still open, or this was its closing brace
abbrev Goes : ℕ → List Part → Type 0
Goes b ps = (still (ps ++ []) ≡ true) ⊎ ((ps ≡ []) × (among (these "}") b ≡ true))

own-all : (s : Spot) (n b : ℕ) → own s ≡ true → AllOf (λ q. among q.byte b ≡ true → Goes b q.rest) (rules (at s n))
unfolding rules own still
own-all value n b o = no_true o
own-all items n b o = no_true o
own-all more_items n b o = no_true o
own-all object n b o = ((λ h. inl refl), ((λ h. inl refl), tt))
own-all members n b o = ((λ h. inl refl), ((λ h. inr (refl, h)), ((λ h. inl refl), tt)))
own-all member n b o = ((λ h. inl refl), ((λ h. inl refl), tt))
own-all more_members n b o = ((λ h. inl refl), ((λ h. inl refl), ((λ h. inr (refl, h)), tt)))

own-goes : (s : Spot) (n b : ℕ) (ps : List Part) → own s ≡ true → chosen (rules (at s n)) b ≡ Some ps → Goes b ps
own-goes s n b ps o e =
    let r = chosen-rule (rules (at s n)) b ps e in
    subst (Goes b) r.3 (each (λ q. among q.byte b ≡ true → Goes b q.rest) (rules (at s n)) (own-all s n b o) r.0 r.1 r.2)

-- after a byte: still open, or closed by this brace
data After (gs : List Part) (b : ℕ) (hs : List Part) : Type 0 where
  still_open : still hs ≡ true → After gs b hs
  closed : (s : Spot) (n : ℕ) → settled gs b ≡ at s n ∷ [] → hs ≡ [] → among (these "}") b ≡ true → After gs b hs

-- with one part, and with more
one-after : (gs : List Part) (s : Spot) (n b : ℕ) (hs : List Part) → settled gs b ≡ at s n ∷ [] → own s ≡ true → step gs b ≡ Some hs
    → After gs b hs
unfolding move
one-after gs s n b hs q o e =
    let f : option_map (λ ps. ps ++ []) (chosen (rules (at s n)) b) ≡ Some hs = ap (λ (l : List Part). move l b) (sym q) ∙ e in
    let v = map-some (λ ps. ps ++ []) (chosen (rules (at s n)) b) hs f in
    go v.0 v.2 (own-goes s n b v.0 o v.1)
  where
    go : (ps : List Part) → ps ++ [] ≡ hs → Goes b ps → After gs b hs
    go ps w (inl x) = still_open (rw w at x)
    go ps w (inr x) = closed s n q (sym w ∙ ap (λ (l : List Part). l ++ []) x.0) x.1

more-after : (gs : List Part) (g h : Part) (ks : List Part) (b : ℕ) (hs : List Part) → settled gs b ≡ g ∷ h ∷ ks → still (h ∷ ks) ≡ true
    → step gs b ≡ Some hs → After gs b hs
unfolding move
more-after gs g h ks b hs q o e =
    let f : option_map (λ ps. ps ++ (h ∷ ks)) (chosen (rules g) b) ≡ Some hs = ap (λ (l : List Part). move l b) (sym q) ∙ e in
    let v = map-some (λ ps. ps ++ (h ∷ ks)) (chosen (rules g) b) hs f in
    still_open (rw v.2 at (still-more v.0 h ks o))

tail-after : (gs : List Part) (b : ℕ) (hs l : List Part) → settled gs b ≡ l → still l ≡ true → step gs b ≡ Some hs → After gs b hs
unfolding still
tail-after gs b hs [] q o e = no_true o
tail-after gs b hs (one c ∷ []) q o e = no_true o
tail-after gs b hs (chars ∷ []) q o e = no_true o
tail-after gs b hs (escape ∷ []) q o e = no_true o
tail-after gs b hs (number d ∷ []) q o e = no_true o
tail-after gs b hs (colon ∷ []) q o e = no_true o
tail-after gs b hs (at s n ∷ []) q o e = one-after gs s n b hs q o e
tail-after gs b hs (g ∷ h ∷ ks) q o e = more-after gs g h ks b hs q (sym (still-rest g h ks) ∙ o) e

settled-still : (gs : List Part) (b : ℕ) → still gs ≡ true → still (settled gs b) ≡ true
unfolding settled still optional
settled-still [] b e = no_true e
settled-still (one c ∷ []) b e = no_true e
settled-still (chars ∷ []) b e = no_true e
settled-still (escape ∷ []) b e = no_true e
settled-still (number d ∷ []) b e = no_true e
settled-still (colon ∷ []) b e = no_true e
settled-still (at s n ∷ []) b e = e
settled-still (g ∷ h ∷ gs) b e = go (optional g) (chosen (rules g) b)
  where
    go : (c : Bool) (o : Option (List Part)) → still (if c then given o (h ∷ gs) (λ ps. g ∷ h ∷ gs) else g ∷ h ∷ gs) ≡ true
    go true None = sym (still-rest g h gs) ∙ e
    go true (Some ps) = e
    go false o = e

-- ---- the last token of a text without a fault

brace-is : (b : ℕ) → among (these "}") b ≡ true → b ≡ 125
unfolding among
brace-is b e = go (leb 125 b && leb b 125) refl e
  where
    go : (c : Bool) → (leb 125 b && leb b 125) ≡ c → (c || false) ≡ true → b ≡ 125
    go true h f = omega (arith, leb-true 125 b (and_left (leb 125 b) (leb b 125) h), leb-true b 125 (and_right (leb 125 b) (leb b 125) h))
    go false h f = no_true f

after-end : (i : ℕ) (bs : List ℕ) → tokens_from [] i bs ≡ []
unfolding tokens_from settled move token_of
after-end i [] = refl
after-end i (b ∷ bs) = go (among blank b) (after-end (i + 1) bs)
  where
    go : (c : Bool) → tokens_from [] (i + 1) bs ≡ []
        → given (if c then Some [] else None) [] (λ (hs : List Part). tokens_from hs (i + 1) bs) ≡ []
    go true h = h
    go false h = refl

ends-append : (ts ks : List Token) → Ends ks → Ends (ts ++ ks)
ends-append [] ks e = e
ends-append (t ∷ ts) ks e = more (ends-append ts ks e)

brace-ends : (s : Spot) (n i b : ℕ) (bs : List ℕ) → among (these "}") b ≡ true → Ends (token_of (at s n ∷ []) i b bs ++ [])
unfolding token_of among alike
brace-ends s n i b bs h = rw (brace-is b h) (last refl)

pub tokens-end : (gs : List Part) (i : ℕ) (bs : List ℕ) → still gs ≡ true → fault_from gs i bs ≡ None → Ends (tokens_from gs i bs)
unfolding fault_from tokens_from still
tokens-end [] i [] o e = no_true o
tokens-end (g ∷ gs) i [] o e = absurd (no_none i (sym e))
tokens-end gs i (b ∷ bs) o e = go (step gs b) refl e (λ hs x y. tokens-end hs (i + 1) bs x y)
  where
    go : (r : Option (List Part)) → step gs b ≡ r → given r (Some i) (λ hs. fault_from hs (i + 1) bs) ≡ None
        → ((hs : List Part) → still hs ≡ true → fault_from hs (i + 1) bs ≡ None → Ends (tokens_from hs (i + 1) bs))
        → Ends (given r [] (λ hs. token_of (settled gs b) i b bs ++ tokens_from hs (i + 1) bs))
    go None h f ih = absurd (no_none i (sym f))
    go (Some hs) h f ih = by (tail-after gs b hs (settled gs b) refl (settled-still gs b o) h)
      where
        by : After gs b hs → Ends (token_of (settled gs b) i b bs ++ tokens_from hs (i + 1) bs)
        by (still_open x) = ends-append (token_of (settled gs b) i b bs) (tokens_from hs (i + 1) bs) (ih hs x f)
        by (closed s n q z c) = rw (q, z, after-end (i + 1) bs) (brace-ends s n i b bs c)

-- ---- the law

start-still : still start ≡ true
unfolding still own
start-still = refl

-- where a text has one object and its `data`, a refusal 16 is at one of the tokens after it
pub misfit-at-token : (t : ℕ) (ds : List Due) (bs : List ℕ) (k : Token) (ks : List Token) (r : Refusal) → fault bs ≡ None
    → data_in (tokens_from start 1 bs) ≡ Some (k, ks)
    → fitted t ds ks ≡ Err r → (j : Token) × Among j ks × (refusal misfit16 0 j.place ≡ r)
misfit-at-token t ds bs k ks r f d e =
    fitted-token t ds ks r (data-ends (tokens_from start 1 bs) k ks (tokens-end start 1 bs start-still f) d) e
