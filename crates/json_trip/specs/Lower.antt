-- "whichever is lower": a second `data` always stands before the fault, since every token does.
use Rattle.std.specs.Prelude.{ℕ, ◌+◌, ◌≤◌, ◌<◌, ◌≡◌, refl, Bool, true, false, List, [], ◌∷◌, ◌++◌, if◌then◌else◌, Option, None, Some}
use Rattle.std.proofs.Common.{ap, arith}
use Rattle.paper.specs.Grammar.{Part, among, these, start}
use Rattle.paper.specs.Grammar.{one, chars, escape, number, colon, at}
use Rattle.paper.specs.Machine.{given, settled, step, complete, fault_from, fault}
use Rattle.paper.specs.JsonRead.{Token, outer, token_of, tokens_from, is_data, data_in, second_in}
use Rattle.laws.specs.Tests.{no_none, some_one}

-- every token of the list stands before place k
abbrev pub Before : ℕ → List Token → Type 0
Before k [] = Unit {0}
Before k (t ∷ ts) = (t.place < k) × Before k ts

before-append : (k : ℕ) (ts us : List Token) → Before k ts → Before k us → Before k (ts ++ us)
before-append k [] us p q = q
before-append k (t ∷ ts) us p q = (p.0, before-append k ts us p.1 q)

one-before : (k : ℕ) (gs : List Part) (i b : ℕ) (bs : List ℕ) → i < k → Before k (token_of gs i b bs)
unfolding token_of
one-before k [] i b bs h = tt
one-before k (one c ∷ gs) i b bs h = tt
one-before k (chars ∷ gs) i b bs h = tt
one-before k (escape ∷ gs) i b bs h = tt
one-before k (number d ∷ gs) i b bs h = tt
one-before k (colon ∷ gs) i b bs h = tt
one-before k (at s n ∷ gs) i b bs h = go (among (these " \t\n\r,") b)
  where
    go : (c : Bool) → Before k (if c then [] else record { place = i; outermost = outer s n; text = b ∷ bs } ∷ [])
    go true = tt
    go false = (h, tt)

-- a fault is no earlier than where the reading begins
fault-from : (gs : List Part) (i : ℕ) (bs : List ℕ) (k : ℕ) → fault_from gs i bs ≡ Some k → i ≤ k
unfolding fault_from
fault-from gs i [] k e = go (complete gs) e
  where
    go : (c : Bool) → (if c then None else Some i) ≡ Some k → i ≤ k
    go true f = absurd (no_none k f)
    go false f = omega (arith, some_one i k f)
fault-from gs i (b ∷ bs) k e = go (step gs b) e (λ hs f. fault-from hs (i + 1) bs k f)
  where
    go : (o : Option (List Part)) → given o (Some i) (λ hs. fault_from hs (i + 1) bs) ≡ Some k
        → ((hs : List Part) → fault_from hs (i + 1) bs ≡ Some k → i + 1 ≤ k) → i ≤ k
    go None f ih = omega (arith, some_one i k f)
    go (Some hs) f ih = omega (arith, ih hs f)

tokens-before : (gs : List Part) (i : ℕ) (bs : List ℕ) (k : ℕ) → fault_from gs i bs ≡ Some k → Before k (tokens_from gs i bs)
unfolding fault_from tokens_from
tokens-before gs i [] k e = tt
tokens-before gs i (b ∷ bs) k e = go (step gs b) e (λ hs f. tokens-before hs (i + 1) bs k f)
  where
    go : (o : Option (List Part)) → given o (Some i) (λ hs. fault_from hs (i + 1) bs) ≡ Some k
        → ((hs : List Part) → fault_from hs (i + 1) bs ≡ Some k → Before k (tokens_from hs (i + 1) bs))
        → Before k (given o [] (λ hs. token_of (settled gs b) i b bs ++ tokens_from hs (i + 1) bs))
    go None f ih = tt
    go (Some hs) f ih =
        before-append k (token_of (settled gs b) i b bs) (tokens_from hs (i + 1) bs)
        (one-before k (settled gs b) i b bs (omega (arith, fault-from hs (i + 1) bs k f))) (ih hs f)

-- the first `data` of a list and what follows it stand before it too
data-before : (k : ℕ) (ts : List Token) (t : Token) (us : List Token) → Before k ts → data_in ts ≡ Some (t, us)
    → (t.place < k) × Before k us
unfolding data_in
data-before k [] t us p e = absurd (no_none {A = Token × List Token} (t, us) e)
data-before k (x ∷ ts) t us p e = go (is_data x) e (data-before k ts t us p.1)
  where
    go : (c : Bool) → (if c then Some (x, ts) else data_in ts) ≡ Some (t, us) → (data_in ts ≡ Some (t, us) → (t.place < k) × Before k us)
        → (t.place < k) × Before k us
    go true f ih =
        let q : ◌≡◌ {A = Token × List Token} (x, ts) (t, us) = some_one {A = Token × List Token} (x, ts) (t, us) f in
        (rw (← ap (λ v. v.0) q) p.0, rw (← ap (λ v. v.1) q) p.1)
    go false f ih = ih f

pub second-lower : (bs : List ℕ) (i k : ℕ) → second_in (tokens_from start 1 bs) ≡ Some i → fault bs ≡ Some k → i < k
second-lower bs i k e f = go (data_in (tokens_from start 1 bs)) refl e
  where
    p : Before k (tokens_from start 1 bs)
    p = tokens-before start 1 bs k f

    go : (o : Option (Token × List Token)) → data_in (tokens_from start 1 bs) ≡ o
        → given o None (λ d. given (data_in d.1) None (λ d. Some d.0.place)) ≡ Some i → i < k
    go None h g = absurd (no_none i g)
    go (Some d) h g = more (data_in d.1) refl g (data-before k (tokens_from start 1 bs) d.0 d.1 p h).1
      where
        more : (o : Option (Token × List Token)) → data_in d.1 ≡ o → given o None (λ x. Some x.0.place) ≡ Some i → Before k d.1
            → i < k
        more None h g q = absurd (no_none i g)
        more (Some x) h g q = omega (arith, some_one x.0.place i g, (data-before k d.1 x.0 x.1 q h).0)
