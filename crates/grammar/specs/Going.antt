-- What the machine reads the grammar makes: after each byte, a text made of the parts to come completes one made of the parts before.
use Rattle.std.specs.Prelude.{ℕ, ◌+◌, ◌≡◌, refl, Bool, true, false, List, [], ◌∷◌, ◌++◌, if◌then◌else◌, Option, None, Some}
use Rattle.std.proofs.Common.{sym, ap, ◌∙◌}
use Rattle.std.specs.Option.{option_map}
use Rattle.grammar.specs.Made.{OneOf, here, there, Made, nothing, space, without, by}
use Rattle.paper.specs.Grammar.{Part, Rule, among, blank, optional, rules}
use Rattle.paper.specs.Machine.{given, chosen, settled, move, step, complete, fault_from}
use Rattle.laws.specs.Tests.{no_none, some_one}

-- the rule that was chosen
pub chosen-rule : (rs : List Rule) (b : ℕ) (ps : List Part) → chosen rs b ≡ Some ps
    → (r : Rule) × OneOf r rs × (among r.byte b ≡ true) × (r.rest ≡ ps)
unfolding chosen
chosen-rule [] b ps e = absurd (no_none ps e)
chosen-rule (r ∷ rs) b ps e = go (among r.byte b) refl e (chosen-rule rs b ps)
  where
    go : (t : Bool) → among r.byte b ≡ t → (if t then Some r.rest else chosen rs b) ≡ Some ps
        → (chosen rs b ≡ Some ps → (q : Rule) × OneOf q rs × (among q.byte b ≡ true) × (q.rest ≡ ps))
        → (q : Rule) × OneOf q (r ∷ rs) × (among q.byte b ≡ true) × (q.rest ≡ ps)
    go true h f ih = (r, here, h, some_one r.rest ps f)
    go false h f ih = let v = ih f in (v.0, there v.1, v.2, v.3)

-- a number that ends
pub settled-made : (gs : List Part) (b : ℕ) (bs : List ℕ) → Made (settled gs b) bs → Made gs bs
unfolding settled
settled-made [] b bs m = m
settled-made (g ∷ gs) b bs m = go (optional g) refl (chosen (rules g) b) m
  where
    go : (t : Bool) → optional g ≡ t → (o : Option (List Part)) → Made (if t then given o gs (λ ps. g ∷ gs) else g ∷ gs) bs
        → Made (g ∷ gs) bs
    go true h None n = without h n
    go true h (Some ps) n = n
    go false h o n = n

pub map-some : {A B : Type 0} (f : A → B) (o : Option A) (b : B) → option_map f o ≡ Some b → (a : A) × (o ≡ Some a) × (f a ≡ b)
map-some f None b e = absurd (no_none b e)
map-some f (Some a) b e = (a, refl, some_one (f a) b e)

-- a byte read
pub move-made : (gs : List Part) (b : ℕ) (hs : List Part) (bs : List ℕ) → move gs b ≡ Some hs → Made hs bs → Made gs (b ∷ bs)
unfolding move
move-made [] b hs bs e m = go (among blank b) refl e
  where
    go : (t : Bool) → among blank b ≡ t → (if t then Some [] else None) ≡ Some hs → Made [] (b ∷ bs)
    go true h f = space h (rw (← some_one [] hs f) at m)
    go false h f = absurd (no_none hs f)
move-made (g ∷ gs) b hs bs e m =
    let v = map-some (λ ps. ps ++ gs) (chosen (rules g) b) hs e in
    let r = chosen-rule (rules g) b v.0 v.1 in
    let p : r.0.rest ++ gs ≡ hs = ap (λ ps. ps ++ gs) r.3 ∙ v.2 in
    let n : Made (r.0.rest ++ gs) bs = rw p m in
    by r.0 r.1 r.2 n

pub step-made : (gs : List Part) (b : ℕ) (hs : List Part) (bs : List ℕ) → step gs b ≡ Some hs → Made hs bs → Made gs (b ∷ bs)
step-made gs b hs bs e m = settled-made gs b (b ∷ bs) (move-made (settled gs b) b hs bs e m)

-- the parts to come after a text
unfoldable pub after : List Part → List ℕ → Option (List Part)
after gs [] = Some gs
after gs (b ∷ bs) = given (step gs b) None (λ hs. after hs bs)

-- a text that the machine reads, completed by what is made of the parts to come
pub after-made : (gs : List Part) (p : List ℕ) (hs : List Part) (q : List ℕ) → after gs p ≡ Some hs → Made hs q → Made gs (p ++ q)
unfolding after
after-made gs [] hs q e m = rw (some_one gs hs e) m
after-made gs (b ∷ p) hs q e m = go (step gs b) refl e (λ ks f. after-made ks p hs q f m)
  where
    go : (o : Option (List Part)) → step gs b ≡ o → given o None (λ ks. after ks p) ≡ Some hs
        → ((ks : List Part) → after ks p ≡ Some hs → Made ks (p ++ q))
        → Made gs (b ∷ (p ++ q))
    go None h f ih = absurd (no_none hs f)
    go (Some ks) h f ih = step-made gs b ks (p ++ q) h (ih ks f)

-- a text without a fault
pub faultless-made : (gs : List Part) (i : ℕ) (bs : List ℕ) → fault_from gs i bs ≡ None → Made gs bs
unfolding fault_from
faultless-made gs i [] e = ended gs e
  where
    ended : (gs : List Part) → (if complete gs then None else Some i) ≡ None → Made gs []
    ended [] f = nothing
    ended (g ∷ gs) f = absurd (no_none i (sym f))
faultless-made gs i (b ∷ bs) e = go (step gs b) refl e (λ ks f. faultless-made ks (i + 1) bs f)
  where
    go : (o : Option (List Part)) → step gs b ≡ o → given o (Some i) (λ ks. fault_from ks (i + 1) bs) ≡ None
        → ((ks : List Part) → fault_from ks (i + 1) bs ≡ None → Made ks bs)
        → Made gs (b ∷ bs)
    go None h f ih = absurd (no_none i (sym f))
    go (Some ks) h f ih = step-made gs b ks bs h (ih ks f)
