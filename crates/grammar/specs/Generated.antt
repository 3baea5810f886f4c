-- What the RFC's grammar generates is made of the table's parts.
use Rattle.std.specs.Prelude.{ℕ, ◌≡◌, ◌⊎◌, false, List, [], ◌∷◌, ◌++◌, map}
use Rattle.std.proofs.Math.Path.{refl}
use Rattle.std.proofs.Common.{sym, ◌∙◌, inl, inr, append_assoc}
use Rattle.grammar.specs.Made.{OneOf, here, there, Made, nothing, space, without, by}
use Rattle.paper.specs.Grammar.{Spot, Part, Rule, blank, digit, these, ends, optional, rules, values, named, before, ◌⇒◌}
use Rattle.paper.specs.Grammar.{one, chars, escape, number, colon, at, unsigned, after_zero, after_digit, after_fraction, after_e}
use Rattle.paper.specs.Grammar.{after_exponent}
use Rattle.paper.specs.Grammar.{value, items, more_items, object, members, member, more_members}
use Rattle.paper.specs.Rfc as R
use Rattle.paper.specs.Rfc.{In}
use Rattle.grammar.specs.Tables.{no_true}

-- ---- blanks, and the first item

blank-made : (s : Spot) (n : ℕ) (gs : List Part) (b : ℕ) (bs : List ℕ) → In b blank → Made (at s n ∷ gs) bs → Made (at s n ∷ gs) (b ∷ bs)
unfolding rules
blank-made value n gs b bs h m = by _ here h m
blank-made items n gs b bs h m = by _ here h m
blank-made more_items n gs b bs h m = by _ here h m
blank-made object n gs b bs h m = by _ here h m
blank-made members n gs b bs h m = by _ here h m
blank-made member n gs b bs h m = by _ here h m
blank-made more_members n gs b bs h m = by _ here h m

pub blanks-made : (s : Spot) (n : ℕ) (gs : List Part) {a m : List ℕ} → R.Blanks a m → Made (at s n ∷ gs) m → Made (at s n ∷ gs) a
blanks-made s n gs R.Blanks.none m = m
blanks-made s n gs (R.Blanks.more h w) m = blank-made s n gs _ _ h (blanks-made s n gs w m)

colon-blanks : (gs : List Part) {a m : List ℕ} → R.Blanks a m → Made (colon ∷ gs) m → Made (colon ∷ gs) a
unfolding rules
colon-blanks gs R.Blanks.none m = m
colon-blanks gs (R.Blanks.more h w) m = by _ here h (colon-blanks gs w m)

end-blanks : {a : List ℕ} → R.Blanks a [] → Made [] a
end-blanks R.Blanks.none = nothing
end-blanks (R.Blanks.more h w) = space h (end-blanks w)

map-one : (f : Rule → Rule) (r : Rule) (rs : List Rule) → OneOf r rs → OneOf (f r) (map f rs)
map-one f r [] o = elim o [ ]
map-one f r (q ∷ rs) here = here
map-one f r (q ∷ rs) (there o) = there (map-one f r rs o)

-- a rule of a list is its first or one of the others
pub first-or : (r q : Rule) (rs : List Rule) → OneOf r (q ∷ rs) → (r ≡ q) ⊎ OneOf r rs
first-or r q rs here = inl refl
first-or r q rs (there o) = inr o

-- the rule by which a part begins that cannot be left out
pub record Begun (g : Part) (gs : List Part) (b : ℕ) (bs : List ℕ) : Type 0 where
  pub rule : Rule
  pub has : OneOf rule (rules g)
  pub with : In b rule.byte
  pub goes : Made (rule.rest ++ gs) bs

pub begun : (g : Part) (gs : List Part) (b : ℕ) (bs : List ℕ) → optional g ≡ false → Made (g ∷ gs) (b ∷ bs) → Begun g gs b bs
begun g gs b bs e (without o m) = no_true (sym e ∙ o)
begun g gs b bs e (by r o h m) = record { rule = r; has = o; with = h; goes = m }

pub not-begun : (g : Part) (gs : List Part) → optional g ≡ false → Made (g ∷ gs) [] → ⊥
not-begun g gs e (without o m) = no_true (sym e ∙ o)

pub item-made : (n : ℕ) (gs : List Part) (v : List ℕ) → Made (at value n ∷ at more_items n ∷ gs) v → Made (at items n ∷ gs) v
unfolding rules optional
item-made n gs [] m = absurd (not-begun (at value n) (at more_items n ∷ gs) refl m)
item-made n gs (b ∷ v) m =
    let x = begun (at value n) (at more_items n ∷ gs) b v refl m in
    go x.rule x.with x.goes (first-or x.rule _ (values n) x.has) (λ k. item-made n gs v k)
  where
    go : (r : Rule) → In b r.byte → Made (r.rest ++ (at more_items n ∷ gs)) v → (r ≡ (blank ⇒ at value n ∷ [])) ⊎ OneOf r (values n)
        → (Made (at value n ∷ at more_items n ∷ gs) v → Made (at items n ∷ gs) v) → Made (at items n ∷ gs) (b ∷ v)
    go r h k (inl e) ih = by _ here (rw e at h) (ih (rw e at k))
    go r h k (inr o) ih =
        let q : Made ((r.rest ++ (at more_items n ∷ [])) ++ gs) v = rw (append_assoc r.rest (at more_items n ∷ []) gs) k in
        by (before (at more_items n ∷ []) r) (there (there (map-one (before (at more_items n ∷ [])) r (values n) o))) h q

-- ---- strings

one-made : (c : List (ℕ × ℕ)) (gs : List Part) (b : ℕ) (bs : List ℕ) → In b c → Made gs bs → Made (one c ∷ gs) (b ∷ bs)
unfolding rules
one-made c gs b bs h m = by _ here h m

escape-made : (gs : List Part) {a r : List ℕ} → R.Escape a r → Made gs r → Made (escape ∷ gs) a
unfolding rules
escape-made gs (R.Escape.short h) m = by _ here h m
escape-made gs (R.Escape.unicode u b c d e) m =
    by _ (there here) u (one-made _ _ _ _ b (one-made _ _ _ _ c (one-made _ _ _ _ d (one-made _ _ _ _ e m))))

wide-made : (gs : List Part) {a r : List ℕ} → R.Wide a r → Made (chars ∷ gs) r → Made (chars ∷ gs) a
unfolding rules
wide-made gs (R.Wide.two b c) m = by _ (there (there (there here))) b (one-made _ _ _ _ c m)
wide-made gs (R.Wide.e0 b c d) m = by _ (there (there (there (there here)))) b (one-made _ _ _ _ c (one-made _ _ _ _ d m))
wide-made gs (R.Wide.three b c d) m = by _ (there (there (there (there (there here))))) b (one-made _ _ _ _ c (one-made _ _ _ _ d m))
wide-made gs (R.Wide.ed b c d) m = by _ (there (there (there (there (there (there here)))))) b (one-made _ _ _ _ c (one-made _ _ _ _ d m))
wide-made gs (R.Wide.f0 b c d e) m =
    by _ (there (there (there (there (there (there (there here))))))) b (one-made _ _ _ _ c (one-made _ _ _ _ d (one-made _ _ _ _ e m)))
wide-made gs (R.Wide.four b c d e) m =
    by _ (there (there (there (there (there (there (there (there here)))))))) b
    (one-made _ _ _ _ c (one-made _ _ _ _ d (one-made _ _ _ _ e m)))
wide-made gs (R.Wide.f4 b c d e) m =
    by _ (there (there (there (there (there (there (there (there (there here))))))))) b
    (one-made _ _ _ _ c (one-made _ _ _ _ d (one-made _ _ _ _ e m)))

chars-made : (gs : List Part) {a r : List ℕ} → R.Chars a r → Made gs r → Made (chars ∷ gs) a
unfolding rules
chars-made gs (R.Chars.close h) m = by _ (there here) h m
chars-made gs (R.Chars.itself h w) m = by _ here h (chars-made gs w m)
chars-made gs (R.Chars.escaped h e w) m = by _ (there (there here)) h (escape-made (chars ∷ gs) e (chars-made gs w m))
chars-made gs (R.Chars.wide e w) m = wide-made gs e (chars-made gs w m)

-- ---- numbers

module _ (gs : List Part) where
  exponent-digits : {a r : List ℕ} → R.Digits* a r → Made gs r → Made (number after_exponent ∷ gs) a
  unfolding rules optional ends
  exponent-digits R.Digits*.none m = without refl m
  exponent-digits (R.Digits*.more h w) m = by _ here h (exponent-digits w m)

  after-e : {b : ℕ} {a r : List ℕ} → In b digit → R.Digits* a r → Made gs r → Made (number after_e ∷ gs) (b ∷ a)
  unfolding rules
  after-e h w m = by _ (there here) h (exponent-digits w m)

  after-sign : {s b : ℕ} {a r : List ℕ} → In s (these "+-") → In b digit → R.Digits* a r → Made gs r
      → Made (number after_e ∷ gs) (s ∷ b ∷ a)
  unfolding rules
  after-sign g h w m = by _ here g (one-made _ _ _ _ h (exponent-digits w m))

  -- an exponent or none, after the 0, after the digits, after the fraction
  zero_exponent : {a r : List ℕ} → R.Exponent a r → Made gs r → Made (number after_zero ∷ gs) a
  unfolding rules optional ends
  zero_exponent R.Exponent.none m = without refl m
  zero_exponent (R.Exponent.signed e s h w) m = by _ (there here) e (after-sign s h w m)
  zero_exponent (R.Exponent.unsigned e h w) m = by _ (there here) e (after-e h w m)

  digit-exponent : {a r : List ℕ} → R.Exponent a r → Made gs r → Made (number after_digit ∷ gs) a
  unfolding rules optional ends
  digit-exponent R.Exponent.none m = without refl m
  digit-exponent (R.Exponent.signed e s h w) m = by _ (there (there here)) e (after-sign s h w m)
  digit-exponent (R.Exponent.unsigned e h w) m = by _ (there (there here)) e (after-e h w m)

  fraction-digits : {a f r : List ℕ} → R.Digits* a f → R.Exponent f r → Made gs r → Made (number after_fraction ∷ gs) a
  unfolding rules optional ends
  fraction-digits R.Digits*.none R.Exponent.none m = without refl m
  fraction-digits R.Digits*.none (R.Exponent.signed e s h w) m = by _ (there here) e (after-sign s h w m)
  fraction-digits R.Digits*.none (R.Exponent.unsigned e h w) m = by _ (there here) e (after-e h w m)
  fraction-digits (R.Digits*.more h w) e m = by _ here h (fraction-digits w e m)

  -- a fraction or none
  zero-fraction : {a f r : List ℕ} → R.Fraction a f → R.Exponent f r → Made gs r → Made (number after_zero ∷ gs) a
  unfolding rules
  zero-fraction R.Fraction.none e m = zero_exponent e m
  zero-fraction (R.Fraction.some p h w) e m = by _ here p (one-made _ _ _ _ h (fraction-digits w e m))

  digit-fraction : {a i f r : List ℕ} → R.Digits* a i → R.Fraction i f → R.Exponent f r → Made gs r → Made (number after_digit ∷ gs) a
  unfolding rules
  digit-fraction R.Digits*.none R.Fraction.none e m = digit-exponent e m
  digit-fraction R.Digits*.none (R.Fraction.some p h w) e m = by _ (there here) p (one-made _ _ _ _ h (fraction-digits w e m))
  digit-fraction (R.Digits*.more h w) f e m = by _ here h (digit-fraction w f e m)

  unsigned-made : {a i f r : List ℕ} → R.Int a i → R.Fraction i f → R.Exponent f r → Made gs r → Made (number unsigned ∷ gs) a
  unfolding rules
  unsigned-made (R.Int.nought h) f e m = by _ here h (zero-fraction f e m)
  unsigned-made (R.Int.other h w) f e m = by _ (there here) h (digit-fraction w f e m)

  number-made : {n : ℕ} {a r : List ℕ} → R.Number a r → Made gs r → Made (at value n ∷ gs) a
  unfolding rules
  number-made (R.Number.positive (R.Int.nought h) f e) m =
      by _ (there (there (there (there (there (there here)))))) h (zero-fraction f e m)
  number-made (R.Number.positive (R.Int.other h w) f e) m =
      by _ (there (there (there (there (there (there (there here))))))) h (digit-fraction w f e m)
  number-made (R.Number.negative h i f e) m = by _ (there (there here)) h (unsigned-made i f e m)

-- ---- values

mutual
  unfolding rules

  value_made : {n : ℕ} {a r : List ℕ} → R.Value n a r → (gs : List Part) → Made gs r → Made (at value n ∷ gs) a
  value_made (R.Value.string h w) gs m = by _ (there here) h (chars-made gs w m)
  value_made (R.Value.number w) gs m = number-made gs w m
  value_made (R.Value.is_true (R.Word.next a (R.Word.next b (R.Word.next c (R.Word.next d R.Word.end))))) gs m =
      by _ (there (there (there here))) a (one-made _ _ _ _ b (one-made _ _ _ _ c (one-made _ _ _ _ d m)))
  value_made (R.Value.is_false (R.Word.next a (R.Word.next b (R.Word.next c (R.Word.next d (R.Word.next e R.Word.end)))))) gs m =
      by _ (there (there (there (there here)))) a (one-made _ _ _ _ b (one-made _ _ _ _ c (one-made _ _ _ _ d (one-made _ _ _ _ e m))))
  value_made (R.Value.is_null (R.Word.next a (R.Word.next b (R.Word.next c (R.Word.next d R.Word.end))))) gs m =
      by _ (there (there (there (there (there here))))) a (one-made _ _ _ _ b (one-made _ _ _ _ c (one-made _ _ _ _ d m)))
  value_made (R.Value.array h w) gs m = by _ (there (there (there (there (there (there (there (there here)))))))) h (array_made w gs m)
  value_made (R.Value.object h w) gs m =
      by _ (there (there (there (there (there (there (there (there (there here))))))))) h (object-made w gs m)

  array_made : {n : ℕ} {a r : List ℕ} → R.Array n a r → (gs : List Part) → Made gs r → Made (at items n ∷ gs) a
  array_made (R.Array.no_item w h) gs m = blanks-made items _ gs w (by _ (there here) h m)
  array_made (R.Array.items w v t) gs m = blanks-made items _ gs w (item-made _ gs _ (value_made v _ (items-made t gs m)))

  items-made : {n : ℕ} {a r : List ℕ} → R.Items n a r → (gs : List Part) → Made gs r → Made (at more_items n ∷ gs) a
  items-made (R.Items.last_item w h) gs m = blanks-made more_items _ gs w (by _ (there (there here)) h m)
  items-made (R.Items.more_item w h x v t) gs m =
      blanks-made more_items _ gs w (by _ (there here) h (blanks-made value _ _ x (value_made v _ (items-made t gs m))))

  object-made : {n : ℕ} {a r : List ℕ} → R.Object n a r → (gs : List Part) → Made gs r → Made (at members n ∷ gs) a
  object-made (R.Object.no_member w h) gs m = blanks-made members _ gs w (by _ (there here) h m)
  object-made (R.Object.members w t) gs m = member-made w gs members (there (there here)) (members-made t gs m)

  member-made : {n : ℕ} {a r : List ℕ} → R.Member n a r → (gs : List Part) (s : Spot) → OneOf (named n) (rules (at s n))
      → Made (at more_members n ∷ gs) r → Made (at s n ∷ gs) a
  member-made (R.Member.member w q c x p y v) gs s o m =
      blanks-made s _ gs w
      (by _ o q (chars-made _ c (colon-blanks _ x (by _ (there here) p (blanks-made value _ _ y (value_made v _ m))))))

  members-made : {n : ℕ} {a r : List ℕ} → R.Members n a r → (gs : List Part) → Made gs r → Made (at more_members n ∷ gs) a
  members-made (R.Members.last_member w h) gs m = blanks-made more_members _ gs w (by _ (there (there here)) h m)
  members-made (R.Members.more_member z k w t) gs m =
      blanks-made more_members _ gs z (by _ (there here) k (member-made w gs member (there here) (members-made t gs m)))

pub generated-made : {n : ℕ} {bs : List ℕ} → R.OneObject n bs → Made (at object n ∷ []) bs
unfolding rules
generated-made (R.OneObject.around w h o x) = blanks-made object _ [] w (by _ (there here) h (object-made o [] (end-blanks x)))
