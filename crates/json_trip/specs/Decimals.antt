-- A number in decimal is read back: its digits begin with no 0 unless they are 0, and their number is that number.
use Rattle.std.specs.Prelude.{ℕ, zero, suc, ◌+◌, ◌-◌, ◌*◌, ◌/◌, ◌%◌, ◌^◌, ◌≤◌, ◌<◌, ◌≡◌, refl, Bool, true, false, List, [], ◌∷◌, ◌++◌, eqb, ltb, length, get_or, ℤ, pos, negsuc, if◌then◌else◌, Some}
use Prim.Native.Char.{code}
use Rattle.std.proofs.Common.{ap, ◌∙◌, pow-suc, arith, ltb-true, ltb-false, le-leb, ne_eqb, eqb-true}
use Rattle.std.proofs.lemmas.Bool.{eqb-false}
use Rattle.std.proofs.Math.Dec.{eqb-suc-zero}
use Rattle.std.specs.Int.Signed.{mag}
use Rattle.paper.specs.Numbers.{alike}
use Rattle.paper.specs.Rests.{digits, decimal}
use Rattle.paper.specs.Grammar.{among, range, digit, these}
use Rattle.paper.specs.JsonRead.{begins, digits_of, number_of, natural, integer}

-- ---- digits

pub data Run : List ℕ → Type 0 where
  end : Run []
  next : {b : ℕ} {ds : List ℕ} → 48 ≤ b → b ≤ 57 → Run ds → Run (b ∷ ds)

-- 0, or digits of which the first is not 0
pub data Number : List ℕ → Type 0 where
  nought : Number (48 ∷ [])
  other : {b : ℕ} {ds : List ℕ} → 49 ≤ b → b ≤ 57 → Run ds → Number (b ∷ ds)

in-range : (l h b : ℕ) → l ≤ b → b ≤ h → among (range l h) b ≡ true
unfolding among
in-range l h b p q = rw (le-leb l b p, le-leb b h q)

pub digit-yes : (b : ℕ) → 48 ≤ b → b ≤ 57 → among digit b ≡ true
digit-yes b p q = in-range 48 57 b p q

pub first-yes : (b : ℕ) → 49 ≤ b → b ≤ 57 → among (range 0x31 0x39) b ≡ true
first-yes b p q = in-range 49 57 b p q

-- ---- one digit more

tenth : (x p q : ℕ) → x < q → q ≡ p * 10 → x / 10 < p
tenth x p q h e = omega arith

ten : (x q : ℕ) → x < q → q ≡ 1 * 10 → x < 10
ten x q h e = omega arith

number_more : (n : ℕ) (ds : List ℕ) (d : ℕ) → number_of n (ds ++ (d ∷ [])) ≡ number_of n ds * 10 + (d - code "0")
unfolding number_of
number_more n [] d = refl
number_more n (b ∷ ds) d = number_more (n * 10 + (b - code "0")) ds d

last-digit : (x : ℕ) → x < 10 → 0 * 10 + (code "0" + x % 10 - code "0") ≡ x
last-digit x h = omega arith

joined-digit : (x q : ℕ) → q ≡ x / 10 → q * 10 + (code "0" + x % 10 - code "0") ≡ x
joined-digit x q e = omega arith

-- the number of the digits of x is x
pub number-back : (k x : ℕ) → x < 10 ^ suc k → number_of 0 (digits k x) ≡ x
unfolding digits number_of
number-back zero x h = last-digit x (ten x (10 ^ 1) h (pow-suc 10 0))
number-back (suc k) x h = go (ltb x 10) refl (number-back k (x / 10) (tenth x (10 ^ suc k) (10 ^ suc (suc k)) h (pow-suc 10 (suc k))))
  where
    go : (t : Bool) → ltb x 10 ≡ t → number_of 0 (digits k (x / 10)) ≡ x / 10
        → number_of 0 ((if t then [] else digits k (x / 10)) ++ ((code "0" + x % 10) ∷ [])) ≡ x
    go true e ih = last-digit x (ltb-true x 10 e)
    go false e ih = number_more 0 (digits k (x / 10)) (code "0" + x % 10) ∙ joined-digit x (number_of 0 (digits k (x / 10))) ih

run_more : (ds : List ℕ) (d : ℕ) → Run ds → 48 ≤ d → d ≤ 57 → Run (ds ++ (d ∷ []))
run_more [] d end p q = next p q end
run_more (b ∷ ds) d (next h k r) p q = next h k (run_more ds d r p q)

number-on : (ds : List ℕ) (d : ℕ) → Number ds → 0 < number_of 0 ds → 48 ≤ d → d ≤ 57 → Number (ds ++ (d ∷ []))
unfolding number_of
number-on [] d n h p q = elim n [ ]
number-on (b ∷ []) d nought h p q = absurd (omega arith)
number-on (b ∷ ds) d (other l g r) h p q = other l g (run_more ds d r p q)

one-digit : (d : ℕ) → 48 ≤ d → d ≤ 57 → Number (d ∷ [])
one-digit d p q = go (eqb d 48) refl
  where
    go : (t : Bool) → eqb d 48 ≡ t → Number (d ∷ [])
    go true e = rw (eqb-true d 48 e) nought
    go false e = let ne : d ≡ 48 → ⊥ = eqb-false d 48 e in let n : 49 ≤ d = omega arith in other n q end

-- a number's digits
pub digits_number : (k x : ℕ) → x < 10 ^ suc k → Number (digits k x)
unfolding digits
digits_number zero x h = one-digit (code "0" + x % 10) (omega arith) (omega arith)
digits_number (suc k) x h =
    let l : x / 10 < 10 ^ suc k = tenth x (10 ^ suc k) (10 ^ suc (suc k)) h (pow-suc 10 (suc k)) in
    go (ltb x 10) refl (digits_number k (x / 10) l) (number-back k (x / 10) l)
  where
    go : (t : Bool) → ltb x 10 ≡ t → Number (digits k (x / 10)) → number_of 0 (digits k (x / 10)) ≡ x / 10
        → Number ((if t then [] else digits k (x / 10)) ++ ((code "0" + x % 10) ∷ []))
    go true e ih v = one-digit (code "0" + x % 10) (omega arith) (omega arith)
    go false e ih v =
        let g : 10 ≤ x = ltb-false x 10 e in
        number-on (digits k (x / 10)) (code "0" + x % 10) ih (omega arith) (omega arith) (omega arith)

-- ---- read back

-- the digits of a text that goes on with a comma or a bracket
pub data Stops : ℕ → Type 0 where
  comma : Stops 44
  bracket : Stops 93

run_of : (ds : List ℕ) (c : ℕ) (bs : List ℕ) → Run ds → Stops c → digits_of (ds ++ (c ∷ bs)) ≡ ds
unfolding digits_of among
run_of [] c bs end comma = refl
run_of [] c bs end bracket = refl
run_of (b ∷ ds) c bs (next p q r) s = rw (le-leb 48 b p, le-leb b 57 q) (ap (λ l. b ∷ l) (run_of ds c bs r s))

at-end : (ds : List ℕ) (c : ℕ) (bs : List ℕ) → get_or (ds ++ (c ∷ bs)) (length ds) 0 ≡ c
at-end [] c bs = refl
at-end (d ∷ ds) c bs = at-end ds c bs

whole : (c : ℕ) → Stops c → among (these ".eE") c ≡ false
unfolding among
whole c comma = refl
whole c bracket = refl

run-natural : (b : ℕ) (ds : List ℕ) (c : ℕ) (bs : List ℕ) → Run (b ∷ ds) → Stops c
    → natural (b ∷ (ds ++ (c ∷ bs))) ≡ Some (number_of 0 (b ∷ ds))
unfolding natural
run-natural b ds c bs r s =
    rw (run_of (b ∷ ds) c bs r s, eqb-suc-zero (length ds), at-end (b ∷ ds) c bs, whole c s)

number-run : (ds : List ℕ) → Number ds → Run ds
number-run [] n = elim n [ ]
number-run (b ∷ ds) nought = next {b = 48} (omega arith) (omega arith) end
number-run (b ∷ ds) (other p q r) = let l : 48 ≤ b = omega arith in next l q r

pub number-natural : (ds : List ℕ) (c : ℕ) (bs : List ℕ) → Number ds → Stops c → natural (ds ++ (c ∷ bs)) ≡ Some (number_of 0 ds)
number-natural [] c bs n s = elim n [ ]
number-natural (b ∷ ds) c bs n s = run-natural b ds c bs (number-run (b ∷ ds) n) s

-- a number does not begin with another letter
pub begins-not : (w : ℕ) (v : List ℕ) (ds bs : List ℕ) → Number ds → w < 48 → begins (w ∷ v) (ds ++ bs) ≡ false
unfolding alike
begins-not w v [] bs n h = elim n [ ]
begins-not w v (b ∷ ds) bs n h = rw (ne_eqb b w (λ e. below b ds w n h e))
  where
    below : (b : ℕ) (ds : List ℕ) (w : ℕ) → Number (b ∷ ds) → w < 48 → b ≡ w → ⊥
    below b ds w nought h e = omega arith
    below b ds w (other p q r) h e = omega arith

pub begins-no-letter : (w : ℕ) (v : List ℕ) (ds bs : List ℕ) → Number ds → 57 < w → begins (w ∷ v) (ds ++ bs) ≡ false
unfolding alike
begins-no-letter w v [] bs n h = elim n [ ]
begins-no-letter w v (b ∷ ds) bs n h = rw (ne_eqb b w (λ e. above b ds w n h e))
  where
    above : (b : ℕ) (ds : List ℕ) (w : ℕ) → Number (b ∷ ds) → 57 < w → b ≡ w → ⊥
    above b ds w nought h e = omega arith
    above b ds w (other p q r) h e = omega arith

pub integer-back : (z : ℤ) (c : ℕ) (bs : List ℕ) → mag z < 2 ^ 63 → Stops c → integer (decimal z ++ (c ∷ bs)) ≡ Some z
unfolding decimal alike
integer-back (pos x) c bs h s =
    let l : x < 10 ^ 20 = omega arith in
    let n : Number (digits 19 x) = digits_number 19 x l in
    rw (begins-not 45 [] (digits 19 x) (c ∷ bs) n (omega arith), number-natural (digits 19 x) c bs n s, number-back 19 x l)
integer-back (negsuc x) c bs h s =
    let l : suc x < 10 ^ 20 = omega arith in
    rw (number-natural (digits 19 (suc x)) c bs (digits_number 19 (suc x) l) s, number-back 19 (suc x) l)
