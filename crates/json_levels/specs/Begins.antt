-- What each byte begins at each spot: the table's rule for it, and the levels after it.
use Rattle.std.specs.Prelude.{ℕ, zero, suc, ◌+◌, ◌-◌, ◌*◌, ◌/◌, ◌%◌, ◌≤◌, ◌<◌, ◌≡◌, Bool, ◌&&◌, if◌then◌else◌, Option, None, Some}
use Rattle.std.specs.Option.{option_map}
use Rattle.std.proofs.Math.Path.{refl, ap}
use Rattle.std.proofs.Common.{sym, ◌∙◌, subst, add-one}
use Rattle.std.proofs.Math.Bool.{true, false}
use mathlib.Core.List.{List, [], ◌∷◌, ◌++◌, map, append_assoc}
use native.Mathlib.Omega.{arith}
use borrow.Author.Tests.{eqb-true, eq-eqb, ne_eqb, eqb-false}
use Rattle.std.proofs.Math.Dec.{eqb}
use Rattle.paper.specs.Grammar.{Part, Rule, among, blank, these, digit, optional, rules, values, before, nested, at, levels_inside}
use Rattle.paper.specs.Grammar.{value, items, more_items, members, member}
use Rattle.paper.specs.Machine.{chosen, settled, move, step}
use Rattle.paper.specs.JsonRead.{outer}
use Rattle.json_text.specs.Bytes.{in-range, not_byte}
use Rattle.json_text.specs.Kinds.{digit-from, digit-to, digit_not}
use Rattle.json_levels.specs.declared.Levels.{Levels}
use Rattle.json_levels.specs.declared.Next.{Next}
use Rattle.json_levels.specs.declared.Turn.{Turn}
use Rattle.json_levels.specs.declared.Begun.{Begun}
use Rattle.json_levels.specs.declared.Next.TheVariants.{Object, First, More, Value, Member}
use Rattle.json_levels.specs.declared.Begun.TheVariants.{Nothing, Comma, Bracket, Name, Text, Minus, Zero, Digit, True, False, Null}
use Rattle.json_levels.specs.Parts.{array?, more_of, inside, more, around, parts_at, room, Open, StandingAt, head_of, comes}
use Rattle.json_levels.specs.Parts.{FirstByte, NoName, AtSpot, Behind, so, TurnedAt, Turned, Standing, outermost, Other}

-- what is made is such
pub told : {gs : List Part} {o : Bool} {d b : ℕ} {r : Turn} (q : Turn) → r ≡ q → TurnedAt gs o d b q → TurnedAt gs o d b r
told {gs} {o} {d} {b} q e t = subst (TurnedAt gs o d b) (sym e) t

-- ---- levels

-- an open level's own part comes first
pub more-open : (d c : ℕ) → 1 ≤ d → more d c ≡ at (more_of c) (inside d) ∷ around d c
unfolding more
more-open zero c h = absurd (omega arith)
more-open (suc e) c h =
    let p : levels_inside - e ≡ inside (suc e) = omega arith in
    let q : suc e - 1 ≡ e = omega arith in
    rw (q, p)

push-odd : (c : ℕ) → array? (c * 2 + 1) ≡ true
push-odd c = let q : (c * 2 + 1) % 2 ≡ 1 = omega arith in eq-eqb ((c * 2 + 1) % 2) 1 q

push-even : (c : ℕ) → array? (c * 2) ≡ false
push-even c = let q : c * 2 % 2 ≡ 1 → ⊥ = λ e. omega arith in ne_eqb (c * 2 % 2) 1 q

-- a level more
pub push-array : (d c : ℕ) → parts_at First (d + 1) (c * 2 + 1) ≡ at items (levels_inside - d) ∷ more d c
push-array d c =
    let p : inside (d + 1) ≡ levels_inside - d = omega arith in
    let q : d + 1 - 1 ≡ d = omega arith in
    let h : (c * 2 + 1) / 2 ≡ c = omega arith in
    rw (push-odd c, p, q, h)

pub push-object : (d c : ℕ) → parts_at First (d + 1) (c * 2) ≡ at members (levels_inside - d) ∷ more d c
push-object d c =
    let p : inside (d + 1) ≡ levels_inside - d = omega arith in
    let q : d + 1 - 1 ≡ d = omega arith in
    let h : c * 2 / 2 ≡ c = omega arith in
    rw (push-even c, p, q, h)

room-more : (d : ℕ) → room (d + 1) ≡ room d + room d
unfolding room
room-more d = rw (add-one d)

pub push-open : (d c x : ℕ) → Open d c → d < levels_inside + 1 → x ≤ c * 2 + 1 → Open (d + 1) x
push-open d c x o h i = record { some = omega arith; most = omega arith; bits = omega (arith, room-more d, o.bits) }

-- bits enough
room_most : (d : ℕ) → 1 ≤ room d
unfolding room
room_most zero = omega arith
room_most (suc d) = omega (arith, room_most d)

room-sum : (d e : ℕ) → room d ≤ room (e + d)
unfolding room
room-sum d zero = let q : 0 + d ≡ d = omega arith in rw q (omega arith)
room-sum d (suc e) = let h = room-sum d e in let q : suc e + d ≡ suc (e + d) = omega arith in rw q (omega (arith, h))

room-16 : room 16 ≡ 65536
unfolding room
room-16 = refl

pub bits_most : (d c : ℕ) → Open d c → c < 65536
bits_most d c o =
    let q : levels_inside + 1 - d + d ≡ 16 = omega (arith, o.most) in
    let h : room d ≤ room 16 = rw q at (room-sum d (levels_inside + 1 - d)) in
    omega (arith, o.bits, h, room-16)

-- a level less
pop-open : (d c : ℕ) → Open d c → (d - 1 ≤ levels_inside + 1) × (c / 2 < room (d - 1))
unfolding room
pop-open zero c o = absurd (omega (arith, o.some))
pop-open (suc e) c o = let q : suc e - 1 ≡ e = omega arith in (omega (arith, o.most), rw q (half (room e) o.bits))
  where
    half : (r : ℕ) → c < r + r → c / 2 < r
    half r h = omega arith

-- ---- nothing

among_none : (b : ℕ) → among [] b ≡ false
unfolding among
among_none b = refl

no_byte : (k b : ℕ) → (b ≡ k → ⊥) → among ((k, k) ∷ []) b ≡ false
no_byte k b h = not_byte k b [] h ∙ among_none b

pub nothing-comes : (gs : List Part) (o : Bool) (d b x c : ℕ) → step gs b ≡ None → TurnedAt gs o d b (so Nothing Object x c)
unfolding StandingAt FirstByte Behind comes
nothing-comes gs o d b x c e = record { goes = e; stands = tt; first = tt; behind = tt }

-- ---- a value

module _ (d c : ℕ) (o : Open d c) where
  in-level : (g : Begun) (b : ℕ) → step (parts_at Value d c) b ≡ comes g (more d c) → FirstByte g false d b
      → (AtSpot (more d c) → Behind g (more d c)) → TurnedAt (parts_at Value d c) false d b (so g More d c)
  unfolding StandingAt
  in-level g b e f h =
      record {
        goes = e;
        stands = (o.most, o.bits);
        first = f;
        behind = h (record { spot = more_of c; levels = inside d; rest = around d c; whole = more-open d c o.some });
      }

  pub value-text : (b : ℕ) → b ≡ 34 → TurnedAt (parts_at Value d c) false d b (so Text More d c)
  unfolding settled optional move rules chosen among comes head_of FirstByte Behind
  value-text b q = rw q (in-level Text 34 refl ((λ e. omega arith), refl) (λ a. a))

  pub value-minus : (b : ℕ) → b ≡ 45 → TurnedAt (parts_at Value d c) false d b (so Minus More d c)
  unfolding settled optional move rules chosen among comes head_of FirstByte Behind
  value-minus b q = rw q (in-level Minus 45 refl ((λ e. omega arith), refl) (λ a. a))

  pub value-zero : (b : ℕ) → b ≡ 48 → TurnedAt (parts_at Value d c) false d b (so Zero More d c)
  unfolding settled optional move rules chosen among comes head_of FirstByte Behind
  value-zero b q = rw q (in-level Zero 48 refl ((λ e. omega arith), refl) (λ a. a))

  pub value-true : (b : ℕ) → b ≡ 116 → TurnedAt (parts_at Value d c) false d b (so True More d c)
  unfolding settled optional move rules chosen among comes head_of FirstByte Behind
  value-true b q = rw q (in-level True 116 refl ((λ e. omega arith), refl) (λ a. a))

  pub value-false : (b : ℕ) → b ≡ 102 → TurnedAt (parts_at Value d c) false d b (so False More d c)
  unfolding settled optional move rules chosen among comes head_of FirstByte Behind
  value-false b q = rw q (in-level False 102 refl ((λ e. omega arith), refl) (λ a. a))

  pub value-null : (b : ℕ) → b ≡ 110 → TurnedAt (parts_at Value d c) false d b (so Null More d c)
  unfolding settled optional move rules chosen among comes head_of FirstByte Behind
  value-null b q = rw q (in-level Null 110 refl ((λ e. omega arith), refl) (λ a. a))

  -- a digit that is not 0
  pub value-digit : (b : ℕ) → among blank b ≡ false → (b ≡ 48 → ⊥) → among digit b ≡ true
      → TurnedAt (parts_at Value d c) false d b (so Digit More d c)
  unfolding settled optional move rules chosen comes head_of FirstByte Behind
  value-digit b h z q =
      let l : 48 ≤ b = digit-from b q in
      let u : b ≤ 57 = digit-to b q in
      let y : among ((0x31, 0x39) ∷ []) b ≡ true = in-range 0x31 0x39 b [] (omega arith) (omega arith) in
      let n34 = no_byte 34 b (λ e. omega arith) in
      let n45 = no_byte 45 b (λ e. omega arith) in
      let n116 = no_byte 116 b (λ e. omega arith) in
      let n102 = no_byte 102 b (λ e. omega arith) in
      let n110 = no_byte 110 b (λ e. omega arith) in
      in-level Digit b (rw (h, n34, n45, n116, n102, n110, no_byte 48 b z, y)) ((λ e. omega arith), refl) (λ a. a)

  -- no blank, string, number or word: what is left are arrays and objects, where a level is left
  module _ (b : ℕ) (t : Other b) where
    left_over : step (parts_at Value d c) b ≡ option_map (λ ps. ps ++ more d c) (chosen (nested (inside d)) b)
    unfolding settled optional move rules chosen
    left_over =
        rw (
          t.no_blank,
          no_byte 34 b t.no_quote,
          no_byte 45 b t.no_minus,
          no_byte 116 b t.no_true,
          no_byte 102 b t.no_false,
          no_byte 110 b t.no_null,
          digit_not b t.no_digit 48 48 (omega arith) (omega arith),
          digit_not b t.no_digit 0x31 0x39 (omega arith) (omega arith),
        )

    pub value-deep : d ≡ levels_inside + 1 → TurnedAt (parts_at Value d c) false d b (so Nothing Object d c)
    unfolding chosen
    value-deep e = let z : inside d ≡ 0 = omega arith in nothing-comes (parts_at Value d c) false d b d c (left_over ∙ rw z)

    module _ (h : d < levels_inside + 1) where
      level-left : inside d ≡ suc (levels_inside - d)
      level-left = omega arith

      pub value-array : b ≡ 91 → TurnedAt (parts_at Value d c) false d b (so Bracket First (d + 1) (c * 2 + 1))
      unfolding chosen among StandingAt FirstByte Behind comes
      value-array e =
          record {
            goes = left_over ∙ rw (level-left, e) (ap Some (sym (push-array d c)));
            stands = push-open d c (c * 2 + 1) o h (omega arith);
            first = ((λ f. omega (arith, e, f)), refl);
            behind = tt;
          }

      pub value-object : b ≡ 123 → TurnedAt (parts_at Value d c) false d b (so Bracket First (d + 1) (c * 2))
      unfolding chosen among StandingAt FirstByte Behind comes
      value-object e =
          record {
            goes = left_over ∙ rw (level-left, e) (ap Some (sym (push-object d c)));
            stands = push-open d c (c * 2) o h (omega arith);
            first = ((λ f. omega (arith, e, f)), refl);
            behind = tt;
          }

      pub value_none : (b ≡ 91 → ⊥) → (b ≡ 123 → ⊥) → TurnedAt (parts_at Value d c) false d b (so Nothing Object d c)
      unfolding chosen
      value_none e f =
          nothing-comes (parts_at Value d c) false d b d c
          (left_over ∙ rw level-left (rw (no_byte 91 b e, no_byte 123 b f)))

-- ---- closing a level

and-never : (p : Bool) → (p && false) ≡ false
and-never true = refl
and-never false = refl

before-chosen : (ps : List Part) (rs : List Rule) (b : ℕ) → chosen (map (before ps) rs) b ≡ option_map (λ qs. qs ++ ps) (chosen rs b)
unfolding chosen
before-chosen ps [] b = refl
before-chosen ps (r ∷ rs) b = go (among r.byte b) (before-chosen ps rs b)
  where
    go : (c : Bool) → chosen (map (before ps) rs) b ≡ option_map (λ qs. qs ++ ps) (chosen rs b)
        → (if c then Some (r.rest ++ ps) else chosen (map (before ps) rs) b) ≡ option_map (λ qs. qs ++ ps)
        (if c then Some r.rest else chosen rs b)
    go true e = refl
    go false e = e

map-twice : (ps gs : List Part) (o : Option (List Part)) → option_map (λ qs. qs ++ gs) (option_map (λ qs. qs ++ ps) o) ≡ option_map
    (λ qs. qs ++ (ps ++ gs)) o
map-twice ps gs None = refl
map-twice ps gs (Some qs) = ap Some (append_assoc qs ps gs)

-- the first member of an object is read as a member
member-step : (n : ℕ) (gs : List Part) (b : ℕ) → among blank b ≡ false → among (these "}") b ≡ false
    → step (at members n ∷ gs) b ≡ step (at member n ∷ gs) b
unfolding settled optional move rules chosen
member-step n gs b e f = rw (e, f) refl

-- the first item of an array is read as a value
pub item-step : (n : ℕ) (gs : List Part) (b : ℕ) → among blank b ≡ false → among (these "]") b ≡ false
    → step (at items n ∷ gs) b ≡ step (at value n ∷ at more_items n ∷ gs) b
unfolding settled optional move rules chosen
item-step n gs b e f =
    rw (e, f) (ap (option_map (λ qs. qs ++ gs)) (before-chosen (at more_items n ∷ []) (values n) b)
    ∙ map-twice (at more_items n ∷ []) gs (chosen (values n) b))

module _ (d c : ℕ) (o : Open d c) where
  closing : (gs : List Part) (p : Bool) (b : ℕ) → step gs b ≡ Some (around d c) → NoName p b
      → TurnedAt gs p d b (so Bracket More (d - 1) (c / 2))
  unfolding StandingAt FirstByte Behind comes
  closing gs p b e f = record { goes = e; stands = pop-open d c o; first = f; behind = tt }

  module _ (a : array? c ≡ true) where
    -- ---- after a value of an array

    pub items-comma : (b : ℕ) → b ≡ 44 → TurnedAt (parts_at More d c) false d b (so Comma Value d c)
    unfolding settled optional move rules chosen among comes FirstByte Behind StandingAt
    items-comma b q =
        record {
          goes = rw (q, more-open d c o.some, a) refl;
          stands = o;
          first = q;
          behind = tt;
        }

    pub items-closed : (b : ℕ) → b ≡ 93 → TurnedAt (parts_at More d c) false d b (so Bracket More (d - 1) (c / 2))
    unfolding settled optional move rules chosen among
    items-closed b q = rw q (closing (more d c) false 93 (rw (more-open d c o.some, a) refl) ((λ e. omega arith), refl))

    pub items-none : (b : ℕ) → among blank b ≡ false → (b ≡ 44 → ⊥) → (b ≡ 93 → ⊥)
        → TurnedAt (parts_at More d c) false d b (so Nothing Object d c)
    unfolding settled optional move rules chosen
    items-none b h n m = nothing-comes (more d c) false d b d c (rw (more-open d c o.some, a) (rw (h, no_byte 44 b n, no_byte 93 b m)))

    -- ---- after an opening bracket

    pub first-closed : (b : ℕ) → b ≡ 93 → TurnedAt (parts_at First d c) (outermost First d c) d b (so Bracket More (d - 1) (c / 2))
    unfolding settled optional move rules chosen among outer
    first-closed b q = rw (q, a) (closing (at items (inside d) ∷ around d c) false 93 refl ((λ e. omega arith), refl))

    pub first-value : (b : ℕ) (r : Turn) → among blank b ≡ false → (b ≡ 93 → ⊥) → TurnedAt (parts_at Value d c) false d b r
        → TurnedAt (parts_at First d c) (outermost First d c) d b r
    unfolding outer
    first-value b r h n t =
        let e : step (at items (inside d) ∷ around d c) b ≡ step (parts_at Value d c) b =
        item-step (inside d) (around d c) b h (no_byte 93 b n)
        ∙ ap (λ (gs : List Part). step (at value (inside d) ∷ gs) b)
        (sym (rw a at (more-open d c o.some))) in
        rw a (record { goes = e ∙ t.goes; stands = t.stands; first = t.first; behind = t.behind })

  module _ (a : array? c ≡ false) where
    pub first_ended : (b : ℕ) → b ≡ 125 → TurnedAt (parts_at First d c) (outermost First d c) d b (so Bracket More (d - 1) (c / 2))
    unfolding settled optional move rules chosen among
    first_ended b q =
        rw (q, a) (closing (at members (inside d) ∷ around d c) (outer members (inside d)) 125 refl
        ((λ e. omega arith), and-never (outer members (inside d))))

    pub first-name : (b : ℕ) (r : Turn) → among blank b ≡ false → (b ≡ 125 → ⊥) → TurnedAt (parts_at Member d c) (outermost Member d c) d b r
        → TurnedAt (parts_at First d c) (outermost First d c) d b r
    unfolding outer
    first-name b r h n t =
        rw a (record {
          goes = member-step (inside d) (around d c) b h (no_byte 125 b n)
              ∙ t.goes;
          stands = t.stands;
          first = t.first;
          behind = t.behind;
        })

    -- ---- a name

    outer-depth : outer member (inside d) ≡ eqb d 1
    unfolding outer
    outer-depth = by-depth (eqb d 1) refl
      where
        by-depth : (p : Bool) → eqb d 1 ≡ p → eqb (inside d) levels_inside ≡ p
        by-depth true h = eq-eqb (inside d) levels_inside (omega (arith, eqb-true d 1 h))
        by-depth false h =
            let n : d ≡ 1 → ⊥ = eqb-false d 1 h in
            ne_eqb (inside d) levels_inside (λ e. n (let q : d ≡ 1 = omega (arith, o.some, o.most, e) in q))

    pub name-begun : (b : ℕ) → b ≡ 34 → TurnedAt (parts_at Member d c) (outermost Member d c) d b (so Name Value d c)
    unfolding settled optional move rules chosen among comes head_of FirstByte Behind StandingAt outer
    name-begun b q =
        record {
          goes = rw q (ap (λ (gs : List Part). Some (head_of Name ++ (at value (inside d) ∷ gs))) (sym (rw a at (more-open d c o.some))));
          stands = o;
          first = (q, outer-depth);
          behind = record { spot = value; levels = inside d; rest = more d c; whole = refl };
        }

    -- ---- after a value of an object

    pub members-comma : (b : ℕ) → b ≡ 44 → TurnedAt (parts_at More d c) false d b (so Comma Member d c)
    unfolding settled optional move rules chosen among comes FirstByte Behind StandingAt
    members-comma b q = record { goes = rw (q, more-open d c o.some, a) refl; stands = (o, a); first = q; behind = tt }

    pub members-closed : (b : ℕ) → b ≡ 125 → TurnedAt (parts_at More d c) false d b (so Bracket More (d - 1) (c / 2))
    unfolding settled optional move rules chosen among
    members-closed b q = rw q (closing (more d c) false 125 (rw (more-open d c o.some, a) refl) ((λ e. omega arith), refl))

    pub members-none : (b : ℕ) → among blank b ≡ false → (b ≡ 44 → ⊥) → (b ≡ 125 → ⊥)
        → TurnedAt (parts_at More d c) false d b (so Nothing Object d c)
    unfolding settled optional move rules chosen
    members-none b h n m = nothing-comes (more d c) false d b d c
        (rw (more-open d c o.some, a) (rw (h, no_byte 44 b n, no_byte 125 b m)))

-- no name
pub name-none : (d c b : ℕ) → among blank b ≡ false → (b ≡ 34 → ⊥)
    → TurnedAt (parts_at Member d c) (outermost Member d c) d b (so Nothing Object d c)
unfolding settled optional move rules chosen
name-none d c b h n = nothing-comes (parts_at Member d c) (outermost Member d c) d b d c (rw (h, no_byte 34 b n))

-- ---- after the object, and before it

pub none_after : (d c b : ℕ) → d ≡ 0 → among blank b ≡ false → TurnedAt (parts_at More d c) false d b (so Nothing Object d c)
unfolding more settled move
none_after d c b e h = nothing-comes (more d c) false d b d c (rw (e, h))

pub object-begun : (d c b : ℕ) → b ≡ 123 → TurnedAt (parts_at Object d c) false d b (so Bracket First 1 0)
unfolding settled optional move rules chosen among comes FirstByte Behind StandingAt more room
object-begun d c b q =
    record {
      goes = rw q refl;
      stands = record { some = omega arith; most = omega arith; bits = omega arith };
      first = ((λ e. omega (arith, q, e)), refl);
      behind = tt;
    }

pub object-none : (d c b : ℕ) → among blank b ≡ false → (b ≡ 123 → ⊥) → TurnedAt (parts_at Object d c) false d b (so Nothing Object d c)
unfolding settled optional move rules chosen
object-none d c b h n = nothing-comes (parts_at Object d c) false d b d c (rw (h, no_byte 123 b n))

-- ---- what stands, by what may come

pub standing-open : (d c : ℕ) → (d ≡ 0 → ⊥) → StandingAt More d c → Open d c
unfolding StandingAt
standing-open d c n s = record { some = omega arith; most = s.0; bits = s.1 }

pub standing-member : (d c : ℕ) → Open d c → array? c ≡ false → StandingAt Member d c
unfolding StandingAt
standing-member d c o a = (o, a)

pub member-open : (d c : ℕ) → StandingAt Member d c → Open d c
unfolding StandingAt
member-open d c s = s.0

pub member-object : (d c : ℕ) → StandingAt Member d c → array? c ≡ false
unfolding StandingAt
member-object d c s = s.1

pub arm-standing : (v : Levels) (x : Next) → v.next ≡ x → Standing v → StandingAt x v.depth v.bits
arm-standing v x e s = subst (λ (n : Next). StandingAt n v.depth v.bits) e s

pub arm-turned : (v : Levels) (b : ℕ) (x : Next) (r : Turn) → v.next ≡ x
    → TurnedAt (parts_at x v.depth v.bits) (outermost x v.depth v.bits) v.depth b r → Turned v b r
arm-turned v b x r e t =
    subst (λ (n : Next). TurnedAt (parts_at n v.depth v.bits) (outermost n v.depth v.bits) v.depth b r) (sym e) t

pub open-first : (d c : ℕ) → StandingAt First d c → Open d c
unfolding StandingAt
open-first d c s = s

pub open-value : (d c : ℕ) → StandingAt Value d c → Open d c
unfolding StandingAt
open-value d c s = s
