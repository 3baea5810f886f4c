-- A token held against what is due: what reading comes to stays what it was, with the cell that was stored.
use Prim.Native.Nat.{ℕ, suc, ◌+◌, ◌*◌, ◌≤◌, ◌<◌}
use Rattle.std.specs.Prelude.{◌≡◌, Bool, ◌&&◌, drop, get_or, if◌then◌else◌, None, Some, Option}
use Rattle.std.proofs.Math.Path.{refl, sym, ap, subst}
use Rattle.std.proofs.Common.{◌∙◌, zero-add, drop-cons, take_at, length-take-le, length-drop}
use Rattle.std.proofs.Math.Bool.{true, false}
use mathlib.Core.List.{List, [], ◌∷◌, ◌++◌, append-nil}
use Rattle.std.specs.Option.{option_map}
use native.Mathlib.Omega.{arith}
use borrow.Author.Tests.{eq-eqb, ne_eqb}
use Rattle.std.proofs.Math.Dec.{eqb}
use Rattle.std.proofs.Math.ListN.{length, take, length-append}
use Rattle.paper.specs.declared.Axis.{Axis}
use Rattle.paper.specs.declared.Cell.{Cell}
use Rattle.paper.specs.Limits.{most_cells, cell_bytes}
use Rattle.paper.specs.Numbers.{text, concat, alike}
use Rattle.paper.specs.Axes.{cells}
use Rattle.paper.specs.Cells.{encode, cells_bytes}
use Rattle.paper.specs.JsonRead.{Token, is_data, Due, opening, closing, cell, due, begins, cell_in, fits, spells}
use Rattle.laws.specs.Limits.{Sound}
use Rattle.laws.specs.Results.{cell-bytes}
use Rattle.json_text.specs.Left.{Rest, preceded}
use Rattle.json_levels.specs.declared.Begun.{Begun}
use Rattle.json_levels.specs.Tokens.{named_by, TokenAt, TokensAt}
use Rattle.json_due.specs.declared.Cursor.{Cursor}
use Rattle.json_due.specs.declared.Wanted.{Wanted}
use Rattle.json_due.specs.Due.{rest_of, Stands, Follows, came_by, cells_due, due-cells, first_due, first-reached}
use Rattle.json_due.specs.Due.{rest-nothing, rest-opening, rest-closing, rest-value}
use Rattle.json_read.specs.declared.fit.Stage.{Stage}
use Rattle.json_read.specs.declared.fit.Stage.TheVariants.{Before, Within, Wrong, Stopped}
use Rattle.json_read.specs.declared.fit.Fit.{Fit}
use Rattle.json_read.specs.declared.fit.Sign.{Sign}
use Rattle.json_read.specs.Outcome.{Phase, before, within, wrong, twice, outcome, with, with_none}
use Rattle.json_read.specs.Outcome.{before-other, wrong-other, within-over, within-misfit, within-fits, before-data, within-data}
use Rattle.json_read.specs.Outcome.{wrong-data}

-- the phase that a stage stands for
unfoldable pub phase_by : List Axis → Stage → Cursor → Phase
phase_by E Before c = before (due E)
phase_by E Within c = within (rest_of E c)
phase_by E (Wrong p) c = wrong p
phase_by E (Stopped p) c = twice p

abbrev pub phase_of : List Axis → Fit → Phase
phase_of E f = phase_by E f.stage f.cursor

-- as many cells are still due as are not yet stored
unfoldable pub Counts : List Axis → Stage → ℕ → Cursor → Type 0
Counts E Before n c = n ≡ 0
Counts E Within n c = n + cells_due (rest_of E c) ≡ cells E
Counts E (Wrong p) n c = Unit {0}
Counts E (Stopped p) n c = Unit {0}

pub record Ready (E : List Axis) (f : Fit) (room : ℕ) : Type 0 where
  pub sound : Sound E
  pub few : cells E ≤ most_cells
  pub some-axis : 1 ≤ length E
  pub stands : Stands E f.cursor
  pub counts : Counts E f.stage f.done f.cursor
  pub most : f.done ≤ most_cells
  pub all_room : room ≡ most_cells * cell_bytes

abbrev pub waiting : Fit
waiting = record { stage = Before; done = 0; cursor = first_due }

-- what ends it all, at byte i
abbrev pub stopping : Fit → ℕ → Fit
stopping f i = record { stage = Stopped (i + 1); done = f.done; cursor = f.cursor }

-- ---- promises

-- cells stored, and what is ready after them
pub record Stored (E : List Axis) (f : Fit) (out : List ℕ) (new : List Cell) (r : Fit) (after : List ℕ) : Type 0 where
  pub ready : Ready E r (length after)
  pub number : r.done ≡ f.done + length new
  pub held : take (r.done * cell_bytes) after ≡ take (f.done * cell_bytes) out ++ cells_bytes new

-- a token at byte i that is not `data` was met
pub record Met (t : ℕ) (E : List Axis) (s : List ℕ) (i : ℕ) (f : Fit) (out : List ℕ) (r : Fit) (after : List ℕ) : Type 0 where
  pub new : List Cell
  pub stored : Stored E f out new r after
  pub goes : (n : ℕ) (k : Token) → k.place ≡ i + 1 → k.text ≡ drop i s → is_data k ≡ false → (R : Rest)
      → outcome t n (phase_of E f) (preceded (k ∷ []) R) ≡ with new (outcome t n (phase_of E r) R)

-- what begins at byte i was met
pub record TokenMet (t : ℕ) (E : List Axis) (s : List ℕ) (i : ℕ) (g : Begun) (d : ℕ) (f : Fit) (out : List ℕ) (r : Fit)
    (after : List ℕ) : Type 0 where
  pub new : List Cell
  pub stored : Stored E f out new r after
  pub stopped : g ≡ Begun.Nothing → r ≡ stopping f i
  pub goes : (n : ℕ) (ks : List Token) → (g ≡ Begun.Nothing → ⊥) → TokensAt g (named_by g d (spells (text "data") (drop (i + 1) s))) s i ks
      → (R : Rest)
      → outcome t n (phase_of E f) (preceded ks R) ≡ with new (outcome t n (phase_of E r) R)

abbrev pub misfitting : Fit → ℕ → Fit
misfitting f i = record { stage = Wrong (i + 1); done = f.done; cursor = f.cursor }

-- what was due came, and so many cells are stored
pub record FitsOn (E : List Axis) (c : Cursor) (n : ℕ) (r : Fit) : Type 0 where
  pub stage : r.stage ≡ Within
  pub done : r.done ≡ n
  pub follows : Follows E c r.cursor

-- the bracket is there, or not
unfoldable pub BracketBy : Bool → List Axis → ℕ → Fit → Fit → Type 0
BracketBy true E i f r = FitsOn E f.cursor f.done r
BracketBy false E i f r = r ≡ misfitting f i

abbrev pub BracketMet : List Axis → List ℕ → ℕ → ℕ → Fit → Fit → Type 0
BracketMet E s i b f r = BracketBy (eqb (get_or s i 0) b) E i f r

pub record WithinDue (E : List Axis) (f : Fit) (room : ℕ) : Type 0 where
  pub ready : Ready E f room
  pub stage : f.stage ≡ Within

pub record ValueDue (E : List Axis) (f : Fit) (room : ℕ) : Type 0 where
  pub ready : Ready E f room
  pub stage : f.stage ≡ Within
  pub wanted : f.cursor.wanted ≡ Wanted.Value

-- after a name `data`
abbrev pub after_by : Stage → Fit → ℕ → Fit
after_by Before f i = record { stage = Within; done = f.done; cursor = first_due }
after_by Within f i = stopping f i
after_by (Wrong p) f i = stopping f i
after_by (Stopped p) f i = f

abbrev pub after_data : Fit → ℕ → Fit
after_data f i = after_by f.stage f i

abbrev pub name_sign : ℕ → Bool → Sign
name_sign d x = if eqb d 1 then (if x then Sign.Data else Sign.Other) else Sign.Other

abbrev pub sign_of : Begun → ℕ → Bool → Sign
sign_of Begun.Nothing d x = Sign.Nothing
sign_of Begun.Comma d x = Sign.Comma
sign_of Begun.Bracket d x = Sign.Other
sign_of Begun.Name d x = name_sign d x
sign_of Begun.Text d x = Sign.Other
sign_of Begun.Minus d x = Sign.Other
sign_of Begun.Zero d x = Sign.Other
sign_of Begun.Digit d x = Sign.Other
sign_of Begun.True d x = Sign.Other
sign_of Begun.False d x = Sign.Other
sign_of Begun.Null d x = Sign.Other

-- ---- what is stored

module _ (E : List Axis) (f : Fit) (out : List ℕ) (y : Ready E f (length out)) where
  none_number : f.done ≡ f.done + 0
  none_number = omega arith

  none-held : take (f.done * cell_bytes) out ≡ take (f.done * cell_bytes) out ++ []
  none-held = sym (append-nil (take (f.done * cell_bytes) out))

  pub same-stored : Stored E f out [] f out
  unfolding concat
  same-stored = record { ready = y; number = none_number; held = none-held }

  pub misfit-stored : (i : ℕ) → Stored E f out [] (misfitting f i) out
  unfolding concat Counts
  misfit-stored i =
      record {
        ready =
            record {
              sound = y.sound;
              few = y.few;
              some-axis = y.some-axis;
              stands = y.stands;
              counts = tt;
              most = y.most;
              all_room = y.all_room;
            };
        number = none_number;
        held = none-held;
      }

  pub stop-stored : (i : ℕ) → Stored E f out [] (stopping f i) out
  unfolding concat Counts
  stop-stored i =
      record {
        ready =
            record {
              sound = y.sound;
              few = y.few;
              some-axis = y.some-axis;
              stands = y.stands;
              counts = tt;
              most = y.most;
              all_room = y.all_room;
            };
        number = none_number;
        held = none-held;
      }

-- the stage told
counts-within : (E : List Axis) (x : Stage) (n : ℕ) (c : Cursor) → x ≡ Within → n + cells_due (rest_of E c) ≡ cells E → Counts E x n c
unfolding Counts
counts-within E x n c e q = subst (λ (z : Stage). Counts E z n c) (sym e) q

within-counts : (E : List Axis) (x : Stage) (n : ℕ) (c : Cursor) → x ≡ Within → Counts E x n c → n + cells_due (rest_of E c) ≡ cells E
unfolding Counts
within-counts E x n c e q = subst (λ (z : Stage). Counts E z n c) e q

phase-within : (E : List Axis) (f : Fit) → f.stage ≡ Within → phase_of E f ≡ within (rest_of E f.cursor)
unfolding phase_by
phase-within E f e = ap (λ (z : Stage). phase_by E z f.cursor) e

phase-wrong : (E : List Axis) (f : Fit) (i : ℕ) → phase_of E (misfitting f i) ≡ wrong (i + 1)
unfolding phase_by
phase-wrong E f i = refl

-- ---- in the value of `data`

byte-begins : (s : List ℕ) (i b : ℕ) → i < length s → begins (b ∷ []) (drop i s) ≡ eqb (get_or s i 0) b
unfolding alike
byte-begins s i b h = rw (drop-cons s i 0 h) (and-true (eqb (get_or s i 0) b))
  where
    and-true : (p : Bool) → (p && true) ≡ p
    and-true true = refl
    and-true false = refl

module _ (t : ℕ) (E : List Axis) (s : List ℕ) (i : ℕ) (f : Fit) (out : List ℕ) (y : Ready E f (length out)) (w : f.stage ≡ Within) where
  -- nothing is due any more
  pub over-met : rest_of E f.cursor ≡ [] → Met t E s i f out f out
  over-met e =
      record {
        new = [];
        stored = same-stored E f out y;
        goes = λ n k p x d R.
            let q : phase_of E f ≡ within [] = phase-within E f w ∙ ap within e in
            ap (λ (z : Phase). outcome t n z (preceded (k ∷ []) R)) q ∙ within-over t n k R d
            ∙ sym (ap (λ (z : Phase). outcome t n z R) q) ∙ with_none (outcome t n (phase_of E f) R);
      }

  -- it doesn't fit
  pub misfit-met : (d : Due) (ds : List Due) → rest_of E f.cursor ≡ d ∷ ds → fits t d (drop i s) ≡ None
      → Met t E s i f out (misfitting f i) out
  misfit-met d ds e u =
      record {
        new = [];
        stored = misfit-stored E f out y i;
        goes = λ n k p x j R.
            ap (λ (z : Phase). outcome t n z (preceded (k ∷ []) R)) (phase-within E f w ∙ ap within e)
            ∙ within-misfit t n k R j d ds (ap (fits t d) x ∙ u)
            ∙ ap (λ (z : Phase). outcome t n z R) (ap wrong p ∙ sym (phase-wrong E f i))
            ∙ with_none (outcome t n (phase_of E (misfitting f i)) R);
      }

  -- it fits, with these cells
  pub fit-met : (d : Due) (cs : List Cell) (r : Fit) (after : List ℕ) → fits t d (drop i s) ≡ Some cs
      → FitsOn E f.cursor (f.done + length cs) r
      → rest_of E f.cursor ≡ d ∷ rest_of E r.cursor → Stored E f out cs r after → Met t E s i f out r after
  fit-met d cs r after u v e m =
      record {
        new = cs;
        stored = m;
        goes = λ n k p x j R.
            ap (λ (z : Phase). outcome t n z (preceded (k ∷ []) R)) (phase-within E f w ∙ ap within e)
            ∙ within-fits t n k R j d (rest_of E r.cursor) cs (ap (fits t d) x ∙ u)
            ∙ ap (λ (z : Phase). with cs (outcome t n z R)) (sym (phase-within E r v.stage));
      }

  -- so many cells are stored then
  pub fit-stored : (d : Due) (cs : List Cell) (r : Fit) (after : List ℕ) → FitsOn E f.cursor (f.done + length cs) r
      → rest_of E f.cursor ≡ d ∷ rest_of E r.cursor → cells_due (d ∷ rest_of E r.cursor) ≡ length cs + cells_due (rest_of E r.cursor)
      → length after ≡ length out → take ((f.done + length cs) * cell_bytes) after ≡ take (f.done * cell_bytes) out ++ cells_bytes cs
      → Stored E f out cs r after
  fit-stored d cs r after v e q l h =
      let a = within-counts E f.stage f.done f.cursor w y.counts in
      let b : cells_due (rest_of E f.cursor) ≡ length cs + cells_due (rest_of E r.cursor) = ap cells_due e ∙ q in
      let g : r.done ≡ f.done + length cs = v.done in
      let k : r.done + cells_due (rest_of E r.cursor) ≡ cells E = omega arith in
      record {
        ready =
            record {
              sound = y.sound;
              few = y.few;
              some-axis = y.some-axis;
              stands = v.follows.stands;
              counts = counts-within E r.stage r.done r.cursor v.stage k;
              most = omega (arith, k, y.few);
              all_room = l ∙ y.all_room;
            };
        number = g;
        held = ap (λ (n : ℕ). take (n * cell_bytes) after) g ∙ h;
      }

-- a bracket
module _ (t : ℕ) (E : List Axis) (s : List ℕ) (i : ℕ) (h : i < length s) (f : Fit) (out : List ℕ) (y : Ready E f (length out))
    (w : f.stage ≡ Within)
    (d : Due) (b : ℕ) (x : Wanted) (e : f.cursor.wanted ≡ x) (ca : (ds : List Due) → came_by x ds ≡ d ∷ ds)
    (no : (ds : List Due) → cells_due (d ∷ ds) ≡ cells_due ds)
    (fi : (bs : List ℕ) → fits t d bs ≡ (if begins (b ∷ []) bs then Some [] else None))
    (ds : List Due) (first : rest_of E f.cursor ≡ d ∷ ds) where
  bracket-by : (r : Fit) (p : Bool) → eqb (get_or s i 0) b ≡ p → BracketBy p E i f r → Met t E s i f out r out
  unfolding BracketBy concat
  bracket-by r true q v =
      let z : f.done ≡ f.done + 0 = omega arith in
      let u : FitsOn E f.cursor (f.done + 0) r = record { stage = v.stage; done = v.done ∙ z; follows = v.follows } in
      let a : rest_of E f.cursor ≡ d ∷ rest_of E r.cursor =
      v.follows.rest ∙ ap (λ (n : Wanted). came_by n (rest_of E r.cursor)) e ∙ ca (rest_of E r.cursor) in
      let l : cells_due (d ∷ rest_of E r.cursor) ≡ 0 + cells_due (rest_of E r.cursor) = no (rest_of E r.cursor)
      ∙ sym (zero-add (cells_due (rest_of E r.cursor))) in
      let k : take ((f.done + 0) * cell_bytes) out ≡ take (f.done * cell_bytes) out ++ [] =
      ap (λ (n : ℕ). take (n * cell_bytes) out) (sym z) ∙ sym (append-nil (take (f.done * cell_bytes) out)) in
      fit-met t E s i f out y w d [] r out (fi (drop i s) ∙ rw (byte-begins s i b h ∙ q) refl) u a
      (fit-stored t E s i f out y w d [] r out u a l refl k)
  bracket-by r false q v =
      subst (λ (g : Fit). Met t E s i f out g out) (sym v)
      (misfit-met t E s i f out y w d ds first (fi (drop i s) ∙ rw (byte-begins s i b h ∙ q) refl))

  pub bracket-done : (r : Fit) → BracketMet E s i b f r → Met t E s i f out r out
  bracket-done r v = bracket-by r (eqb (get_or s i 0) b) refl v

-- a cell
module _ (t : ℕ) (E : List Axis) (s : List ℕ) (i : ℕ) (f : Fit) (out : List ℕ) (v : ValueDue E f (length out)) where
  value-first : (ds : List Due) × (rest_of E f.cursor ≡ cell ∷ ds)
  value-first = rest-value E f.cursor v.ready.stands v.wanted

  pub value_room : f.done * cell_bytes + cell_bytes ≤ length out
  unfolding cells_due
  value_room =
      let a = within-counts E f.stage f.done f.cursor v.stage v.ready.counts in
      let b : cells_due (rest_of E f.cursor) ≡ suc (cells_due value-first.0) = ap cells_due value-first.1 in
      omega (arith, a, b, v.ready.few, v.ready.all_room)

  cell-fits : (g : Option Cell) (c : Cell) → g ≡ cell_in t (drop i s) → g ≡ Some c → fits t cell (drop i s) ≡ Some (c ∷ [])
  unfolding fits
  cell-fits g c e q = ap (option_map (λ (x : Cell). x ∷ [])) (sym e ∙ q)

  pub value-misfit : (g : Option Cell) → g ≡ cell_in t (drop i s) → g ≡ None → Met t E s i f out (misfitting f i) out
  unfolding fits
  value-misfit g e q =
      misfit-met t E s i f out v.ready v.stage cell value-first.0 value-first.1
      (ap (option_map (λ (x : Cell). x ∷ [])) (sym e ∙ q))

  module _ (c : Cell) (after : List ℕ) (p : after ≡ take (f.done * cell_bytes) out ++ encode c ++ drop
      (f.done * cell_bytes + cell_bytes) out) where
    nine : length (encode c) ≡ cell_bytes
    unfolding concat
    nine = ap length (sym (append-nil (encode c))) ∙ cell-bytes (c ∷ [])

    taken : length (take (f.done * cell_bytes) out) ≡ f.done * cell_bytes
    taken = length-take-le (f.done * cell_bytes) out (omega (arith, value_room))

    after-length : length after ≡ length out
    after-length =
        let a = length-append (take (f.done * cell_bytes) out ++ encode c) (drop (f.done * cell_bytes + cell_bytes) out) in
        let b = length-append (take (f.done * cell_bytes) out) (encode c) in
        let d = length-drop (f.done * cell_bytes + cell_bytes) out in
        ap length p ∙ (omega (arith, a, b, d, nine, taken, value_room))

    after-held : take ((f.done + 1) * cell_bytes) after ≡ take (f.done * cell_bytes) out ++ cells_bytes (c ∷ [])
    unfolding concat
    after-held =
        let a = length-append (take (f.done * cell_bytes) out) (encode c) in
        let n : length (take (f.done * cell_bytes) out ++ encode c) ≡ (f.done + 1) * cell_bytes = omega (arith, a, nine, taken) in
        ap (take ((f.done + 1) * cell_bytes)) p
        ∙ (take_at (take (f.done * cell_bytes) out ++ encode c) (drop (f.done * cell_bytes + cell_bytes) out) ((f.done + 1) * cell_bytes) n
        ∙ ap (λ (l : List ℕ). take (f.done * cell_bytes) out ++ l) (sym (append-nil (encode c))))

    pub value-fits : (g : Option Cell) → g ≡ cell_in t (drop i s) → g ≡ Some c → (r : Fit) → FitsOn E f.cursor (f.done + 1) r
        → Met t E s i f out r after
    unfolding came_by cells_due
    value-fits g e q r u =
        let a : rest_of E f.cursor ≡ cell ∷ rest_of E r.cursor =
        u.follows.rest ∙ ap (λ (n : Wanted). came_by n (rest_of E r.cursor)) v.wanted in
        let l : cells_due (cell ∷ rest_of E r.cursor) ≡ 1 + cells_due (rest_of E r.cursor) = omega arith in
        fit-met t E s i f out v.ready v.stage cell (c ∷ []) r after (cell-fits g c e q) u a
        (fit-stored t E s i f out v.ready v.stage cell (c ∷ []) r after u a l after-length after-held)

-- ---- anywhere

module _ (t : ℕ) (E : List Axis) (s : List ℕ) (i : ℕ) (f : Fit) (out : List ℕ) (y : Ready E f (length out)) where
  pub before-met : f.stage ≡ Before → Met t E s i f out f out
  unfolding phase_by
  before-met w =
      record {
        new = [];
        stored = same-stored E f out y;
        goes = λ n k p x d R.
            let q : phase_of E f ≡ before (due E) = ap (λ (z : Stage). phase_by E z f.cursor) w in
            ap (λ (z : Phase). outcome t n z (preceded (k ∷ []) R)) q ∙ before-other t n k R d (due E)
            ∙ sym (ap (λ (z : Phase). outcome t n z R) q) ∙ with_none (outcome t n (phase_of E f) R);
      }

  pub wrong-met : (p : ℕ) → f.stage ≡ Wrong p → Met t E s i f out f out
  unfolding phase_by
  wrong-met j w =
      record {
        new = [];
        stored = same-stored E f out y;
        goes = λ n k p x d R.
            let q : phase_of E f ≡ wrong j = ap (λ (z : Stage). phase_by E z f.cursor) w in
            ap (λ (z : Phase). outcome t n z (preceded (k ∷ []) R)) q ∙ wrong-other t n k R d j
            ∙ sym (ap (λ (z : Phase). outcome t n z R) q) ∙ with_none (outcome t n (phase_of E f) R);
      }

  pub stopped-met : (p : ℕ) → f.stage ≡ Stopped p → Met t E s i f out f out
  unfolding phase_by outcome
  stopped-met j w =
      record {
        new = [];
        stored = same-stored E f out y;
        goes = λ n k p x d R.
            let q : phase_of E f ≡ twice j = ap (λ (z : Stage). phase_by E z f.cursor) w in
            ap (λ (z : Phase). outcome t n z (preceded (k ∷ []) R)) q
            ∙ sym (ap (λ (z : Phase). outcome t n z R) q) ∙ with_none (outcome t n (phase_of E f) R);
      }

-- ---- what begins

-- by its sign
unfoldable pub SignedBy : Sign → Begun → List ℕ → ℕ → List Token → Type 0
SignedBy Sign.Nothing g s i ks = g ≡ Begun.Nothing
SignedBy Sign.Comma g s i ks = ks ≡ []
SignedBy Sign.Data g s i ks = TokenAt true s i ks
SignedBy Sign.Other g s i ks = TokenAt false s i ks

name-signed : (p x : Bool) (g : Begun) (s : List ℕ) (i : ℕ) (ks : List Token) → TokenAt (p && x) s i ks
    → SignedBy (if p then (if x then Sign.Data else Sign.Other) else Sign.Other) g s i ks
unfolding SignedBy
name-signed true true g s i ks a = a
name-signed true false g s i ks a = a
name-signed false x g s i ks a = a

pub signed_by : (g : Begun) (d : ℕ) (x : Bool) (s : List ℕ) (i : ℕ) (ks : List Token) → (g ≡ Begun.Nothing → ⊥)
    → TokensAt g (named_by g d x) s i ks
    → SignedBy (sign_of g d x) g s i ks
unfolding SignedBy TokensAt named_by
signed_by Begun.Nothing d x s i ks n a = refl
signed_by Begun.Comma d x s i ks n a = a
signed_by Begun.Bracket d x s i ks n a = a
signed_by Begun.Name d x s i ks n a = name-signed (eqb d 1) x Begun.Name s i ks a
signed_by Begun.Text d x s i ks n a = a
signed_by Begun.Minus d x s i ks n a = a
signed_by Begun.Zero d x s i ks n a = a
signed_by Begun.Digit d x s i ks n a = a
signed_by Begun.True d x s i ks n a = a
signed_by Begun.False d x s i ks n a = a
signed_by Begun.Null d x s i ks n a = a

from_nothing : (g : Begun) (d : ℕ) (x : Bool) → g ≡ Begun.Nothing → sign_of g d x ≡ Sign.Nothing
from_nothing g d x e = ap (λ (z : Begun). sign_of z d x) e

-- nothing, or another sign
unfoldable pub number : Sign → ℕ
number Sign.Nothing = 0
number Sign.Comma = 1
number Sign.Data = 1
number Sign.Other = 1

-- another sign than nothing's
pub other_sign : (g : Begun) (d : ℕ) (x : Bool) (z : Sign) → sign_of g d x ≡ z → number z ≡ 1 → g ≡ Begun.Nothing → ⊥
unfolding number
other_sign g d x z e q h = let k : number (sign_of g d x) ≡ 0 = ap number (from_nothing g d x h) in let m : number (sign_of g d x)
    ≡ 1 = ap number e ∙ q in omega arith

module _ (t : ℕ) (E : List Axis) (s : List ℕ) (i : ℕ) (g : Begun) (d : ℕ) (f : Fit) (out : List ℕ) (y : Ready E f (length out)) where
  abbrev pub spelt : Bool
  spelt = spells (text "data") (drop (i + 1) s)

  pub nothing-met : sign_of g d spelt ≡ Sign.Nothing → TokenMet t E s i g d f out (stopping f i) out
  unfolding SignedBy
  nothing-met e =
      record {
        new = [];
        stored = stop-stored E f out y i;
        stopped = λ h. refl;
        goes = λ n ks u a R. absurd (u (subst (λ (z : Sign). SignedBy z g s i ks) e (signed_by g d spelt s i ks u a)));
      }

  pub comma-met : sign_of g d spelt ≡ Sign.Comma → TokenMet t E s i g d f out f out
  unfolding SignedBy number
  comma-met e =
      record {
        new = [];
        stored = same-stored E f out y;
        stopped = λ h. absurd (other_sign g d spelt Sign.Comma e refl h);
        goes = λ n ks u a R.
            let k : ks ≡ [] = subst (λ (z : Sign). SignedBy z g s i ks) e (signed_by g d spelt s i ks u a) in
            ap (λ (l : List Token). outcome t n (phase_of E f) (preceded l R)) k ∙ with_none (outcome t n (phase_of E f) R);
      }

  pub other-met : sign_of g d spelt ≡ Sign.Other → (r : Fit) (after : List ℕ) → Met t E s i f out r after
      → TokenMet t E s i g d f out r after
  unfolding SignedBy number
  other-met e r after m =
      record {
        new = m.new;
        stored = m.stored;
        stopped = λ h. absurd (other_sign g d spelt Sign.Other e refl h);
        goes = λ n ks u a R.
            let k : TokenAt false s i ks = subst (λ (z : Sign). SignedBy z g s i ks) e (signed_by g d spelt s i ks u a) in
            ap (λ (l : List Token). outcome t n (phase_of E f) (preceded l R)) k.alone
            ∙ m.goes n k.token k.place k.here k.data? R;
      }

  -- `data`
  pub data-stored : (x : Stage) → f.stage ≡ x → Stored E f out [] (after_by x f i) out
  unfolding Counts concat
  data-stored Before w =
      let z : f.done ≡ 0 = subst (λ (q : Stage). Counts E q f.done f.cursor) w y.counts in
      let v = first-reached E y.some-axis in
      let k : cells_due (rest_of E first_due) ≡ cells E = ap cells_due v.rest ∙ due-cells E in
      record {
        ready =
            record {
              sound = y.sound;
              few = y.few;
              some-axis = y.some-axis;
              stands = v.stands;
              counts = omega (arith, z, k);
              most = y.most;
              all_room = y.all_room;
            };
        number = omega arith;
        held = sym (append-nil (take (f.done * cell_bytes) out));
      }
  data-stored Within w = stop-stored E f out y i
  data-stored (Wrong q) w = stop-stored E f out y i
  data-stored (Stopped q) w = same-stored E f out y

  pub data-goes : (x : Stage) → f.stage ≡ x → (n : ℕ) (k : Token) → k.place ≡ i + 1 → is_data k ≡ true → (R : Rest)
      → outcome t n (phase_by E x f.cursor) (preceded (k ∷ []) R) ≡ outcome t n (phase_of E (after_by x f i)) R
  unfolding phase_by outcome
  data-goes Before w n k p a R = before-data t n k R a (due E)
      ∙ ap (λ (l : List Due). outcome t n (within l) R) (sym (first-reached E y.some-axis).rest)
  data-goes Within w n k p a R = within-data t n k R a (rest_of E f.cursor) ∙ ap (λ (z : ℕ). outcome t n (twice z) R) p
  data-goes (Wrong q) w n k p a R = wrong-data t n k R a q ∙ ap (λ (z : ℕ). outcome t n (twice z) R) p
  data-goes (Stopped q) w n k p a R = sym (ap (λ (x : Stage). outcome t n (phase_by E x f.cursor) R) w)

-- ---- way by way

module _ (E : List Axis) (s : List ℕ) (i b : ℕ) (f r : Fit) where
  pub bracket-is : get_or s i 0 ≡ b → FitsOn E f.cursor f.done r → BracketMet E s i b f r
  unfolding BracketBy
  bracket-is e v = let q : eqb (get_or s i 0) b ≡ true = eq-eqb (get_or s i 0) b e in rw q v

  pub bracket-not : (get_or s i 0 ≡ b → ⊥) → r ≡ misfitting f i → BracketMet E s i b f r
  unfolding BracketBy
  bracket-not e v = let q : eqb (get_or s i 0) b ≡ false = ne_eqb (get_or s i 0) b e in rw q v

module _ (t : ℕ) (E : List Axis) (s : List ℕ) (i : ℕ) where
  pub nothing-due : (f : Fit) (out : List ℕ) (y : Ready E f (length out)) (w : f.stage ≡ Within) → f.cursor.wanted ≡ Wanted.Nothing
      → Met t E s i f out f out
  nothing-due f out y w e = over-met t E s i f out y w (rest-nothing E f.cursor y.stands e)

  module _ (h : i < length s) (f : Fit) (out : List ℕ) (w : WithinDue E f (length out)) where
    pub opening-due : f.cursor.wanted ≡ Wanted.Opening → (r : Fit) → BracketMet E s i 91 f r → Met t E s i f out r out
    unfolding came_by cells_due fits
    opening-due e r v =
        let n = rest-opening E f.cursor w.ready.stands e in
        bracket-done t E s i h f out w.ready w.stage opening 91 Wanted.Opening e (λ ds. refl) (λ ds. refl) (λ bs. refl) n.0
        n.1 r v

    pub closing-due : f.cursor.wanted ≡ Wanted.Closing → (r : Fit) → BracketMet E s i 93 f r → Met t E s i f out r out
    unfolding came_by cells_due fits
    closing-due e r v =
        let n = rest-closing E f.cursor w.ready.stands e in
        bracket-done t E s i h f out w.ready w.stage closing 93 Wanted.Closing e (λ ds. refl) (λ ds. refl) (λ bs. refl) n.0
        n.1 r v
