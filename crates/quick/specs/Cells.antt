-- The cells that the quick loop works out: what it asks of its operands, and what is there after k cells. A turn's laws.
use Prim.Native.Nat.{ℕ, zero, suc, ◌+◌, ◌*◌, ◌/◌, ◌≤◌, ◌<◌}
use Rattle.std.specs.Prelude.{◌≡◌, Ok}
use Rattle.paper.specs.Operators.{Answer}
use Rattle.std.proofs.Math.Path.{refl, sym, ap, subst}
use Rattle.std.proofs.Common.{◌∙◌, add-one, arith, length-append, length-drop, length-take-le, take-take, take_at}
use mathlib.Core.List.{List, ◌++◌, append_assoc}
use Rattle.std.proofs.Math.ListN.{length, take, drop}
use Rattle.paper.specs.declared.Cell.{Cell}
use Rattle.paper.specs.Limits.{FLOAT, cell_bytes}
use Rattle.paper.specs.Numbers.{le_bytes}
use Rattle.paper.specs.Cells.{encode}
use Rattle.coded.specs.Codes.{NoNan, kind_of, Judged, answered}
use Rattle.quick.specs.declared.operands.Pairing.{Pairing}
use Rattle.quick.specs.declared.operands.Source.{Source}
use Rattle.quick.specs.Operands.{mark_from, word_from, mark_at, word_at, Lies, Reaches}

-- what the code gives at cell k of the two operands
abbrev pub answer_at : List ℕ → List ℕ → Pairing → ℕ → Answer
answer_at B D q k = answered q.code (mark_at B D q.first k) (word_at B D q.scalar q.first k) (mark_at B D q.second k) (word_at B D q.scalar q.second k)

-- n cells of both operands are there, no word of a FLOAT is a NaN's, and there is room for n results from `base` on
pub record Workable (B W : List ℕ) (base : ℕ) (q : Pairing) (n : ℕ) : Type 0 where
  pub room : base + n * cell_bytes ≤ length W
  pub first : (k : ℕ) → k < n → Reaches B (take base W) q.first k
  pub second : (k : ℕ) → k < n → Reaches B (take base W) q.second k
  pub words : (k : ℕ) → k < n → kind_of q.code ≡ FLOAT
      → NoNan (word_at B (take base W) q.scalar q.first k) × NoNan (word_at B (take base W) q.scalar q.second k)

length-encode : (c : Cell) → length (encode c) ≡ cell_bytes
unfolding encode le_bytes
length-encode c = refl

-- cell k is stored: it doesn't refuse, its nine bytes stand at their place, and all others stay
pub record Stored (B : List ℕ) (base : ℕ) (q : Pairing) (k : ℕ) (work after : List ℕ) : Type 0 where
  pub cell : Cell
  pub is : answer_at B (take base work) q k ≡ Ok cell
  pub bytes : after ≡ take (base + k * cell_bytes) work ++ encode cell ++ drop (base + k * cell_bytes + cell_bytes) work

-- a work area between: P holds of it, and the last cell leads from it on
pub record Between (P Q : List ℕ → Type 0) : Type 0 where
  pub work : List ℕ
  pub sofar : P work
  pub last : Q work

-- the first k cells are stored, one after the other, beginning with the work area W
unfoldable pub WorkedOut : List ℕ → List ℕ → ℕ → Pairing → ℕ → List ℕ → Type 0
WorkedOut B W base q zero after = after ≡ W
WorkedOut B W base q (suc k) after = Between (WorkedOut B W base q k) (λ work. Stored B base q k work after)

-- k of n cells are worked out; the results before them and the work area's length are as they were
pub record Ahead (B W : List ℕ) (base : ℕ) (q : Pairing) (n k : ℕ) (work : List ℕ) : Type 0 where
  pub most : k ≤ n
  pub long : length work ≡ length W
  pub earlier : take base work ≡ take base W
  pub worked : WorkedOut B W base q k work

-- off bytes of results are there, those of the first k cells
pub record Upto (B W : List ℕ) (base : ℕ) (q : Pairing) (n off : ℕ) (work : List ℕ) : Type 0 where
  pub k : ℕ
  pub at : off ≡ k * cell_bytes
  pub ahead : Ahead B W base q n k work

-- ---- the loop begins, and ends

module _ {B W : List ℕ} {base : ℕ} {q : Pairing} {n : ℕ} where
  pub none_yet : Ahead B W base q n 0 W
  unfolding WorkedOut
  none_yet = record { most = omega arith; long = refl; earlier = refl; worked = refl }

  pub begins : Upto B W base q n 0 W
  begins = record { k = 0; at = refl; ahead = none_yet }

  module _ {off : ℕ} {work : List ℕ} (u : Upto B W base q n off work) where
    pub counted : Ahead B W base q n (off / cell_bytes) work
    counted =
        let e : off / cell_bytes ≡ u.k = omega (arith, u.at) in
        subst (λ (m : ℕ). Ahead B W base q n m work) (sym e) u.ahead

    pub all-counted : n * cell_bytes ≤ off → Ahead B W base q n n work
    all-counted h =
        let e : n ≡ u.k = omega (arith, u.at, u.ahead.most) in
        subst (λ (m : ℕ). Ahead B W base q n m work) (sym e) u.ahead

-- ---- a turn

pub record Turn (B W : List ℕ) (base : ℕ) (q : Pairing) (n off : ℕ) (work : List ℕ) : Type 0 where
  pub asked : Workable B W base q n
  pub upto : Upto B W base q n off work
  pub more : off < n * cell_bytes

module _ {B W : List ℕ} {base : ℕ} {q : Pairing} {n off : ℕ} {work : List ℕ} (t : Turn B W base q n off work) where
  abbrev k : ℕ
  k = t.upto.k

  less : k < n
  less = omega (arith, t.upto.at, t.more)

  pub place-there : base + off + cell_bytes ≤ length work
  place-there = omega (arith, t.asked.room, t.upto.ahead.long, t.upto.at, less)

  -- an operand of which cell k was there is there still
  there-still : (f : Source) → Reaches B (take base W) f k → Lies B (take base work) f off
  there-still f h = subst (Lies B (take base work) f) (sym t.upto.at) (rw t.upto.ahead.earlier h.room)

  pub first-there : Lies B (take base work) q.first off
  first-there = there-still q.first (t.asked.first k less)

  pub second-there : Lies B (take base work) q.second off
  second-there = there-still q.second (t.asked.second k less)

  -- of marks and words that were read, with q's own code
  module _ {i x j y code : ℕ} (a : (i ≡ mark_from B (take base work) q.first off) × (x ≡ word_from B (take base work) q.scalar q.first off))
      (b : (j ≡ mark_from B (take base work) q.second off) × (y ≡ word_from B (take base work) q.scalar q.second off)) (e : code ≡ q.code) where
    -- a word that is no NaN's, read
    read-so : (f : Source) (w : ℕ) → w ≡ word_from B (take base work) q.scalar f off → NoNan (word_at B (take base W) q.scalar f k)
        → NoNan w
    read-so f w h =
        subst NoNan
        (sym (h ∙ ap (word_from B (take base work) q.scalar f) t.upto.at ∙ ap (λ (D : List ℕ). word_at B D q.scalar f k) t.upto.ahead.earlier))

    pub no_nan : Judged code x y
    no_nan z =
        let w = t.asked.words k less (ap kind_of (sym e) ∙ z) in
        (read-so q.first x a.1 w.0, read-so q.second y b.1 w.1)

    pub one_more : {r : Answer} → r ≡ answered code i x j y → {c : Cell} → r ≡ Ok c → {after : List ℕ}
        → after ≡ take (base + off) work ++ encode c ++ drop (base + off + cell_bytes) work → Upto B W base q n (off + cell_bytes) after
    unfolding WorkedOut
    one_more {r} s {c} v {after} d = record {
      k = k + 1;
      at = omega (arith, t.upto.at);
      ahead = record {
        most = omega (arith, less);
        long = ap length d ∙ kept ∙ t.upto.ahead.long;
        earlier = ap (take base) d ∙ before ∙ t.upto.ahead.earlier;
        worked = subst (λ (m : ℕ). WorkedOut B W base q m after) (sym (add-one k))
            (record { work = work; sofar = t.upto.ahead.worked; last = record { cell = c; is = sym told ∙ v; bytes = d ∙ ap stored t.upto.at } });
      };
    }
      where
        stored : ℕ → List ℕ
        stored o = take (base + o) work ++ encode c ++ drop (base + o + cell_bytes) work

        answer : ℕ → Answer
        answer o =
            answered q.code (mark_from B (take base work) q.first o) (word_from B (take base work) q.scalar q.first o)
            (mark_from B (take base work) q.second o) (word_from B (take base work) q.scalar q.second o)

        told : r ≡ answer_at B (take base work) q k
        told = s ∙ (λ z. answered (e z) (a.0 z) (a.1 z) (b.0 z) (b.1 z)) ∙ ap answer t.upto.at

        there : length (take (base + off) work) ≡ base + off
        there = length-take-le (base + off) work (omega (arith, place-there))

        kept : length (stored off) ≡ length work
        kept =
            length-append (take (base + off) work ++ encode c) (drop (base + off + cell_bytes) work)
            ∙ omega (arith, place-there, there, length-append (take (base + off) work) (encode c), length-encode c, length-drop (base + off + cell_bytes) work)

        before : take base (stored off) ≡ take base work
        before =
            sym (take-take base (base + off) (stored off) (omega arith))
            ∙ ap (λ (l : List ℕ). take base (take (base + off) l)) (append_assoc (take (base + off) work) (encode c) (drop (base + off + cell_bytes) work))
            ∙ ap (take base) (take_at (take (base + off) work) (encode c ++ drop (base + off + cell_bytes) work) (base + off) there)
            ∙ take-take base (base + off) work (omega arith)
