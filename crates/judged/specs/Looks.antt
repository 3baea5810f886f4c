-- Cells seen without a branch: marks and numbers of some cells joined bit by bit. What the joined figures rule out, each cell's rule out.
use Rattle.std.specs.Prelude.{◌≡◌, ℕ, zero, suc, ◌+◌, ◌-◌, ◌*◌, ◌/◌, ◌%◌, ◌^◌, ◌<◌, ◌≤◌, Bool, true, false, ◌&&◌, List, length, drop, ◌==◌, ◌≢◌, bit_and, bit_or, nat_le, nat_lt, slice_index, refl, is_some}
use Rattle.std.proofs.Common.{sym, ap, ◌∙◌, mod-eq_of_lt, arith, eqb-true, leb-true, leb-false, ltb-true, ltb-false}
use Rattle.std.proofs.lemmas.Nat.{and_comm, and_le_l, and_le_r, and_mask}
use Rattle.std.specs.Int.Bits.{or_add_and}
use Rattle.paper.specs.Limits.{cell_bytes, word_bytes, INT, FLOAT}
use Rattle.paper.specs.Numbers.{part, le_of}
use Rattle.paper.specs.Cells.{filled, cell_from, cell_of}
use Rattle.laws.specs.Judged.{first_bad, bad_more, bad-start}
use Rattle.laws.specs.Tests.{and_left, and_right}
use Rattle.cell.proofs.Cases.{filled-float, filled-float-bad, filled-truth, filled-truth-bad, from-filled, from_empty}
use Rattle.cell.proofs.Runs.{run-cons}
use Rattle.judged.specs.declared.Look.{Look}

-- each of them is a cell
pub record Sound (l : Look) : Type 0 where
  pub marked : l.marks ≤ 1
  pub none_left : l.left ≡ 0
  pub fits : l.fit ≡ true

-- cells from a byte on, as they are judged
abbrev pub is_cell : ℕ → List ℕ → ℕ → Type 0
is_cell t s at = is_some (cell_of t (part at cell_bytes s)) ≡ true

pub record FourAt (t : ℕ) (s : List ℕ) (at : ℕ) : Type 0 where
  pub one : is_cell t s at
  pub two : is_cell t s (at + cell_bytes)
  pub three : is_cell t s (at + 2 * cell_bytes)
  pub four : is_cell t s (at + 3 * cell_bytes)

pub record EightAt (t : ℕ) (s : List ℕ) (at : ℕ) : Type 0 where
  pub first : FourAt t s at
  pub second : FourAt t s (at + 4 * cell_bytes)

-- i of n cells are cells: the first that is none is among the others
pub record Ahead (t : ℕ) (s : List ℕ) (at n i : ℕ) : Type 0 where
  pub few : i ≤ n
  pub left : first_bad t (i + 1) (n - i) (drop (at + i * cell_bytes) s) ≡ first_bad t 1 n (drop at s)

-- ---- bits

or_left : (a b : ℕ) → a ≤ bit_or a b
or_left a b = omega (arith, or_add_and a b, and_le_r a b)

or_right : (a b : ℕ) → b ≤ bit_or a b
or_right a b = omega (arith, or_add_and a b, and_le_l a b)

-- all ones and a number are the number
pub all_ones : (ones n : ℕ) → ones ≡ 2 ^ 64 - 1 → n < 2 ^ 64 → bit_and ones n ≡ n
all_ones ones n e h = rw e (and_comm (2 ^ 64 - 1) n ∙ and_mask n 64 ∙ mod-eq_of_lt h)

-- ---- a number that fits its type

module _ (t n : ℕ) where
  pub float_fits : t ≡ FLOAT → nat_lt (n % 0x8000_0000_0000_0000) 0x7ff0_0000_0000_0000 ≡ is_some (filled t n)
  float_fits e = by (nat_lt (n % 0x8000_0000_0000_0000) 0x7ff0_0000_0000_0000) refl
    where
      by : (b : Bool) → nat_lt (n % 0x8000_0000_0000_0000) 0x7ff0_0000_0000_0000 ≡ b → b ≡ is_some (filled t n)
      by true q = sym (ap is_some (filled-float t n e (ltb-true _ _ q)))
      by false q = sym (ap is_some (filled-float-bad t n e (ltb-false _ _ q)))

  pub truth-fits : (t ≢ INT) → (t ≢ FLOAT) → nat_le n 1 ≡ is_some (filled t n)
  truth-fits a b = by (nat_le n 1) refl
    where
      by : (c : Bool) → nat_le n 1 ≡ c → c ≡ is_some (filled t n)
      by true q = sym (ap is_some (filled-truth t n a b (leb-true _ _ q)))
      by false q = sym (ap is_some (filled-truth-bad t n a b (leb-false _ _ q)))

-- ---- one cell

looked : (t m n : ℕ) → m ≤ 1 → (m ≡ 0 → n ≡ 0) → is_some (filled t n) ≡ true → is_some (cell_from t m n) ≡ true
looked t zero n h z f = ap is_some (from_empty t n zero refl (z refl))
looked t (suc zero) n h z f = ap is_some (from-filled t n (suc zero) refl) ∙ f
looked t (suc (suc m)) n h z f = absurd (omega arith)

pub look_is : (t : ℕ) (s : List ℕ) (at m n left : ℕ) (fit : Bool) → at + cell_bytes ≤ length s → m ≡ slice_index s at
    → n ≡ le_of (part (at + 1) word_bytes s) → (m ≡ 0 → left ≡ n) → fit ≡ is_some (filled t n)
    → Sound (record { marks = m; left = left; fit = fit }) → is_cell t s at
look_is t s at m n left fit h e f u q v =
    ap (λ (bs : List ℕ). is_some (cell_of t bs)) (run-cons s at word_bytes (omega arith))
    ∙ rw (sym e, sym f) (looked t m n v.marked (λ z. sym (u z) ∙ v.none_left) (sym q ∙ v.fits))

-- ---- some cells and others

pub both-sound : (a b : Look)
    → Sound (record { marks = bit_or a.marks b.marks; left = bit_or a.left b.left; fit = a.fit && b.fit }) → Sound a × Sound b
both-sound a b v = (
  record {
    marked = omega (arith, v.marked, or_left a.marks b.marks);
    none_left = omega (arith, v.none_left, or_left a.left b.left);
    fits = and_left a.fit b.fit v.fits;
  },
  record {
    marked = omega (arith, v.marked, or_right a.marks b.marks);
    none_left = omega (arith, v.none_left, or_right a.left b.left);
    fits = and_right a.fit b.fit v.fits;
  },
)

pub sound-told : (l : Look) → (bit_or (l.marks / 2) l.left == 0 && l.fit) ≡ true → Sound l
sound-told l e =
    let none : bit_or (l.marks / 2) l.left ≡ 0 = eqb-true _ _ (and_left (bit_or (l.marks / 2) l.left == 0) l.fit e) in
    record {
      marked = omega (arith, none, or_left (l.marks / 2) l.left);
      none_left = omega (arith, none, or_right (l.marks / 2) l.left);
      fits = and_right (bit_or (l.marks / 2) l.left == 0) l.fit e;
    }

-- ---- four, eight, and so on

module _ (t : ℕ) (s : List ℕ) (at n : ℕ) where
  pub none_ahead : Ahead t s at n 0
  none_ahead = record { few = omega arith; left = bad-start s at t n }

  four-ahead : (i : ℕ) → i + 4 ≤ n → Ahead t s at n i → FourAt t s (at + i * cell_bytes) → Ahead t s at n (i + 4)
  four-ahead i h a f =
      let e : at + (i + 1) * cell_bytes ≡ at + i * cell_bytes + cell_bytes = omega arith in
      let g : at + (i + 1 + 1) * cell_bytes ≡ at + i * cell_bytes + 2 * cell_bytes = omega arith in
      let k : at + (i + 1 + 1 + 1) * cell_bytes ≡ at + i * cell_bytes + 3 * cell_bytes = omega arith in
      let z : i + 1 + 1 + 1 + 1 ≡ i + 4 = omega arith in
      record {
        few = h;
        left = rw z at (
            bad_more s at t n (i + 1 + 1 + 1) (omega arith) (rw k f.four)
            ∙ bad_more s at t n (i + 1 + 1) (omega arith) (rw g f.three)
            ∙ bad_more s at t n (i + 1) (omega arith) (rw e f.two)
            ∙ bad_more s at t n i (omega arith) f.one
            ∙ a.left);
      }

  pub eight-ahead : (k : ℕ) → k * 8 + 8 ≤ n → Ahead t s at n (k * 8) → EightAt t s (at + k * 8 * cell_bytes) → Ahead t s at n ((k + 1) * 8)
  eight-ahead k h a e =
      let p : at + (k * 8 + 4) * cell_bytes ≡ at + k * 8 * cell_bytes + 4 * cell_bytes = omega arith in
      let q : k * 8 + 4 + 4 ≡ (k + 1) * 8 = omega arith in
      rw q at (four-ahead (k * 8 + 4) (omega arith) (four-ahead (k * 8) (omega arith) a e.first) (rw p e.second))
