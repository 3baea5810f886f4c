-- Moved cells as bytes: cells of an operand side by side as they lie, or empty ones; what is asked to lay them down, and what is then
-- there.
use Prim.Native.Nat.{ℕ, suc, ◌+◌, ◌-◌, ◌*◌, ◌≤◌}
use Rattle.std.specs.Prelude.{◌≡◌, Bool, true, false, List, [], ◌∷◌, ◌++◌, eqb, length, get_or, take, drop, if◌then◌else◌}
use Rattle.std.proofs.Math.Path.{refl, sym, ap}
use Rattle.std.proofs.Common.{◌∙◌, add-one, eq-eqb, ne_eqb, length-take, drop-cons}
use native.Mathlib.Omega.{arith}
use Rattle.std.proofs.Math.ListN.{replicate}
use Rattle.std.proofs.lemmas.List.{replicate-append-replicate}
use Rattle.paper.specs.Limits.{cell_bytes, word_bytes}
use Rattle.paper.specs.Numbers.{part, le_of, le_bytes}
use Rattle.laws.specs.Put.{put, put-none, before-put, part-add, length_part, copied}
use Rattle.laws.specs.Numbers.{Bytes, le_bytes-le_of, bytes_take, bytes_drop}
use Rattle.positions.specs.Runs.{part-part}
use Rattle.quick.specs.declared.operands.Source.{Source}
use Rattle.quick.specs.Operands.{work_side, bytes_in}
use Rattle.origin.specs.declared.Origin.{Origin}
use Rattle.origin.specs.declared.Origin.TheVariants.{Nowhere, FromA, FromB}
use Rattle.rows.specs.declared.Run.{Run}
use Rattle.rows.specs.Bands.{onward}

-- a row of cells is copied by whole turns of so many bytes, then its last cells one by one
abbrev pub turn_bytes : ℕ
turn_bytes = 32

abbrev pub last_cells : ℕ
last_cells = 4

-- ---- bytes copied on in their own buffer

-- a part that ends among the first w bytes
pub part-take : (s : List ℕ) (w i n : ℕ) → i + n ≤ w → part i n (take w s) ≡ part i n s
part-take s w i n h = let z : 0 + i ≡ i = omega arith in part-part s 0 w i n h ∙ ap (λ (j : ℕ). part j n s) z

-- w bytes are copied, then m from byte n on, which is not behind their end: the first copy left these as they were
pub copied_on : (d : List ℕ) (from at n w m k : ℕ) {d₁ d₂ : List ℕ} → k ≡ n + m → n ≤ w → w ≤ k → from + k ≤ at → at + k ≤ length d
    → d₁ ≡ put d at (part from w d) → d₂ ≡ put d₁ (at + n) (part (from + n) m d₁) → d₂ ≡ put d at (part from k d)
copied_on d from at n w m k {d₁} e a b h l p q =
    let x = part from w d in
    let t : take at d₁ ≡ take at d = ap (take at) p ∙ before-put d at x (omega (arith, length_part d from w (omega arith))) in
    let r : part (from + n) m d₁ ≡ part (from + n) m d =
    sym (part-take d₁ at (from + n) m (omega arith)) ∙ ap (part (from + n) m) t ∙ part-take d at (from + n) m (omega arith) in
    copied d from d at n w m k e a b (omega arith) l p (q ∙ ap (put d₁ (at + n)) r)

-- ---- cells of an operand

-- n cells of an operand, from its cell i on
abbrev pub span_of : List ℕ → List ℕ → Source → ℕ → ℕ → List ℕ
span_of B D f i n = part (f.at + i * cell_bytes) (n * cell_bytes) (bytes_in f.which B D)

-- they are there
abbrev pub Spans : List ℕ → List ℕ → Source → ℕ → ℕ → Type 0
Spans B D f i n = f.at + (i + n) * cell_bytes ≤ length (bytes_in f.which B D)

-- so they are where the last of them is
pub spans-end : (B : List ℕ) {D D' : List ℕ} {f f' : Source} → f' ≡ f → D' ≡ D → (i n : ℕ) → 1 ≤ n
    → Spans B D f (i + (n - 1)) 1 → Spans B D' f' i n
spans-end B e d i n m h = rw (e, d) (omega (arith, h))

-- n cells that come from the cells from an origin on; a and b tell where A's and B's lie
unfoldable pub run_bytes : List ℕ → List ℕ → Source → Source → Origin → ℕ → List ℕ
run_bytes B D a b Nowhere n = replicate (n * cell_bytes) 0
run_bytes B D a b (FromA i) n = span_of B D a i n
run_bytes B D a b (FromB i) n = span_of B D b i n

module _ (B D : List ℕ) where
  pub bytes-in : (w : ℕ) → Bytes B → Bytes D → Bytes (bytes_in w B D)
  bytes-in w x y = by (eqb w work_side)
    where
      by : (t : Bool) → Bytes (if t then D else B)
      by true = y
      by false = x

  -- the first of them, and the others
  span_more : (f : Source) (i n : ℕ) → span_of B D f i (suc n) ≡ span_of B D f i 1 ++ span_of B D f (i + 1) n
  span_more f i n =
      let bs = bytes_in f.which B D in
      let p = f.at + i * cell_bytes in
      let e : suc n * cell_bytes ≡ cell_bytes + n * cell_bytes = omega arith in
      let q : p + cell_bytes ≡ f.at + (i + 1) * cell_bytes = omega arith in
      ap (λ (m : ℕ). part p m bs) e
      ∙ part-add bs p cell_bytes (n * cell_bytes)
      ∙ ap (λ (j : ℕ). part p cell_bytes bs ++ part j (n * cell_bytes) bs) q

  pub run_more : (a b : Source) (o : Origin) (n : ℕ)
      → run_bytes B D a b o (suc n) ≡ run_bytes B D a b o 1 ++ run_bytes B D a b (onward 1 1 o) n
  unfolding run_bytes
  run_more a b Nowhere n =
      let e : suc n * cell_bytes ≡ cell_bytes + n * cell_bytes = omega arith in
      let z : ℕ = 0 in
      ap (λ (m : ℕ). replicate m z) e ∙ sym (replicate-append-replicate cell_bytes (n * cell_bytes) z)
  run_more a b (FromA i) n = span_more a i n
  run_more a b (FromB i) n = span_more b i n

  pub run_none : (a b : Source) (o : Origin) → run_bytes B D a b o 0 ≡ []
  unfolding run_bytes
  run_none a b Nowhere = refl
  run_none a b (FromA i) = refl
  run_none a b (FromB i) = refl

-- ---- asked and promised

-- cells of an operand, which lie in the bundle or among the results before byte `base` of the work area
pub record Brings (B work : List ℕ) (at : ℕ) (f : Source) (i n : ℕ) : Type 0 where
  pub base : ℕ
  pub low : base ≤ at
  pub room : at + n * cell_bytes ≤ length work
  pub there : Spans B (take base work) f i n

abbrev pub Brought : List ℕ → List ℕ → ℕ → Source → ℕ → ℕ → List ℕ → Type 0
Brought B work at f i n after = (v : Brings B work at f i n) → after ≡ put work at (span_of B (take v.base work) f i n)

-- the cells of a run, x cells later in A and y in B
pub record Lays (B work : List ℕ) (at : ℕ) (a b : Source) (run : Run) (x y : ℕ) : Type 0 where
  pub base : ℕ
  pub low : base ≤ at
  pub room : at + run.length * cell_bytes ≤ length work
  pub first : (i : ℕ) → run.from ≡ FromA i → 1 ≤ run.length → Spans B (take base work) a (i + x) run.length
  pub second : (i : ℕ) → run.from ≡ FromB i → 1 ≤ run.length → Spans B (take base work) b (i + y) run.length

abbrev pub RunLaid : List ℕ → List ℕ → ℕ → Source → Source → Run → ℕ → ℕ → List ℕ → Type 0
RunLaid B work at a b run x y after =
    (v : Lays B work at a b run x y) → after ≡ put work at (run_bytes B (take v.base work) a b (onward x y run.from) run.length)

module _ {B work : List ℕ} {at : ℕ} {f : Source} {i n : ℕ} (v : Brings B work at f i n) where
  abbrev start : ℕ
  start = f.at + i * cell_bytes

  -- in the work area they end at or before the place where they go
  module _ (e : f.which ≡ work_side) where
    before : start + n * cell_bytes ≤ v.base
    before = let h = rw (eq-eqb f.which work_side e) at v.there in omega (arith, h, length-take v.base work)

    pub ends-before : start + n * cell_bytes ≤ at
    ends-before = omega (arith, before, v.low)

    pub brought-on : {after : List ℕ} → after ≡ put work at (part start (n * cell_bytes) work)
        → after ≡ put work at (span_of B (take v.base work) f i n)
    brought-on q =
        q ∙ ap (put work at) (rw (eq-eqb f.which work_side e) (sym (part-take work v.base start (n * cell_bytes) before)))

  -- in the bundle
  module _ (e : f.which ≡ work_side → ⊥) where
    pub lies-there : start + n * cell_bytes ≤ length B
    lies-there = let h = rw (ne_eqb f.which work_side e) at v.there in omega (arith, h)

    pub brought-over : {after : List ℕ} → after ≡ put work at (part start (n * cell_bytes) B)
        → after ≡ put work at (span_of B (take v.base work) f i n)
    brought-over q = rw (ne_eqb f.which work_side e) q

-- a run laid down: none of its cells, empty ones, A's cells, B's
module _ {B work : List ℕ} {at : ℕ} {a b : Source} {run : Run} {x y : ℕ} (v : Lays B work at a b run x y) where
  abbrev D : List ℕ
  D = take v.base work

  abbrev there : Origin → ℕ → List ℕ
  there o n = put work at (run_bytes B D a b o n)

  pub no_run : run.length ≡ 0 → work ≡ there (onward x y run.from) run.length
  no_run e = sym (ap (there (onward x y run.from)) e ∙ ap (put work at) (run_none B D a b (onward x y run.from)) ∙ put-none work at)

  module _ {after : List ℕ} where
    pub blank-run : run.from ≡ Nowhere → after ≡ put work at (replicate (run.length * cell_bytes) 0)
        → after ≡ there (onward x y run.from) run.length
    unfolding run_bytes
    blank-run e q = rw e q

    module _ (l : 1 ≤ run.length) (i : ℕ) where
      pub first_run : run.from ≡ FromA i → Brought B work at a (i + x) run.length after
          → after ≡ there (onward x y run.from) run.length
      unfolding run_bytes
      first_run e q = rw e (q (record { base = v.base; low = v.low; room = v.room; there = v.first i e l }))

      pub second_run : run.from ≡ FromB i → Brought B work at b (i + y) run.length after
          → after ≡ there (onward x y run.from) run.length
      unfolding run_bytes
      second_run e q = rw e (q (record { base = v.base; low = v.low; room = v.room; there = v.second i e l }))

-- ---- one cell

-- its mark and its word are its nine bytes
pub nine-bytes : (s : List ℕ) (i : ℕ) → Bytes s → i + cell_bytes ≤ length s
    → get_or s i 0 ∷ le_bytes word_bytes (le_of (part (i + 1) word_bytes s)) ≡ part i cell_bytes s
nine-bytes s i h l =
    let w = part (i + 1) word_bytes s in
    let n = length_part s (i + 1) word_bytes (omega arith) in
    let e : le_bytes word_bytes (le_of w) ≡ w =
    ap (λ (m : ℕ). le_bytes m (le_of w)) (sym n) ∙ le_bytes-le_of w (bytes_take word_bytes (drop (i + 1) s) (bytes_drop (i + 1) s h)) in
    ap (λ (q : List ℕ). get_or s i 0 ∷ q) e
    ∙ sym (ap (take cell_bytes) (drop-cons s i 0 (omega arith)) ∙ ap (λ (j : ℕ). get_or s i 0 ∷ take word_bytes (drop j s)) (sym (add-one i)))
