-- The one law of moves by rows. Where cell k of a run comes from cell j, cell k + i comes from cell j + i, and in a run of blanks all come
-- from nowhere; where a line comes again, its cells come from as many cells later in each array as the band tells.
use Rattle.std.specs.Prelude.{ℕ, ◌+◌, ◌-◌, ◌*◌, ◌≤◌, ◌<◌, Bool, true, false, ◌≡◌, refl, leb}
use Rattle.std.proofs.Common.{sym, ap, subst, ◌∙◌, one-mul, mul-le-mul_right, add-mul, arith, leb-true, leb-false}
use Rattle.origin.specs.declared.Origin.{Origin}
use Rattle.origin.specs.declared.Origin.TheVariants.{Nowhere, FromA, FromB}
use Rattle.rows.specs.declared.Run.{Run}
use Rattle.rows.specs.declared.Band.{Band}
use Rattle.rows.specs.declared.Pattern.{Pattern}

abbrev pub pattern : ℕ → ℕ → ℕ → ℕ → Pattern
pattern line lines a b = record { line = line; lines = lines; a = a; b = b }

-- no run
abbrev pub no_run : Run
no_run = record { from = Nowhere; length = 0 }

-- so many lines of three runs
abbrev pub band_of : Pattern → ℕ → Run → Run → Run → Band
band_of p lines x y z = record { lines = lines; a = p.a; b = p.b; first = x; second = y; third = z }

-- so many cells later in A, or in B
abbrev pub onward : ℕ → ℕ → Origin → Origin
onward a b Nowhere = Nowhere
onward a b (FromA j) = FromA (j + a)
onward a b (FromB j) = FromB (j + b)

-- n cells, and from cell k on as many as the run has come from cells side by side
pub record Along (O : ℕ → Origin) (n k run : ℕ) : Type 0 where
  pub each : (i : ℕ) → i < run → k + i < n → O (k + i) ≡ onward i i (O k)

-- lines of so many cells from cell k on: each comes from `a` cells later in A than the line before, `b` in B
pub record Again (O : ℕ → Origin) (n k : ℕ) (p : Pattern) : Type 0 where
  pub some : 1 ≤ p.lines
  pub long : 1 ≤ p.line
  pub room : k + p.lines * p.line ≤ n
  pub each : (r y : ℕ) → r < p.lines → y < p.line → k + (r * p.line + y) < n
      → O (k + (r * p.line + y)) ≡ onward (r * p.a) (r * p.b) (O (k + y))

-- the cells of a line
abbrev pub line_of : Band → ℕ
line_of w = w.first.length + (w.second.length + w.third.length)

-- a run, so many cells into each line of the band that begins with cell k; O tells where each cell comes from
abbrev pub Runs : (ℕ → Origin) → ℕ → Band → ℕ → Run → Type 0
Runs O k w before run =
    (r i : ℕ) → r < w.lines → i < run.length → O (k + (r * line_of w + (before + i))) ≡ onward (r * w.a + i) (r * w.b + i) run.from

-- a band in a result of n cells
pub record Banded (O : ℕ → Origin) (n k : ℕ) (w : Band) : Type 0 where
  pub some : 1 ≤ w.lines
  pub long : 1 ≤ w.first.length
  pub room : k + w.lines * line_of w ≤ n
  pub one : Runs O k w 0 w.first
  pub two : Runs O k w w.first.length w.second
  pub three : Runs O k w (w.first.length + w.second.length) w.third

-- ---- three runs and a pattern of lines

-- a run of at most so many cells
pub record Begins (O : ℕ → Origin) (k most : ℕ) (run : Run) : Type 0 where
  pub fits : run.length ≤ most
  pub some : 1 ≤ most → 1 ≤ run.length
  pub each : (i : ℕ) → i < run.length → O (k + i) ≡ onward i i run.from

onward-on : (a b i : ℕ) (o : Origin) → onward a b (onward i i o) ≡ onward (a + i) (b + i) o
onward-on a b i Nowhere = refl
onward-on a b i (FromA j) = let e : j + i + a ≡ j + (a + i) = omega arith in ap FromA e
onward-on a b i (FromB j) = let e : j + i + b ≡ j + (b + i) = omega arith in ap FromB e

-- a cell of line r lies in the lines
line-in : (r lines line y : ℕ) → r < lines → y < line → r * line + y < lines * line
line-in r lines line y h l =
    let p : (r + 1) * line ≤ lines * line = mul-le-mul_right line (omega arith) in
    omega (arith, add-mul r 1 line, one-mul line)

module _ {O : ℕ → Origin} {n k : ℕ} {p : Pattern} (g : Again O n k p) where
  -- the first line has room
  pub line-room : k + p.line ≤ n
  line-room = let l : 1 * p.line ≤ p.lines * p.line = mul-le-mul_right p.line g.some in omega (arith, g.room, one-mul p.line)

  -- a run of a line is one of each line that comes again
  repeated : (before : ℕ) (run : Run) → Begins O (k + before) (p.line - before) run → before ≤ p.line
      → (r i : ℕ) → r < p.lines → i < run.length
      → O (k + (r * p.line + (before + i))) ≡ onward (r * p.a + i) (r * p.b + i) run.from
  repeated before run h l r i m x =
      let y : before + i < p.line = omega (arith, h.fits) in
      let e : k + (before + i) ≡ k + before + i = omega arith in
      let w : k + (r * p.line + (before + i)) < n = omega (arith, g.room, line-in r p.lines p.line (before + i) m y) in
      g.each r (before + i) m y w ∙ ap (onward (r * p.a) (r * p.b)) (ap O e ∙ h.each i x)
      ∙ onward-on (r * p.a) (r * p.b) i run.from

-- a band of three runs, whose lines are the pattern's where the runs fill a line, else one
pub record Filling (p : Pattern) (one two three : Run) (lines : ℕ) : Type 0 where
  pub whole : p.line - one.length - two.length ≤ three.length → lines ≡ p.lines
  pub part : three.length < p.line - one.length - two.length → lines ≡ 1

module _ {O : ℕ → Origin} {n k : ℕ} {p : Pattern} (g : Again O n k p) {one two three : Run} {lines : ℕ} (f : Filling p one two three lines)
    (x : Begins O k p.line one) (y : Begins O (k + one.length) (p.line - one.length) two)
    (z : Begins O (k + one.length + two.length) (p.line - one.length - two.length) three) where
  abbrev band : Band
  band = band_of p lines one two three

  -- either way
  filled : {P : Type 0} → (line_of band ≡ p.line → lines ≡ p.lines → P) → (line_of band ≤ p.line → lines ≡ 1 → P) → P
  filled {P} u v = by (leb (p.line - one.length - two.length) three.length) refl
    where
      by : (b : Bool) → leb (p.line - one.length - two.length) three.length ≡ b → P
      by true e = let w = leb-true _ _ e in u (omega (arith, x.fits, y.fits, z.fits)) (f.whole w)
      by false e = v (omega (arith, x.fits, y.fits, z.fits)) (f.part (leb-false _ _ e))

  -- each run, as of the pattern
  runs : (before : ℕ) (run : Run) → Begins O (k + before) (p.line - before) run → before ≤ p.line → Runs O k band before run
  runs before run h m r i q s =
      filled
      (λ c w. subst (λ (t : ℕ). O (k + (r * t + (before + i))) ≡ onward (r * p.a + i) (r * p.b + i) run.from) (sym c)
      (repeated g before run h m r i (omega (arith, w)) s))
      (λ c w.
      let d : r ≡ 0 = omega (arith, w) in
      let e : k + (0 * line_of band + (before + i)) ≡ k + (0 * p.line + (before + i)) = omega arith in
      rw d (ap O e ∙ repeated g before run h m 0 i g.some s))

  pub banded : Banded O n k band
  banded =
      let a = x.fits in
      let b = y.fits in
      let c = z.fits in
      let e : k + 0 ≡ k = omega arith in
      let d : p.line - 0 ≡ p.line = omega arith in
      let u : k + (one.length + two.length) ≡ k + one.length + two.length = omega arith in
      let v : p.line - (one.length + two.length) ≡ p.line - one.length - two.length = omega arith in
      record {
        some = filled (λ c w. omega (arith, w, g.some)) (λ c w. omega (arith, w));
        long = x.some g.long;
        room = filled (λ c w. rw (c, w) g.room) (λ c w. rw w (omega (arith, line-room g, one-mul (line_of band))));
        one = runs 0 one (rw (e, d) x) (omega arith);
        two = runs one.length two y (omega arith);
        three = runs (one.length + two.length) three (rw (u, v) z) (omega arith);
      }

-- ---- runs that fill a line before the third

pub no_cells : {O : ℕ → Origin} {k most : ℕ} → most ≡ 0 → Begins O k most no_run
no_cells e = record { fits = omega arith; some = λ h. absurd (omega arith); each = λ i h. absurd (omega arith) }

module _ {O : ℕ → Origin} {n k : ℕ} {p : Pattern} (g : Again O n k p) {one : Run} (x : Begins O k p.line one) where
  pub banded-one : p.line - one.length ≡ 0 → Banded O n k (band_of p p.lines one no_run no_run)
  banded-one e =
      banded g (record { whole = λ h. refl; part = λ h. absurd (omega arith) }) x (no_cells e) (no_cells (omega arith))

  pub banded-two : {two : Run} → Begins O (k + one.length) (p.line - one.length) two → p.line - one.length - two.length ≡ 0
      → Banded O n k (band_of p p.lines one two no_run)
  banded-two y e = banded g (record { whole = λ h. refl; part = λ h. absurd (omega arith) }) x y (no_cells e)
