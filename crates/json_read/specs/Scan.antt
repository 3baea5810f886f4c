-- The loop over a text: after each token, what reading comes to is what is left of it comes to, with the cells that are stored.
use Rattle.std.specs.Prelude.{ℕ, zero, suc, ◌+◌, ◌*◌, ◌≤◌, ◌<◌, ◌≡◌, Bool, true, false, ◌⊎◌, eqb, length, take, drop, get_or, Option, None, Some, Result, Ok, Err}
use Rattle.std.proofs.lemmas.Option.{none-some, same_Some}
use Rattle.std.proofs.Math.Path.{refl, ap, subst}
use Rattle.std.proofs.Common.{sym, ◌∙◌, inl, inr, arith, eqb-true, length-append, drop_of_length-le}
use mathlib.Core.List.{List, [], ◌∷◌, ◌++◌, append-nil, append_assoc}
use Rattle.paper.specs.declared.Axis.{Axis}
use Rattle.paper.specs.declared.Cell.{Cell}
use Rattle.paper.specs.declared.JsonRefusal.{JsonRefusal}
use Rattle.paper.specs.declared.JsonRefusal.TheVariants as Json
use Rattle.paper.specs.Limits.{most_cells, cell_bytes}
use Rattle.paper.specs.Refusals.{Res, ◌>>=◌, refusal, not_json15, misfit16}
use Rattle.paper.specs.Numbers.{concat}
use Rattle.paper.specs.Axes.{cells}
use Rattle.paper.specs.Cells.{encode, cells_bytes}
use Rattle.paper.specs.Grammar.{Part, among, blank, start}
use Rattle.paper.specs.Machine.{complete, fault_from, settled, step}
use Rattle.paper.specs.JsonRead.{token_of, tokens_from, data_of, Due, opening, closing, cell, due, fitted}
use Rattle.laws.specs.Limits.{Sound}
use Rattle.json_text.specs.Kinds.{no_true}
use Rattle.json_text.specs.declared.Fault.{Fault}
use Rattle.json_text.specs.Left.{Ended, Rest, left, reached, left_end, left-stops, left-token}
use Rattle.json_text.specs.Numbers.{PassedOver}
use Rattle.json_levels.specs.declared.Levels.{Levels}
use Rattle.json_levels.specs.declared.Next.{Next}
use Rattle.json_levels.specs.declared.Turn.{Turn}
use Rattle.json_levels.specs.declared.Begun.{Begun}
use Rattle.json_levels.specs.Parts.{parts_at, parts_of, more, Standing, StandingAt, head_of, comes, Turned}
use Rattle.json_levels.specs.Tokens.{tokens-at}
use Rattle.json_due.specs.declared.Cursor.{Cursor}
use Rattle.json_due.specs.declared.Wanted.{Wanted}
use Rattle.json_due.specs.Due.{rest_of, cells_due, first-reached, rest-nothing, rest-opening, rest-closing}
use Rattle.json_due.specs.Due.{rest-value}
use Rattle.json_read.specs.declared.fit.Stage.{Stage}
use Rattle.json_read.specs.declared.fit.Stage.TheVariants.{Before, Within, Wrong, Stopped}
use Rattle.json_read.specs.declared.fit.Fit.{Fit}
use Rattle.json_read.specs.declared.scan.TextFault.{TextFault}
use Rattle.json_read.specs.declared.scan.TextFault.TheVariants.{NotJson, Misfit}
use Rattle.json_read.specs.Outcome.{before, within, outcome, with, Alive, all_left, with_none, with-more}
use Rattle.json_read.specs.Outcome.{stopped}
use Rattle.json_read.specs.Outcome.{done, done-before, done-over, done-short, done-wrong}
use Rattle.json_read.specs.Parts.{BegunEnds, parts_stay}
use Rattle.json_read.specs.Fit.{phase_by, phase_of, Counts, Ready, waiting, TokenMet}

-- the byte that ended it all
abbrev pub stop_of : Stage → Option ℕ
stop_of Before = None
stop_of Within = None
stop_of (Wrong p) = None
stop_of (Stopped p) = Some p

-- what the caller is told
abbrev pub refusal_of : TextFault → JsonRefusal
refusal_of (NotJson i) = Json.NotJson i
refusal_of (Misfit i) = Json.Misfit i

abbrev pub ended_by : Next → ℕ → Bool
ended_by Next.Object d = false
ended_by Next.First d = false
ended_by Next.More d = eqb d 0
ended_by Next.Value d = false
ended_by Next.Member d = false

abbrev pub ended? : Levels → Bool
ended? v = ended_by v.next v.depth

abbrev pub due_found : Wanted → ℕ → Result ℕ TextFault
due_found Wanted.Nothing n = Ok n
due_found Wanted.Opening n = Err (Misfit 0)
due_found Wanted.Closing n = Err (Misfit 0)
due_found Wanted.Value n = Err (Misfit 0)

abbrev pub found_by : Stage → ℕ → Fit → Result ℕ TextFault
found_by Before n f = Err (NotJson n)
found_by Within n f = due_found f.cursor.wanted f.done
found_by (Wrong p) n f = Err (Misfit p)
found_by (Stopped p) n f = Err (NotJson p)

abbrev pub end_found : ℕ → Fit → Result ℕ TextFault
end_found n f = found_by f.stage n f

-- ---- what a text comes to

abbrev pub whole_of : ℕ → List Axis → List ℕ → Res (List Cell)
whole_of t E s = data_of s >>= fitted t (due E)

pub record AllRoom (E : List Axis) (room : ℕ) : Type 0 where
  pub sound : Sound E
  pub few : cells E ≤ most_cells
  pub some-axis : 1 ≤ length E
  pub all_room : room ≡ most_cells * cell_bytes

-- cells that are stored
pub record CellsFound (t : ℕ) (E : List Axis) (s out : List ℕ) (n : ℕ) : Type 0 where
  pub found : List Cell
  pub whole : whole_of t E s ≡ Ok found
  pub number : n ≡ length found
  pub full : n ≡ cells E
  pub held : take (n * cell_bytes) out ≡ cells_bytes found

unfoldable pub ScanFound : ℕ → List Axis → List ℕ → List ℕ → Result ℕ TextFault → Type 0
ScanFound t E s out (Ok n) = CellsFound t E s out n
ScanFound t E s out (Err (NotJson i)) = whole_of t E s ≡ Err (refusal not_json15 0 i)
ScanFound t E s out (Err (Misfit i)) = whole_of t E s ≡ Err (refusal misfit16 0 i)

-- ---- on the way

pub record Along (t : ℕ) (E : List Axis) (s : List ℕ) (v : Levels) (f : Fit) (i : ℕ) (out : List ℕ) : Type 0 where
  pub within_text : i ≤ length s
  pub standing : Standing v
  pub ready : Ready E f (length out)
  pub alive : Alive (phase_of E f)
  pub other : i < length s → among blank (get_or s i 0) ≡ false
  pub had : List Cell
  pub comes-to : whole_of t E s ≡ with had (outcome t (length s + 1) (phase_of E f) (left s (parts_of v) i))
  pub number : f.done ≡ length had
  pub held : take (f.done * cell_bytes) out ≡ cells_bytes had

abbrev pub at_start : Levels
at_start = record { next = Next.Object; depth = 0; bits = 0 }

pub along-start : (t : ℕ) (E : List Axis) (s : List ℕ) (i : ℕ) (out : List ℕ) → AllRoom E (length out) → PassedOver blank s 0 i
    → Along t E s at_start waiting i out
unfolding phase_by Counts StandingAt concat
along-start t E s i out a p =
    record {
      within_text = p.within;
      standing = tt;
      ready =
          record {
            sound = a.sound;
            few = a.few;
            some-axis = a.some-axis;
            stands = (first-reached E a.some-axis).stands;
            counts = refl;
            most = omega arith;
            all_room = a.all_room;
          };
      alive = tt;
      other = p.other;
      had = [];
      comes-to =
          all_left t (due E) s
          ∙ ap (λ (r : Rest). outcome t (length s + 1) (before (due E)) r) (p.over start (parts_stay Next.Object 0 0))
          ∙ with_none (outcome t (length s + 1) (before (due E)) (left s start i));
      number = refl;
      held = refl;
    }

-- ---- a turn of the loop

comes-some : (g : Begun) (gs : List Part) → (g ≡ Begun.Nothing → ⊥) → comes g gs ≡ Some (head_of g ++ gs)
unfolding comes head_of
comes-some Begun.Nothing gs n = absurd (n refl)
comes-some Begun.Comma gs n = refl
comes-some Begun.Bracket gs n = refl
comes-some Begun.Name gs n = refl
comes-some Begun.Text gs n = refl
comes-some Begun.Minus gs n = refl
comes-some Begun.Zero gs n = refl
comes-some Begun.Digit gs n = refl
comes-some Begun.True gs n = refl
comes-some Begun.False gs n = refl
comes-some Begun.Null gs n = refl

-- 0 for nothing
unfoldable something : Begun → ℕ
something Begun.Nothing = 0
something Begun.Comma = 1
something Begun.Bracket = 1
something Begun.Name = 1
something Begun.Text = 1
something Begun.Minus = 1
something Begun.Zero = 1
something Begun.Digit = 1
something Begun.True = 1
something Begun.False = 1
something Begun.Null = 1

some-thing : (g : Begun) → something g ≡ 1 → g ≡ Begun.Nothing → ⊥
unfolding something
some-thing g e q = let z : something g ≡ 0 = ap something q in omega arith

nothing-or : (g : Begun) → (g ≡ Begun.Nothing) ⊎ (g ≡ Begun.Nothing → ⊥)
unfolding something
nothing-or Begun.Nothing = inl refl
nothing-or Begun.Comma = inr (some-thing Begun.Comma refl)
nothing-or Begun.Bracket = inr (some-thing Begun.Bracket refl)
nothing-or Begun.Name = inr (some-thing Begun.Name refl)
nothing-or Begun.Text = inr (some-thing Begun.Text refl)
nothing-or Begun.Minus = inr (some-thing Begun.Minus refl)
nothing-or Begun.Zero = inr (some-thing Begun.Zero refl)
nothing-or Begun.Digit = inr (some-thing Begun.Digit refl)
nothing-or Begun.True = inr (some-thing Begun.True refl)
nothing-or Begun.False = inr (some-thing Begun.False refl)
nothing-or Begun.Null = inr (some-thing Begun.Null refl)

nothing-none : (g : Begun) (gs : List Part) → g ≡ Begun.Nothing → comes g gs ≡ None
unfolding comes
nothing-none g gs e = ap (λ (x : Begun). comes x gs) e

twice-refused : (E : List Axis) (g : Fit) (p : ℕ) → g.stage ≡ Stopped p → (t n : ℕ) (cs : List Cell) (R : Rest)
    → with cs (outcome t n (phase_of E g) R) ≡ Err (refusal not_json15 0 p)
unfolding phase_by outcome
twice-refused E g p e t n cs R = ap (λ (x : Stage). with cs (outcome t n (phase_by E x g.cursor) R)) e

cells-append : (cs ds : List Cell) → cells_bytes (cs ++ ds) ≡ cells_bytes cs ++ cells_bytes ds
unfolding concat
cells-append [] ds = refl
cells-append (c ∷ cs) ds = ap (λ (l : List ℕ). encode c ++ l) (cells-append cs ds)
    ∙ sym (append_assoc (encode c) (cells_bytes cs) (cells_bytes ds))

-- no second `data` yet
stage-alive : (E : List Axis) (x : Stage) (c : Cursor) → stop_of x ≡ None → Alive (phase_by E x c)
unfolding phase_by
stage-alive E Before c e = tt
stage-alive E Within c e = tt
stage-alive E (Wrong p) c e = tt
stage-alive E (Stopped p) c e = absurd (none-some p (sym e))

stage-stopped : (x : Stage) (p : ℕ) → stop_of x ≡ Some p → x ≡ Stopped p
stage-stopped Before p e = absurd (none-some p e)
stage-stopped Within p e = absurd (none-some p e)
stage-stopped (Wrong q) p e = absurd (none-some p e)
stage-stopped (Stopped q) p e = ap Stopped (same_Some q p e)

module _ (t : ℕ) (E : List Axis) (s : List ℕ) (v : Levels) (f : Fit) (i : ℕ) (out : List ℕ) (a : Along t E s v f i out) (h : i < length s)
    (r : Turn) (u : Turned v (get_or s i 0) r) (g : Fit) (after : List ℕ) (m : TokenMet t E s i r.begun v.depth f out g after) where
  abbrev past : ℕ
  past = length s + 1

  not-nothing : stop_of g.stage ≡ None → r.begun ≡ Begun.Nothing → ⊥
  not-nothing e q = none-some (i + 1) (sym e ∙ ap (λ (x : Fit). stop_of x.stage) (m.stopped q))

  to-rest : (r.begun ≡ Begun.Nothing → ⊥)
      → whole_of t E s ≡ with (a.had ++ m.new) (outcome t past (phase_of E g) (left s (head_of r.begun ++ parts_of r.levels) (i + 1)))
  to-rest n =
      let hs : List Part = head_of r.begun ++ parts_of r.levels in
      let R : Rest = left s hs (i + 1) in
      a.comes-to
      ∙ (ap (λ (x : Rest). with a.had (outcome t past (phase_of E f) x)) (left-token s (parts_of v) i h hs (u.goes
      ∙ comes-some r.begun (parts_of r.levels) n))
      ∙ (ap (with a.had) (m.goes past (token_of (settled (parts_of v) (get_or s i 0)) (i + 1) (get_or s i 0) (drop (i + 1) s)) n
      (tokens-at v s i r h (a.other h) u) R)
      ∙ with-more a.had m.new (outcome t past (phase_of E g) R)))

  -- it ends there
  pub turn_stopped : (p : ℕ) → stop_of g.stage ≡ Some p → whole_of t E s ≡ Err (refusal not_json15 0 p)
  turn_stopped p e = by (nothing-or r.begun)
    where
      by : (r.begun ≡ Begun.Nothing) ⊎ (r.begun ≡ Begun.Nothing → ⊥) → whole_of t E s ≡ Err (refusal not_json15 0 p)
      by (inl q) =
          let z : step (parts_of v) (get_or s i 0) ≡ None = u.goes ∙ nothing-none r.begun (parts_of r.levels) q in
          a.comes-to
          ∙ (ap (λ (x : Rest). with a.had (outcome t past (phase_of E f) x)) (left-stops s (parts_of v) i h z)
          ∙ (ap (with a.had) (stopped t past i (phase_of E f) a.alive)
          ∙ ap (λ (n : ℕ). Err (refusal not_json15 0 n)) (same_Some (i + 1) p (ap (λ (x : Fit). stop_of x.stage) (sym (m.stopped q)) ∙ e))))
      by (inr n) = to-rest n ∙ twice-refused E g p (stage-stopped g.stage p e) t past (a.had ++ m.new)
          (left s (head_of r.begun ++ parts_of r.levels) (i + 1))

  module _ (e : stop_of g.stage ≡ None) (x : Ended) (b : BegunEnds s r.begun (i + 1) x) where
    to-reached : whole_of t E s ≡ with (a.had ++ m.new) (outcome t past (phase_of E g) (reached s (parts_of r.levels) x))
    to-reached = to-rest (not-nothing e) ∙ ap (λ (y : Rest). with (a.had ++ m.new) (outcome t past (phase_of E g) y))
        (b.goes (parts_of r.levels) u.behind)

    -- what was begun stops being JSON
    pub turn-unsound : (y : Fault) → x ≡ Err y → whole_of t E s ≡ Err (refusal not_json15 0 (y.0 + 1))
    turn-unsound y q =
        to-reached ∙ (rw q (ap (with (a.had ++ m.new)) (stopped t past y.0 (phase_of E g)
        (stage-alive E g.stage g.cursor e))))

    -- the next turn
    pub turn-again : (k : ℕ) → x ≡ Ok k → (j : ℕ) → PassedOver blank s k j → Along t E s r.levels g j after
    turn-again k q j p =
        record {
          within_text = p.within;
          standing = u.stands;
          ready = m.stored.ready;
          alive = stage-alive E g.stage g.cursor e;
          other = p.other;
          had = a.had ++ m.new;
          comes-to =
              to-reached
              ∙ (ap (λ (y : Ended). with (a.had ++ m.new) (outcome t past (phase_of E g) (reached s (parts_of r.levels) y))) q
              ∙ (ap (λ (y : Rest). with (a.had ++ m.new) (outcome t past (phase_of E g) y))
              (p.over (parts_of r.levels) (parts_stay r.levels.next r.levels.depth r.levels.bits))));
          number = m.stored.number ∙ (ap (λ (n : ℕ). n + length m.new) a.number ∙ sym (length-append a.had m.new));
          held = m.stored.held ∙ (ap (λ (l : List ℕ). l ++ cells_bytes m.new) a.held ∙ sym (cells-append a.had m.new));
        }

-- ---- the end of the text

parts-open : (x : Next) (d c : ℕ) → ended_by x d ≡ false → complete (parts_at x d c) ≡ false
unfolding more
parts-open Next.Object d c e = refl
parts-open Next.First d c e = refl
parts-open Next.More zero c e = e
parts-open Next.More (suc d) c e = refl
parts-open Next.Value d c e = refl
parts-open Next.Member d c e = refl

parts-over : (x : Next) (d c : ℕ) → ended_by x d ≡ true → parts_at x d c ≡ []
unfolding more
parts-over Next.Object d c e = no_true e
parts-over Next.First d c e = no_true e
parts-over Next.More zero c e = refl
parts-over Next.More (suc d) c e = absurd (omega (arith, eqb-true (suc d) 0 e))
parts-over Next.Value d c e = no_true e
parts-over Next.Member d c e = no_true e

left-done : (s : List ℕ) (i : ℕ) → length s ≤ i → left s [] i ≡ done
unfolding left fault_from tokens_from
left-done s i h = let e : drop i s ≡ [] = drop_of_length-le s {i = i} h in rw e

module _ (t : ℕ) (E : List Axis) (s : List ℕ) (v : Levels) (f : Fit) (i : ℕ) (out : List ℕ) (a : Along t E s v f i out)
    (h : length s ≤ i) where
  -- the object is not closed
  pub end-open : ended? v ≡ false → whole_of t E s ≡ Err (refusal not_json15 0 (i + 1))
  end-open e =
      a.comes-to
      ∙ (ap (λ (x : Rest). with a.had (outcome t (length s + 1) (phase_of E f) x))
      (left_end s (parts_of v) i h (parts-open v.next v.depth v.bits e))
      ∙ ap (with a.had) (stopped t (length s + 1) i (phase_of E f) a.alive))

  module _ (e : ended? v ≡ true) where
    at-end : i ≡ length s
    at-end = omega (arith, a.within_text, h)

    to-done : whole_of t E s ≡ with a.had (outcome t (i + 1) (phase_of E f) done)
    to-done =
        a.comes-to
        ∙ (ap (λ (x : List Part). with a.had (outcome t (length s + 1) (phase_of E f) (left s x i)))
        (parts-over v.next v.depth v.bits e)
        ∙ (ap (λ (x : Rest). with a.had (outcome t (length s + 1) (phase_of E f) x)) (left-done s i h)
        ∙ ap (λ (n : ℕ). with a.had (outcome t (n + 1) (phase_of E f) done)) (sym at-end)))

    to-stage : (x : Stage) → f.stage ≡ x → whole_of t E s ≡ with a.had (outcome t (i + 1) (phase_by E x f.cursor) done)
    to-stage x q = to-done ∙ ap (λ (y : Stage). with a.had (outcome t (i + 1) (phase_by E y f.cursor) done)) q

    short : (d : Due) (ds : List Due) → rest_of E f.cursor ≡ d ∷ ds → f.stage ≡ Within → whole_of t E s ≡ Err (refusal misfit16 0 0)
    unfolding phase_by
    short d ds q w =
        to-stage Within w
        ∙ (ap (λ (l : List Due). with a.had (outcome t (i + 1) (within l) done)) q
        ∙ ap (with a.had) (done-short t (i + 1) d ds))

    full-cells : rest_of E f.cursor ≡ [] → f.stage ≡ Within → CellsFound t E s out f.done
    unfolding phase_by Counts cells_due
    full-cells q w =
        let k : f.done + cells_due (rest_of E f.cursor) ≡ cells E = subst (λ (x : Stage). Counts E x f.done f.cursor) w
        a.ready.counts in
        let z : cells_due (rest_of E f.cursor) ≡ 0 = ap cells_due q in
        record {
          found = a.had;
          whole =
              to-stage Within w
              ∙ (ap (λ (l : List Due). with a.had (outcome t (i + 1) (within l) done)) q
              ∙ (ap (with a.had) (done-over t (i + 1)) ∙ ap Ok (append-nil a.had)));
          number = a.number;
          full = omega (arith, k, z);
          held = a.held;
        }

    found_within : (x : Wanted) → f.cursor.wanted ≡ x → f.stage ≡ Within → ScanFound t E s out (due_found x f.done)
    unfolding ScanFound
    found_within Wanted.Nothing q w = full-cells (rest-nothing E f.cursor a.ready.stands q) w
    found_within Wanted.Opening q w = let n = rest-opening E f.cursor a.ready.stands q in short opening n.0 n.1 w
    found_within Wanted.Closing q w = let n = rest-closing E f.cursor a.ready.stands q in short closing n.0 n.1 w
    found_within Wanted.Value q w = let n = rest-value E f.cursor a.ready.stands q in short cell n.0 n.1 w

    found-by : (x : Stage) → f.stage ≡ x → ScanFound t E s out (found_by x (i + 1) f)
    unfolding ScanFound phase_by outcome
    found-by Before w = to-stage Before w ∙ ap (with a.had) (done-before t (i + 1) (due E))
    found-by Within w = found_within f.cursor.wanted refl w
    found-by (Wrong p) w = to-stage (Wrong p) w ∙ ap (with a.had) (done-wrong t (i + 1) p)
    found-by (Stopped p) w = to-stage (Stopped p) w

    pub end-closed : (r : Result ℕ TextFault) → r ≡ end_found (i + 1) f → ScanFound t E s out r
    end-closed r q = subst (ScanFound t E s out) (sym q) (found-by f.stage refl)

pub not-json : (t : ℕ) (E : List Axis) (s out : List ℕ) (i : ℕ) → whole_of t E s ≡ Err (refusal not_json15 0 i)
    → ScanFound t E s out (Err (NotJson i))
unfolding ScanFound
not-json t E s out i e = e
