-- Where a moved cell comes from lies in its array, and in B only where the move uses one: laws of the paper's definitions, apart from the
-- code.
use Rattle.std.specs.Prelude.{ℕ, ◌-◌, ◌<◌, ◌≡◌, refl, Bool, false, List, [], ◌∷◌, map, eqb, get_or, if◌then◌else◌}
use Rattle.std.proofs.Math.Path.{ap}
use Rattle.std.proofs.Math.Bool.{true}
use Rattle.std.proofs.Common.{arith, leb-true, leb-false}
use Rattle.paper.specs.declared.Axis.{Axis}
use Rattle.paper.specs.declared.Move.{Move}
use Rattle.paper.specs.declared.Move.TheVariants.{Trim, Slice, Reshape, Shift, Rename, Update, Put, Glue}
use Rattle.paper.specs.declared.Operation.TheVariants.{Moves}
use Rattle.paper.specs.Numbers.{position_at}
use Rattle.paper.specs.Axes.{cells, inside, offset, at_offset, without}
use Rattle.paper.specs.Recipe.{Step, uses, fits_in, result_axes, covers, glued, shifted}
use Rattle.paper.specs.Values.{Whence, from_a, from_b, nowhere, shifted_back, overlaid, in_first, in_second, whence}
use Rattle.laws.specs.Tests.{and_left, and_right}
use Rattle.laws.specs.Places.{Inside, inside-true, offset-at_offset, at_offset-inside}
use Rattle.laws.specs.Limits.{Sound}
use Rattle.laws.specs.Joins.{inside-put_in}
use Rattle.laws.proofs.Glue.{glued-first, glued-second}
use Rattle.origin.specs.declared.Origin.TheVariants.{FromB}
use Rattle.origin.specs.Origins.{Moving, origin_at, Lies}
use Rattle.origin.specs.Asks.{slice-asks, glue-asks}
use Rattle.origin.specs.Shifts.{cells-shifted, shifted-back}

-- what covers an extent has its coordinates
between_ends : (E F : List Axis) (p : List ℕ) → Inside E (map (λ a. a.lo) F) → Inside E (map (λ a. a.hi) F) → Inside F p
    → Inside E p
between_ends [] [] [] l u h = tt
between_ends [] [] (x ∷ p) l u h = absurd h
between_ends [] (b ∷ F) p l u h = absurd l
between_ends (a ∷ E) [] p l u h = absurd l
between_ends (a ∷ E) (b ∷ F) [] l u h = absurd h
between_ends (a ∷ E) (b ∷ F) (x ∷ p) l u h = (omega arith, omega arith, between_ends E F p l.2 u.2 h.2)

covered : (E F : List Axis) (p : List ℕ) → covers E F ≡ true → Inside F p → Inside E p
covered E F p e h =
    let lower = inside E (map (λ (a : Axis). a.lo) F) in
    between_ends E F p (inside-true E _ (and_left lower _ e)) (inside-true E _ (and_right lower _ e)) h

-- one or the other
either : (E F : List Axis) (b : Bool) (v w : Whence) → (b ≡ true → Lies E F v) → (b ≡ false → Lies E F w)
    → Lies E F (if b then v else w)
either E F true v w x y = x refl
either E F false v w x y = y refl

over-lies : (E F : List Axis) (q p : List ℕ) → Inside E p → Lies E F (overlaid F q p)
over-lies E F q p h = either E F (inside F q) (from_b q) (from_a p) (inside-true F q) (λ e. h)

-- ---- moves that keep each cell's number

-- q is the coordinate of A's cell k
pub record Own (E : List Axis) (k : ℕ) (q : List ℕ) : Type 0 where
  pub lt : k < cells E
  pub is : q ≡ at_offset E k

module _ {E : List Axis} {k : ℕ} {q : List ℕ} (o : Own E k q) where
  pub own-inside : Inside E q
  own-inside = rw o.is (at_offset-inside E k o.lt)

  pub own-offset : offset E q ≡ k
  own-offset = rw o.is (offset-at_offset E k o.lt)

pub same-own : {E G : List Axis} {k : ℕ} → G ≡ E → k < cells G → Own E k (at_offset G k)
same-own g h = record { lt = rw g at h; is = rw g }

module _ {st : Step} {E F G : List Axis} {k : ℕ} where
  pub shift-own : Moving Shift st E F G → k < cells G → Own E k (shifted_back (at_offset G k) st.detail)
  unfolding result_axes
  shift-own M h =
      let s : Sound (shifted E st.detail) = rw M.axes at M.result.sound in
      let l : k < cells E = omega (arith, ap cells M.axes, cells-shifted E st.detail M.first.sound s) in
      record { lt = l; is = rw M.axes (shifted-back E st.detail k M.first.sound s l) }

  -- ---- every move

  pub lies : {m : Move} → Moving m st E F G → k < cells G → Lies E F (whence m st E F (at_offset G k))
  unfolding whence fits_in result_axes
  lies {m = Trim} M h =
      let f : covers E G ≡ true = rw (M.axes, ← M.left-axes) M.fits in
      covered E G (at_offset G k) f (at_offset-inside G k h)
  lies {m = Slice} M h =
      let a = slice-asks M h in
      let i : Inside (without st.axis E) (at_offset G k) = rw (← M.axes) (at_offset-inside G k h) in
      inside-put_in st.axis E a.axial.one a.axial.last _ (at_offset G k) i a.low a.high
  lies {m = Reshape} M h = let p = at_offset G k in either E F (inside E p) (from_a p) nowhere (inside-true E p) (λ e. tt)
  lies {m = Shift} M h = own-inside (shift-own M h)
  lies {m = Rename} M h = own-inside (same-own M.axes h)
  lies {m = Update} M h = over-lies E F _ _ (own-inside (same-own M.axes h))
  lies {m = Put} M h =
      let p = at_offset G k in
      let i = own-inside (same-own M.axes h) in
      either E F (eqb (get_or p (st.axis - 1) 0) (position_at 0 st.detail)) (overlaid F (without st.axis p) p) (from_a p)
      (λ e. over-lies E F (without st.axis p) p i) (λ e. i)
  lies {m = Glue} M h =
      let p = at_offset G k in
      let g = glue-asks M in
      let i : Inside (glued st.axis E F) p = rw (← M.axes) (at_offset-inside G k h) in
      either E F (in_first st.axis E p) (from_a p) (from_b (in_second st.axis E F p))
      (λ e. glued-first st.axis E F g p i (leb-true _ _ e)) (λ e. glued-second st.axis E F g p i (leb-false _ _ e))

-- ---- B is asked only where it is used

pub second-used : (m : Move) (st : Step) (E F : List Axis) (p : List ℕ) (i : ℕ) → origin_at E F (whence m st E F p) ≡ FromB i
    → (uses (Moves m)).b ≡ true
unfolding whence uses origin_at
second-used Trim st E F p i e = cc
second-used Slice st E F p i e = cc
second-used Reshape st E F p i e = by (inside E p) e
  where
    by : (b : Bool) → origin_at E F (if b then from_a p else nowhere) ≡ FromB i → false ≡ true
    by true e = cc
    by false e = cc
second-used Shift st E F p i e = cc
second-used Rename st E F p i e = cc
second-used Update st E F p i e = refl
second-used Put st E F p i e = refl
second-used Glue st E F p i e = refl
