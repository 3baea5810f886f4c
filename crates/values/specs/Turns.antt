-- A step in its turn: where its operands' cells lie, and the cell that a mark and a word there are. Then what the step gives at a
-- coordinate: of cells moved, that the nine bytes where the cell comes from are its bytes; of cells worked out, that the code gives the answer.
use Rattle.std.specs.Prelude.{◌≡◌, ℕ, ◌+◌, ◌*◌, ◌^◌, ◌<◌, true, false, List, length, get_or, drop, ◌==◌, nat_eq, slice_index, slice_index_or, Option, None, Some, Ok}
use Rattle.std.specs.Option.{unwrap_or}
use Rattle.std.proofs.Math.Path.{refl, ap}
use Rattle.std.proofs.Common.{sym, subst, ◌∙◌, arith, eqb-true, length-take, length-drop, get_or-take, get_or-drop, take_all}
use Rattle.paper.specs.declared.Axis.{Axis}
use Rattle.paper.specs.declared.Cell.{Cell}
use Rattle.paper.specs.declared.Cell.TheVariants.{Empty}
use Rattle.paper.specs.declared.Hand.{Hand}
use Rattle.paper.specs.declared.Hand.TheVariants.{Right, Left}
use Rattle.paper.specs.declared.Move.{Move}
use Rattle.paper.specs.declared.PairOp.{PairOp}
use Rattle.paper.specs.declared.Work.{Work}
use Rattle.paper.specs.declared.Work.TheVariants.{Pair, Scalar, Single}
use Rattle.paper.specs.declared.Operation.{Operation}
use Rattle.paper.specs.declared.Operation.TheVariants.{Moves, Works}
use Rattle.paper.specs.Limits.{FLOAT, cell_bytes, word_bytes}
use Rattle.paper.specs.Numbers.{le_of, le_bytes, part}
use Rattle.paper.specs.Axes.{cells, at_offset, Shape, Array, at}
use Rattle.paper.specs.Cells.{is_type, filled, cell_from, encode}
use Rattle.paper.specs.Operators.{takes, takes_one, pair_cell, Answer}
use Rattle.paper.specs.Bundle.{sizes_in}
use Rattle.paper.specs.Recipe.{Step, Planned, scalar_of, uses, axis_in, is_scalar, fits_in, takes_type, types_fit, result_axes, result_of}
use Rattle.paper.specs.Values.{Whence, whence, taken, made, scalar, cell_at}
use Rattle.paper.specs.Answers.{axes_of}
use Rattle.laws.specs.Tests.{and_left, and_right}
use Rattle.laws.specs.Cells.{OfKind, bytes_back}
use Rattle.laws.specs.Numbers.{Bytes, bytes_take, bytes_drop}
use Rattle.laws.specs.Places.{offset-at_offset, at_offset-inside}
use Rattle.laws.specs.Arrays.{at-inside}
use Rattle.laws.specs.Alike.{SameLimits, cells-alike, at_offset-alike}
use Rattle.laws.specs.Agreeing.{Agree, pair-limits}
use Rattle.laws.specs.Passed.{Tested}
use Rattle.laws.specs.Steps.{Kept, result-type}
use Rattle.laws.proofs.Steps.{cell-kept}
use Rattle.coded.specs.Codes.{standing, NoNan, kind_of, pair_code_of, single_code_of, code_cell}
use Rattle.coded.proofs.Standing.{standing-is, no-nan-from}
use Rattle.coded.proofs.Codes.{pair-code-kind, pair-code-cell, single-code-kind, single-code-cell}
use Rattle.positions.specs.Runs.{Holds, part-part}
use Rattle.extent.specs.Judged.{Small}
use Rattle.step.specs.Steps.{detail_of, step_in}
use Rattle.quick.specs.declared.operands.Source.{Source}
use Rattle.quick.specs.declared.operands.Pairing.{Pairing}
use Rattle.quick.specs.Operands.{source, scalar_side, pairing, bytes_in, mark_at, word_at, Reaches}
use Rattle.recipe.specs.declared.Operand.{Operand}
use Rattle.recipe.specs.Operands.{shape_in}
use Rattle.origin.specs.declared.Origin.{Origin}
use Rattle.origin.specs.declared.Origin.TheVariants.{Nowhere, FromA, FromB}
use Rattle.origin.specs.Origins.{Moving, origin_cell, in_array, origin-inside, taken-origin}
use Rattle.origin.specs.Comes.{comes}
use Rattle.origin.specs.Lies.{lies, second-used}
use Rattle.values.specs.declared.Turn.{Turn}
use Rattle.values.specs.Lying.{Lies, Whole}
use Rattle.lay.specs.Lay.{span_of, Spans, run_bytes, bytes-in}

-- ---- as the code carries them

-- where an operand's cells lie
abbrev pub cells_at : Operand → Source
cells_at o = source o.which o.head.at

abbrev pub kind_in : Operand → ℕ
kind_in o = o.head.form.kind

-- 9 to 12: the code of A's type and the operator, and the operands, of which a scalar is one; w is its number
abbrev pub handed : Hand → ℕ → ℕ → Source → Pairing
handed Right code w x = pairing code w x (source scalar_side 0)
handed Left code w x = pairing code w (source scalar_side 0) x

module _ {h : Hand} {code w : ℕ} {x : Source} {q : Pairing} where
  pub on-right : h ≡ Right → q ≡ pairing code w x (source scalar_side 0) → q ≡ handed h code w x
  on-right e z = rw e z

  pub on-left : h ≡ Left → q ≡ pairing code w (source scalar_side 0) x → q ≡ handed h code w x
  on-left e z = rw e z

abbrev pub pairing_of : Work → ℕ → Operand → Operand → Pairing
pairing_of (Pair o) w a b = pairing (pair_code_of (kind_in a) o) 0 (cells_at a) (cells_at b)
pairing_of (Scalar h o) w a b = handed h (pair_code_of (kind_in a) o) w (cells_at a)
pairing_of (Single o) w a b = pairing (single_code_of (kind_in a) o) 0 (cells_at a) (cells_at a)

-- ---- the cell that a mark and a word are

pub record CellHere (B D : List ℕ) (w : ℕ) (f : Source) (k t : ℕ) (c : Cell) : Type 0 where
  pub reaches : Reaches B D f k
  pub is : cell_from t (mark_at B D f k) (word_at B D w f k) ≡ Some c

-- an operand names an array, whose cells lie there
pub record Stands (B D : List ℕ) (o : Operand) (X : Array) : Type 0 where
  pub shape : shape_in o.head ≡ X.shape
  pub whole : Whole X
  pub plain : nat_eq o.which scalar_side ≡ false
  pub lies : Lies (bytes_in o.which B D) o.head.at X

module _ {B D : List ℕ} {o : Operand} {X : Array} (v : Stands B D o X) where
  pub kind-is : kind_in o ≡ X.shape.type
  kind-is = ap (λ (s : Shape). s.type) v.shape

  pub axes-are : axes_of o.head.form.extent ≡ X.shape.axes
  axes-are = ap (λ (s : Shape). s.axes) v.shape

  pub cell-here : (w k : ℕ) → k < length X.cells → CellHere B D w (cells_at o) k (kind_in o) (slice_index_or X.cells k Empty)
  cell-here w k h =
      let bs = bytes_in o.which B D in
      let i = o.head.at + k * cell_bytes in
      let z : i + 0 ≡ i = omega arith in
      let m : get_or (part i cell_bytes bs) 0 0 ≡ mark_at B D (cells_at o) k
      = sym (rw v.plain (sym (get_or-take cell_bytes (drop i bs) 0 0 (omega arith) ∙ get_or-drop i bs 0 0 ∙ ap (λ (j : ℕ). slice_index bs j) z))) in
      let r : drop 1 (part i cell_bytes bs) ≡ part (i + 1) word_bytes bs
      = sym (take_all word_bytes (drop 1 (part i cell_bytes bs)) (omega (arith, length-drop 1 (part i cell_bytes bs), length-take cell_bytes (drop i bs))))
      ∙ part-part bs i cell_bytes 1 word_bytes (omega arith) in
      let n : le_of (drop 1 (part i cell_bytes bs)) ≡ word_at B D w (cells_at o) k = sym (rw v.plain (sym (ap le_of r))) in
      record {
        reaches = record { room = λ g. omega (arith, v.lies.room) };
        is = rw (kind-is, ← m, ← n) (v.lies.cell k h);
      }

  -- its nine bytes
  pub as-it-lies : Bytes B → Bytes D → (k : ℕ) → k < length X.cells → span_of B D (cells_at o) k 1 ≡ encode (slice_index_or X.cells k Empty)
  as-it-lies x y k h =
      let bs = bytes_in o.which B D in
      let i = o.head.at + k * cell_bytes in
      let n : length (part i cell_bytes bs) ≡ cell_bytes = length-take cell_bytes (drop i bs) ∙ omega (arith, length-drop i bs, v.lies.room) in
      sym (bytes_back X.shape.type (part i cell_bytes bs) (slice_index_or X.cells k Empty) n
      (bytes_take cell_bytes (drop i bs) (bytes_drop i bs (bytes-in B D o.which x y))) (v.lies.cell k h))

-- ---- a step ready: p as planned, t as the code has it, A and Z the arrays that the paper takes for A and B

pub record Ready (B bs D : List ℕ) (A Z : Array) (p : Planned) (t : Turn) : Type 0 where
  pub step : p.step ≡ step_in bs t.step
  pub shape : p.shape ≡ shape_in t.result
  pub tested : Tested (sizes_in B) p.step A.shape Z.shape
  pub result : p.shape ≡ result_of (sizes_in B).name p.step A.shape Z.shape
  pub first : Stands B D t.a A
  pub second : (uses p.step.operation).b ≡ true → Stands B D t.b Z
  pub other : shape_in t.b.head ≡ Z.shape
  pub kept : Kept Z
  pub scalar : scalar_of p.step < 2 ^ 64
  pub detail : Holds t.step.at (detail_of t.step) bs
  pub small-first : Small (axes_of t.a.head.form.extent)
  pub small-second : Small (axes_of t.b.head.form.extent)
  pub small_result : Small (axes_of t.result.form.extent)
  pub count : t.result.cells ≡ cells (axes_of t.result.form.extent)

-- both operands are there, no word of a FLOAT is a NaN's, and the code gives the answer
pub record Computes (B D : List ℕ) (q : Pairing) (k : ℕ) (a : Answer) : Type 0 where
  pub first : Reaches B D q.first k
  pub second : Reaches B D q.second k
  pub words : kind_of q.code ≡ FLOAT → NoNan (word_at B D q.scalar q.first k) × NoNan (word_at B D q.scalar q.second k)
  pub is : code_cell q.code (standing (kind_of q.code) (mark_at B D q.first k) (word_at B D q.scalar q.first k))
      (standing (kind_of q.code) (mark_at B D q.second k) (word_at B D q.scalar q.second k)) ≡ a

module _ {B D : List ℕ} {w : ℕ} {f g : Source} {k t : ℕ} {a b : Cell} (ty : is_type t ≡ true) (x : CellHere B D w f k t a)
    (y : CellHere B D w g k t b) where
  -- of any code of type t
  by_code : (c : ℕ) → kind_of c ≡ t → (r : Answer) → code_cell c a b ≡ r → Computes B D (pairing c w f g) k r
  by_code c e r q = record {
    first = x.reaches;
    second = y.reaches;
    words = λ z. let u : t ≡ FLOAT = sym e ∙ z in (no-nan-from t _ _ a u x.is, no-nan-from t _ _ b u y.is);
    is = rw (e, standing-is t (mark_at B D f k) (word_at B D w f k) a x.is, standing-is t (mark_at B D g k) (word_at B D w g k) b y.is) q;
  }

-- a scalar, of any cell
scalar-here : (B D : List ℕ) (w k t : ℕ) (c : Cell) → filled t w ≡ Some c → CellHere B D w (source scalar_side 0) k t c
unfolding cell_from
scalar-here B D w k t c e = record { reaches = record { room = λ z. let y : ◌≡◌ {A = ℕ} 0 1 = cc in absurd (omega arith) }; is = e }

scalar-some : (o : Option Cell) → is_scalar o ≡ true → o ≡ Some (unwrap_or o Empty)
unfolding is_scalar
scalar-some None e = let y : ◌≡◌ {A = ℕ} 0 1 = cc in absurd (omega arith)
scalar-some (Some c) e = refl

-- an array's own cell k
own-cell : (A : Array) (E : List Axis) (k : ℕ) → A.shape.axes ≡ E → k < cells E → at A (at_offset E k) ≡ slice_index_or A.cells k Empty
own-cell A E k e h = rw (← e) (at-inside A (at_offset A.shape.axes k) (at_offset-inside A.shape.axes k (rw (← e) at h)) ∙ ap (λ (n : ℕ). get_or A.cells n Empty) (offset-at_offset A.shape.axes k (rw (← e) at h)))

module _ {B bs D : List ℕ} {A Z : Array} {p : Planned} {t : Turn} (y : Ready B bs D A Z p t) where
  abbrev S : Shape
  S = A.shape

  abbrev U : Shape
  U = Z.shape

  typed : is_type S.type ≡ true
  typed = y.first.whole.type

  pub result-axes : p.shape.axes ≡ axes_of t.result.form.extent
  result-axes = ap (λ (x : Shape). x.axes) y.shape

  pub cells_are : t.result.cells ≡ cells p.shape.axes
  cells_are = y.count ∙ ap cells (sym result-axes)

  -- a cell that the step gives is one of the result's type, and that is a type
  pub cell_typed : (q : List ℕ) (c : Cell) → cell_at p.step.operation p.step A Z q ≡ Ok c → OfKind p.shape.type c
  cell_typed q c e =
      rw y.result (cell-kept p.step.operation p.step A Z q c typed y.first.whole.kept y.kept y.tested.types y.scalar e)

  pub result-typed : is_type p.shape.type ≡ true
  result-typed = rw y.result (result-type p.step.operation S.type typed)

  -- ---- cells worked out

  module _ (w : Work) (e : p.step.operation ≡ Works w) (n k : ℕ) (h : k < cells p.shape.axes) where
    abbrev pt : List ℕ
    pt = at_offset p.shape.axes k

    abbrev kind : ℕ
    kind = kind_in t.a

    -- the result has A's axes
    same-axes : p.shape.axes ≡ S.axes
    unfolding result_axes
    same-axes = ap (λ (x : Shape). x.axes) y.result ∙ rw e

    fits : types_fit (Works w) p.step S.type U.type ≡ true
    fits = subst (λ (op : Operation). types_fit op p.step S.type U.type ≡ true) e y.tested.types

    kind-typed : is_type kind ≡ true
    kind-typed = rw (kind-is y.first) typed

    first_cell : CellHere B D n (cells_at t.a) k kind (at A pt)
    first_cell =
        rw (own-cell A p.shape.axes k (sym same-axes) h) (cell-here y.first n k (omega (arith, y.first.whole.full, ap cells same-axes)))

    scalar-cell : n ≡ scalar_of p.step → is_scalar (filled S.type (scalar_of p.step)) ≡ true
        → CellHere B D n (source scalar_side 0) k kind (scalar p.step A)
    scalar-cell v q = scalar-here B D n k kind (scalar p.step A) (rw (kind-is y.first, v) (scalar-some (filled S.type (scalar_of p.step)) q))

    second-cell : (uses (Works w)).b ≡ true → (S.type == U.type) ≡ true → SameLimits S.axes U.axes
        → CellHere B D n (cells_at t.b) k kind (at Z pt)
    second-cell u q a =
        let s = y.second (rw e u) in
        let i : k < cells U.axes = omega (arith, ap cells same-axes, cells-alike S.axes U.axes a) in
        let z : kind_in t.b ≡ kind = kind-is s ∙ sym (eqb-true S.type U.type q) ∙ sym (kind-is y.first) in
        rw (same-axes, at_offset-alike S.axes U.axes k a, own-cell Z U.axes k refl i, ← z) (cell-here s n k (omega (arith, s.whole.full)))

    pair-by : (o : PairOp) {f g : Source} {a b : Cell} → takes o S.type ≡ true → CellHere B D n f k kind a → CellHere B D n g k kind b
        → Computes B D (pairing (pair_code_of kind o) n f g) k (pair_cell o a b)
    pair-by o q c d =
        let q' : takes o kind ≡ true = rw (kind-is y.first) q in
        by_code kind-typed c d (pair_code_of kind o) (pair-code-kind kind o kind-typed q') _ (pair-code-cell kind o kind-typed q' _ _)

  pub computes : (w : Work) → p.step.operation ≡ Works w → (n k : ℕ) → n ≡ scalar_of p.step → k < cells p.shape.axes
      → Computes B D (pairing_of w n t.a t.b) k (cell_at p.step.operation p.step A Z (at_offset p.shape.axes k))
  unfolding cell_at made types_fit takes_type uses
  computes (Pair o) e n k v h = rw e (
      let f = fits (Pair o) e 0 k h in
      let l = pair-limits p.step.axis S.names S.axes U.names U.axes o (rw e at y.tested.agrees) in
      pair-by (Pair o) e 0 k h o (and_right (S.type == U.type) _ f) (first_cell (Pair o) e 0 k h)
      (second-cell (Pair o) e 0 k h refl (and_left _ _ f) l))
  computes (Scalar Right o) e n k v h = rw e (
      let f = fits (Scalar Right o) e n k h in
      pair-by (Scalar Right o) e n k h o (and_left _ _ f) (first_cell (Scalar Right o) e n k h) (scalar-cell (Scalar Right o) e n k h v (and_right (takes o S.type) _ f)))
  computes (Scalar Left o) e n k v h = rw e (
      let f = fits (Scalar Left o) e n k h in
      pair-by (Scalar Left o) e n k h o (and_left _ _ f) (scalar-cell (Scalar Left o) e n k h v (and_right (takes o S.type) _ f)) (first_cell (Scalar Left o) e n k h))
  computes (Single o) e n k v h = rw e (
      let c = first_cell (Single o) e 0 k h in
      let q : takes_one o (kind_in t.a) ≡ true = rw (kind-is y.first) (fits (Single o) e 0 k h) in
      let d = kind-typed (Single o) e 0 k h in
      by_code d c c (single_code_of (kind_in t.a) o) (single-code-kind (kind_in t.a) o d q) _ (single-code-cell (kind_in t.a) o d q _ _))

  -- ---- cells moved

  module _ (m : Move) (e : p.step.operation ≡ Moves m) where
    abbrev E : List Axis
    E = axes_of t.a.head.form.extent

    abbrev F : List Axis
    F = axes_of t.b.head.form.extent

    abbrev G : List Axis
    G = axes_of t.result.form.extent

    first-axes : S.axes ≡ E
    first-axes = sym (axes-are y.first)

    second-axes : U.axes ≡ F
    second-axes = ap (λ (x : Shape). x.axes) (sym y.other)

    -- what the mover asks
    pub moving : Moving m (step_in bs t.step) E F G
    moving = subst (λ (s : Step). Moving m s E F G) y.step (record {
      first = y.small-first;
      second = y.small-second;
      result = y.small_result;
      axis = rw (← first-axes) (subst (λ (op : Operation). axis_in (uses op) (length S.axes) p.step.axis ≡ true) e y.tested.axis);
      agrees = rw (
        ← first-axes,
        ← second-axes,
      ) (subst (λ (op : Operation). Agree op p.step.axis S.names S.axes U.names U.axes) e
          y.tested.agrees);
      left = S;
      right = U;
      left-axes = first-axes;
      right-axes = second-axes;
      fits = subst (λ (op : Operation). fits_in op p.step S U ≡ true) e y.tested.fits;
      axes = rw (← first-axes, ← second-axes) (sym result-axes ∙ ap (λ (x : Shape). x.axes) y.result ∙ ap (λ (op : Operation). result_axes op p.step S.axes U.axes) e);
    })

    module _ (k : ℕ) (h : k < cells G) where
      abbrev o : Origin
      o = comes m (step_in bs t.step) E F G k

      abbrev from : Whence
      from = whence m (step_in bs t.step) E F (at_offset G k)

      abbrev cell : Cell
      cell = origin_cell o A.cells Z.cells

      -- the step's cell
      pub moved-is : cell_at p.step.operation p.step A Z (at_offset p.shape.axes k) ≡ Ok cell
      unfolding cell_at
      moved-is =
          ap (λ (op : Operation). cell_at op p.step A Z (at_offset p.shape.axes k)) e
          ∙ (λ i. Ok (taken A Z (whence m (y.step i) (first-axes i) (second-axes i) (at_offset (result-axes i) k))))
          ∙ ap Ok (taken-origin E F from A Z first-axes second-axes (lies moving h))

      pub inside : in_array o (cells E) (cells F)
      inside = origin-inside E F from (lies moving h)

      -- it is A's cell i, or B's
      first-in : (i : ℕ) → o ≡ FromA i → i < length A.cells
      first-in i q = let l : i < cells E = rw q at inside in omega (arith, y.first.whole.full, ap cells first-axes)

      second-stands : (i : ℕ) → o ≡ FromB i → Stands B D t.b Z
      second-stands i q =
          let u : (uses (Moves m)).b ≡ true = second-used m (step_in bs t.step) E F (at_offset G k) i q in
          y.second (ap (λ (op : Operation). (uses op).b) e ∙ u)

      second-in : (i : ℕ) → o ≡ FromB i → i < length Z.cells
      second-in i q = let l : i < cells F = rw q at inside in omega (arith, (second-stands i q).whole.full, ap cells second-axes)

      pub reach-first : (i : ℕ) → o ≡ FromA i → Spans B D (cells_at t.a) i 1
      reach-first i q = omega (arith, first-in i q, y.first.lies.room)

      pub reach-second : (i : ℕ) → o ≡ FromB i → Spans B D (cells_at t.b) i 1
      reach-second i q = omega (arith, second-in i q, (second-stands i q).lies.room)

      -- its nine bytes are those that lie there
      pub as-they-lie : Bytes B → Bytes D → run_bytes B D (cells_at t.a) (cells_at t.b) o 1 ≡ encode cell
      unfolding run_bytes encode le_bytes
      as-they-lie x z = by o refl
        where
          by : (r : Origin) → o ≡ r → run_bytes B D (cells_at t.a) (cells_at t.b) r 1 ≡ encode (origin_cell r A.cells Z.cells)
          by Nowhere q = refl
          by (FromA i) q = as-it-lies y.first x z i (first-in i q)
          by (FromB i) q = as-it-lies (second-stands i q) x z i (second-in i q)
