-- Round trip of the functions `pack` and `bundle::read`, in each version, by what they promise: valid arrays packed and read are those arrays
-- (`packed-then-read`); valid bytes read and packed again from what the reading holds are those bytes (`read-then-packed`); and
-- whatever packing accepts is read back (`accepted-then-read`).
use Rattle.std.specs.Prelude.{ℕ, ◌+◌, ◌-◌, ◌≤◌, ◌≡◌, refl, List, [], ◌∷◌, ◌++◌, map, length, take, drop, replicate, Ok}
use Rattle.paper.specs.Refusals.{Res}
use Rattle.std.proofs.Common.{sym, ap, ap₂, ◌∙◌, arith, length-append, take_at}
use Rattle.std.proofs.lemmas.List.{length-map}
use Rattle.std.proofs.Math.Seq.{take-append_seam}
use Rattle.paper.specs.declared.Version.{Version}
use Rattle.paper.specs.declared.Form.{Form}
use Rattle.paper.specs.declared.Head.{Head}
use Rattle.paper.specs.declared.Reading.{Reading}
use Rattle.paper.specs.Limits.{most_arrays, most_axes, sizes_of}
use Rattle.paper.specs.Numbers.{concat, part, over}
use Rattle.paper.specs.Axes.{Shape, Array}
use Rattle.paper.specs.Bundle.{mark_bytes, version_told, version_in, sizes_in, read_bundle, bundle_bytes, After, pack}
use Rattle.paper.specs.Answers.{shape_of, lying_from, reading}
use Rattle.laws.specs.Lists.{map-take}
use Rattle.laws.specs.Answers.{form_of, form-shape, reading_of}
use Rattle.laws.specs.Numbers.{Bytes}
use Rattle.laws.specs.Sizes.{fits}
use Rattle.laws.specs.Tests.{between-true, got-one}
use Rattle.roundtrip.specs.Valid.{named-length, EachValid, AllValid, shapes, all_cells}
use Rattle.roundtrip.proofs.Packing.{AllNamed, bundle-back, version-back}
use Rattle.roundtrip.proofs.Lying.{Lying, reading-lies}
use Rattle.theorems.specs.Made.{ReadCall, reads, PackCall, Packs, packed_out, packs}
use Rattle.theorems.specs.Packed.{gave, pack-valid, read-pack, accepted-read}
use Rattle.bundle.specs.Read.{read_of, ReadAll}
use Rattle.bundle.specs.Whole.{head_said}
use Rattle.pack.specs.Laid.{no_form, within-alike, shapes_of, shapes-few, cell_room}
use Rattle.pack.specs.Laying.{PackedInto}
use Rattle.theorems.specs.Unique.{number-one}

-- packing gave these bytes: the answer is their number, and they are the first of the output buffer, whose other bytes stay
pub record Gave (bs out : List ℕ) (r : Res ℕ) (y : List ℕ) : Type 0 where
  pub answer : r ≡ Ok (length bs)
  pub buffer : y ≡ over bs out
  pub bytes : take (length bs) y ≡ bs

gave-by : (version : ℕ) (ss : List Shape) (cs bs out : List ℕ) (r : Res ℕ) (y : List ℕ) → PackedInto version ss cs out r y
    → pack version ss cs out ≡ gave bs out → Gave bs out r y
gave-by version ss cs bs out r y p e =
    let w : y ≡ over bs out = p.wrote ∙ ap (λ (q : After). q.buffer) e in
    record {
      answer = number-one r (Ok (length bs)) (p.said ∙ ap (λ (q : After). q.answer) e);
      buffer = w;
      bytes = rw w (take-append_seam bs (drop (length bs) out));
    }

-- ---- packed, then read

-- the forms of arrays, with nothing past the last
abbrev form_of_each : List Array → List Form
form_of_each As = map (λ A. form_of A.shape) As

abbrev pub forms_of : List Array → List Form
forms_of As = form_of_each As ++ replicate (most_arrays - length As) no_form

its-forms : (v : Version) (As : List Array) → EachValid (sizes_of v) As → map shape_of (form_of_each As) ≡ shapes As
its-forms w [] v = refl
its-forms w (A ∷ As) v =
    let n = named-length A.shape.names A.shape.axes v.0.names in
    let h : length A.shape.axes ≤ most_axes = omega
    (arith, (between-true (sizes_of w).axes (length A.shape.axes) v.0.rank).1, (fits w).axes) in
    let k = within-alike A.shape.axes A.shape.maximum v.0.in_maximum in
    ap₂ (λ (s : Shape) (l : List Shape). s ∷ l) (form-shape A.shape n h (omega arith)) (its-forms w As v.1)

forms-shapes : (v : Version) (As : List Array) → EachValid (sizes_of v) As → shapes_of (length As) (forms_of As) ≡ shapes As
forms-shapes w As v =
    let n = length-map As (λ (A : Array). form_of A.shape) in
    let rest = replicate (most_arrays - length As) no_form in
    shapes-few (length As) (forms_of As) (omega (arith, n, length-append (form_of_each As) rest))
    ∙ ap (map shape_of) (take_at (form_of_each As) rest (length As) n) ∙ its-forms w As v

-- what reading answers, where the bytes are a bundle's of that version
pub record ReadBack (v : Version) (bs : List ℕ) (As : List Array) (r : Res Reading) : Type 0 where
  pub arrays : read_of bs r ≡ Ok As
  pub figures : r ≡ reading_of v (Ok (lying_from (sizes_of v) (mark_bytes + 1) As))

read_back : (v : Version) (bs : List ℕ) (As : List Array) (r : Res Reading) → version_in bs ≡ v → ReadAll bs r → read_bundle bs ≡ Ok As
    → ReadBack v bs As r
unfolding reading
read_back v bs As r i h e =
    let q : reading bs ≡ Ok (lying_from (sizes_in bs) (mark_bytes + 1) As) = rw e in
    record {
      arrays = h.arrays ∙ e;
      figures = h.tidy ∙ ap (reading_of (version_in bs)) (h.said ∙ q)
          ∙ ap (λ (x : Version). reading_of x (Ok (lying_from (sizes_of x) (mark_bytes + 1) As))) i;
    }

-- `pack` called with a version, a valid list of arrays and room for them gives a bundle, and `read` called with its bytes gives that
-- version and those arrays
pub packed-then-read : (v : Version) (As : List Array) (out : List ℕ) → AllValid (sizes_of v) As
    → length (bundle_bytes (sizes_of v) As) ≤ length out
    → (p : PackCall) → Packs (sizes_of v).version (length As) (forms_of As) (all_cells As) out p
    → let y : List ℕ = take (length (bundle_bytes (sizes_of v) As)) (packed_out p) in
    Gave (bundle_bytes (sizes_of v) As) out p.answer (packed_out p)
    × ((r : ReadCall) → r.passed.0.now ≡ y → ReadBack v y As r.answer)
packed-then-read v As out h l p w =
    let g = gave-by (sizes_of v).version _ (all_cells As) (bundle_bytes (sizes_of v) As) out p.answer (packed_out p) (packs p w)
    (rw (forms-shapes v As h.each) (pack-valid v As out h l)) in
    (g, λ r q. read_back v _ As r.answer (rw g.bytes (version-back v As)) (reads r q) (rw g.bytes (bundle-back v As h)))

-- ---- read, then packed

-- what a reading holds of a bundle's bytes: its forms, and the bytes of their cells, in turn
abbrev pub forms_in : Reading → List Form
forms_in r = map (λ h. h.form) r.heads

abbrev pub cells_at : List ℕ → List Head → List ℕ
cells_at bs hs = concat (map (λ h. part h.at (cell_room h.form) bs) hs)

abbrev pub cells_held : List ℕ → Reading → List ℕ
cells_held bs r = cells_at bs (take r.count r.heads)

-- where arrays are said to lie, there they are: their shapes, and their cells
lying-held : (bs : List ℕ) (hs : List Head) (As : List Array) → Lying bs (map head_said hs) As
    → (map shape_of (map (λ h. h.form) hs) ≡ shapes As) × (cells_at bs hs ≡ all_cells As)
unfolding concat
lying-held bs [] [] v = (refl, refl)
lying-held bs [] (A ∷ As) v = absurd v
lying-held bs (h ∷ hs) [] v = absurd v
lying-held bs (h ∷ hs) (A ∷ As) v =
    let r = lying-held bs hs As v.3 in
    (ap₂ (λ (s : Shape) (l : List Shape). s ∷ l) v.0 r.0, ap₂ (λ (x y : List ℕ). x ++ y) v.2 r.1)

-- `read` called with bytes that it does not refuse, and `pack` with the version and what else the reading holds and room for it: those
-- bytes again
pub read-then-packed : (bs out : List ℕ) → Bytes bs → length bs ≤ length out → (c : ReadCall) → c.passed.0.now ≡ bs
    → (r : Reading) → c.answer ≡ Ok r
    → (p : PackCall) → Packs (sizes_of r.version).version r.count (forms_in r) (cells_held bs r) out p
    → Gave bs out p.answer (packed_out p)
read-then-packed bs out h l c is r a p k =
    let v : ReadAll bs (Ok r) = rw a at (reads c is) in
    let hs = take r.count r.heads in
    let w = reading-lies bs (map head_said hs) h (sym v.said) in
    let q = lying-held bs hs w.0 w.2 in
    let f = shapes-few r.count (forms_in r) (omega (arith, length-map r.heads (λ (h : Head). h.form), v.kept.room)) in
    let e : shapes_of r.count (forms_in r) ≡ shapes w.0 = f ∙ (rw (← map-take (λ h. h.form) r.count r.heads) q.0) in
    gave-by _ _ _ bs out p.answer (packed_out p) (packs p k) (rw (v.kept.version, e, q.1) (read-pack bs w.0 out h w.1 l))

-- ---- accepted, then read

-- whatever forms and cells `pack` accepts, with a name that fits its bytes for each axis, `read` gives back, in the version told
pub accepted-then-read : (version count : ℕ) (forms : List Form) (cs out : List ℕ) → Bytes cs → AllNamed (shapes_of count forms)
    → (n : ℕ) (p : PackCall) → Packs version count forms cs out p → p.answer ≡ Ok n → (r : ReadCall)
    → r.passed.0.now ≡ take n (packed_out p)
    → (v : Version) × (version_told version ≡ Ok (sizes_of v)) × (As : List Array) × (shapes As ≡ shapes_of count forms) × (all_cells As ≡ cs)
    × ReadBack v (take n (packed_out p)) As r.answer
accepted-then-read version count forms cs out h m n p k a r is =
    let q = packs p k in
    let s : Ok n ≡ (pack version (shapes_of count forms) cs out).answer = sym a ∙ q.said in
    let w = accepted-read version (shapes_of count forms) cs out n h m (sym s) in
    let b = w.back in
    let e = got-one b.0 n (sym b.1 ∙ sym s) in
    let i = ap (λ (u : List ℕ). version_in (take n u)) q.wrote ∙ (rw e at b.2) in
    let z = ap (λ (u : List ℕ). read_bundle (take n u)) q.wrote ∙ (rw e at b.3) in
    (w.version, w.told, w.arrays, w.its_shapes, w.its_cells, read_back w.version _ w.arrays r.answer i (reads r is) z)
