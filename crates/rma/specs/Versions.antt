-- Packing, a stretch and reading JSON by heads, in the version told: the forms of the heads are the shapes that the version's sizes say.
use Rattle.std.specs.Prelude.{ℕ, ◌≡◌, List, length, Ok, Err, Result}
use Rattle.paper.specs.declared.Part.{Part}
use Rattle.std.proofs.Common.{ap, ◌∙◌}
use Rattle.paper.specs.declared.Version.{Version}
use Rattle.paper.specs.declared.Sizes.{Sizes}
use Rattle.paper.specs.declared.Cell.{Cell}
use Rattle.paper.specs.declared.Form.{Form}
use Rattle.paper.specs.declared.JsonRefusal.{JsonRefusal}
use Rattle.paper.specs.declared.JsonRefusal.TheVariants as Json
use Rattle.paper.specs.Limits.{sizes_of}
use Rattle.paper.specs.declared.Refusal.{Refusal}
use Rattle.paper.specs.Refusals.{Res, ◌>>=◌, refusal, bad_bytes1}
use Rattle.paper.specs.Bundle.{version_told, After, put_into}
use Rattle.paper.specs.Axes.{Shape}
use Rattle.paper.specs.Stretch.{stretch_in}
use Rattle.paper.specs.JsonRead.{cells_as, fill_with}
use Rattle.paper.specs.Answers.{shape_of, json_said}
use Rattle.laws.specs.Sizes.{fits}
use Rattle.laws.specs.Answers.{form_of}
use Rattle.pack.specs.Laid.{shapes_of}
use Rattle.pack.specs.Laying.{PackedAs}
use Rattle.stretch.specs.Sides.{sided}
use Rattle.stretch.specs.Plans.{StretchFound}
use Rattle.c_asked.specs.declared.Forms.{Forms}
use Rattle.c_asked.specs.Asked.{pack_heads, stretch_heads, side_shape, side_in}
use Rattle.c_asked.specs.Heads.{HeadsIn, heads-shapes, side-shape}

pub record HeadsPacked (w : ℕ) (heads cells out : List ℕ) (r : Res ℕ) (y : List ℕ) : Type 0 where
  pub said : r ≡ (pack_heads w heads cells out).answer
  pub wrote : y ≡ (pack_heads w heads cells out).buffer

module _ {w : ℕ} {heads cells out : List ℕ} where
  pub pack-told : (v : Version) {f : Forms} {r : Res ℕ} {y : List ℕ} → version_told w ≡ Ok (sizes_of v) → HeadsIn (sizes_of v) heads f
      → PackedAs (sizes_of v) (shapes_of f.count f.forms) cells out r y → HeadsPacked w heads cells out r y
  pack-told v {f} e h p =
      let s = heads-shapes (sizes_of v) (fits v) heads f h in
      record { said = rw (e, ← s) p.said; wrote = rw (e, ← s) p.wrote }

  pub pack-untold : {x : Refusal} → version_told w ≡ Err x → HeadsPacked w heads cells out (Err x) out
  unfolding put_into
  pack-untold e = record { said = rw e; wrote = rw e }

pub record HeadsStretched (w : ℕ) (left_head : List ℕ) (l : ℕ) (right_head : List ℕ) (r k o : ℕ) (a : Res Part) : Type 0 where
  pub said : (bs cs : List ℕ) → length bs ≡ l → length cs ≡ r → a ≡ stretch_heads w left_head bs right_head cs k o

-- the side that a form is lent as is the head's
side-told : (v : Version) (head cells : List ℕ) (f : Form) → f ≡ form_of (side_shape (sizes_of v) head)
    → sided f.kind f.names f.extent cells ≡ side_in (sizes_of v) head cells
side-told v head cells f e =
    ap (λ (g : Form). sided g.kind g.names g.extent cells) e
    ∙ ap (λ (s : Shape). record { type = s.type; names = s.names; axes = s.axes; bytes = cells }) (side-shape (sizes_of v) head (fits v))

module _ {w l r k o : ℕ} {left_head right_head : List ℕ} where
  pub stretch-told : (v : Version) {f g : Form} {a : Res Part} → version_told w ≡ Ok (sizes_of v)
      → f ≡ form_of (side_shape (sizes_of v) left_head) → g ≡ form_of (side_shape (sizes_of v) right_head)
      → StretchFound (stretch_in (sizes_of v)) f.kind f.names f.extent l g.kind g.names g.extent r k o a
      → HeadsStretched w left_head l right_head r k o a
  stretch-told v {f} {g} e p q s = record {
    said = λ bs cs m n. rw (e, ← side-told v left_head bs f p, ← side-told v right_head cs g q) (s.said bs cs m n);
  }

  pub stretch-untold : {x : Refusal} → version_told w ≡ Err x → HeadsStretched w left_head l right_head r k o (Err x)
  stretch-untold e = record { said = λ bs cs m n. rw e }

-- ---- reading JSON

-- the cells of an array of this shape that a text has, in a version
abbrev pub cells_of : Sizes → Shape → List ℕ → ℕ → Res (List Cell)
cells_of z s bs room = cells_as z s.type s.names s.axes bs room

-- a text into the cells of the array that a head describes, in the version told; the head's maximum is not looked at
abbrev pub json_by_head : ℕ → List ℕ → List ℕ → List ℕ → After
json_by_head v head bs cells =
    fill_with cells (version_told v >>= (λ z. cells_of z (side_shape z head) bs (length cells)))

pub record HeadRead (w : ℕ) (head bs cells : List ℕ) (r : Result ℕ JsonRefusal) (y : List ℕ) : Type 0 where
  pub said : json_said r ≡ (json_by_head w head bs cells).answer
  pub wrote : y ≡ (json_by_head w head bs cells).buffer

module _ {w : ℕ} {head bs cells : List ℕ} where
  pub json-told : (v : Version) {f : Form} {r : Result ℕ JsonRefusal} {y : List ℕ} → version_told w ≡ Ok (sizes_of v)
      → f ≡ form_of (side_shape (sizes_of v) head)
      → json_said r ≡ (fill_with cells (cells_of (sizes_of v) (shape_of f) bs (length cells))).answer
      → y ≡ (fill_with cells (cells_of (sizes_of v) (shape_of f) bs (length cells))).buffer → HeadRead w head bs cells r y
  json-told v {f} e p a b =
      let s : shape_of f ≡ side_shape (sizes_of v) head = ap shape_of p ∙ side-shape (sizes_of v) head (fits v) in
      record {
        said = rw e (a ∙ ap (λ (t : Shape). (fill_with cells (cells_of (sizes_of v) t bs (length cells))).answer) s);
        wrote = rw e (b ∙ ap (λ (t : Shape). (fill_with cells (cells_of (sizes_of v) t bs (length cells))).buffer) s);
      }

  pub json-untold : {x : Refusal} → version_told w ≡ Err x → HeadRead w head bs cells (Err (Json.Refused x)) cells
  unfolding fill_with
  json-untold e = record { said = rw e; wrote = rw e }
