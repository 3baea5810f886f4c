-- The text of an array, a bracket for each axis, gives its cells: those of one axis one by one, and with more axes layer by layer, each as
-- an array of one axis fewer.
use Prim.Native.Nat.{ℕ, zero, suc, ◌+◌, ◌*◌, ◌≤◌}
use Rattle.std.specs.Prelude.{◌≡◌, true, false, eqb, length, take, drop, replicate, pos, negsuc}
use Rattle.std.proofs.Math.Path.{refl}
use Rattle.std.proofs.Common.{sym, ap, ◌∙◌, arith, suc-mul, zero-mul, mul-one, length-take, length-drop, take-append-drop}
use mathlib.Core.List.{List, [], ◌∷◌, ◌++◌, map, append_assoc, append-nil}
use Rattle.paper.specs.declared.Axis.{Axis}
use Rattle.paper.specs.declared.Cell.{Cell}
use Rattle.paper.specs.declared.Cell.TheVariants.{Empty, Int, Float, Truth}
use Rattle.paper.specs.Limits.{FLOAT}
use Rattle.paper.specs.Numbers.{text, concat, alike}
use Rattle.paper.specs.Axes.{width, cells}
use Rattle.paper.specs.Rests.{decimal}
use Rattle.paper.specs.Grammar.{Part, among, blank, range, these, optional, rules, at, value, items, more_items}
use Rattle.paper.specs.Machine.{chosen, settled, move, fault_from}
use Rattle.paper.specs.Json.{cell_text, commas, json_array, layers, brackets}
use Rattle.paper.specs.JsonRead.{Due, opening, closing, cell, outer, token_of, tokens_from, fits, due}
use Rattle.laws.specs.Cells.{OfKind}
use Rattle.laws.specs.Limits.{Sound}
use Rattle.roundtrip.specs.Valid.{EachOfKind}
use Rattle.grammar.specs.Apart.{apart, apart_from, bytes_apart}
use Rattle.grammar.specs.Tables.{no_true}
use Rattle.json_trip.specs.Decimals.{Stops, comma, bracket, Number, nought, other, first-yes, digits_number}
use Rattle.json_trip.specs.Steps.{Quiet, Gives, quiet-gives, gives_gives, token-step, item-first}
use Rattle.json_trip.specs.Cells.{cell-gives, most}

-- ---- the marks between

module _ (t n : ℕ) (gs : List Part) (bs : List ℕ) (i : ℕ) where
  comma-quiet : Quiet i (at more_items n ∷ gs) (44 ∷ bs) (at value n ∷ at more_items n ∷ gs) bs
  unfolding fault_from tokens_from settled optional move rules chosen among token_of
  comma-quiet = record { place = i + 1; fault = refl; tokens = refl }

  close-gives : Gives t i (at more_items n ∷ gs) (93 ∷ bs) gs bs (closing ∷ []) []
  unfolding settled optional move rules chosen among token_of outer fits alike
  close-gives = token-step t i (at more_items n ∷ gs) 93 bs gs closing [] refl refl refl

  open_gives : Gives t i (at value (suc n) ∷ gs) (91 ∷ bs) (at items n ∷ gs) bs (opening ∷ []) []
  unfolding settled optional move rules chosen among token_of outer fits alike
  open_gives = token-step t i (at value (suc n) ∷ gs) 91 bs (at items n ∷ gs) opening [] refl refl refl

-- the first byte of a text is no blank and no closing bracket
data Solid : List ℕ → Type 0 where
  solid : {b : ℕ} {bs : List ℕ} → among blank b ≡ false → among (these "]") b ≡ false → Solid (b ∷ bs)

solid-more : {w : List ℕ} (v : List ℕ) → Solid w → Solid (w ++ v)
solid-more v (solid e f) = solid e f

solid-commas : (w : List ℕ) (ws : List (List ℕ)) → Solid w → Solid (commas (w ∷ ws))
unfolding commas
solid-commas w [] s = s
solid-commas w (v ∷ ws) s = solid-more (44 ∷ commas (v ∷ ws)) s

solid-item : (i n : ℕ) (gs : List Part) (w : List ℕ) → Solid w → Quiet i (at items n ∷ gs) w (at value n ∷ at more_items n ∷ gs) w
solid-item i n gs [] m = elim m [ ]
solid-item i n gs (b ∷ bs) (solid e f) = item-first i n gs b bs e f

-- ---- an array of items that give cells each, whatever the items are

abbrev Every : {X : Type 0} → (X → Type 0) → List X → Type 0
Every P [] = Unit {0}
Every P (x ∷ xs) = P x × Every P xs

-- an item's text, its cells, and which items are meant; each is solid and gives its cells as what is due, with a comma or a bracket after
-- it
module _ {X : Type 0} (F : X → List ℕ) (held : X → List Cell) (P : X → Type 0) (t n : ℕ) (gs : List Part) (ds : List Due)
    (s : (x : X) → P x → Solid (F x))
    (v : (c : ℕ) (bs : List ℕ) → Stops c → (i : ℕ) (x : X) → P x
    → Gives t i (at value n ∷ at more_items n ∷ gs) (F x ++ (c ∷ bs)) (at more_items n ∷ gs) (c ∷ bs) ds (held x))
    (bs : List ℕ) where
  -- the items, then the closing bracket
  items_give : (i : ℕ) (x : X) (xs : List X) → Every P (x ∷ xs)
      → Gives t i (at value n ∷ at more_items n ∷ gs) (commas (map F (x ∷ xs)) ++ (93 ∷ bs)) gs bs
      (concat (replicate (length (x ∷ xs)) ds) ++ (closing ∷ [])) (concat (map held (x ∷ xs)))
  unfolding commas concat
  items_give i x [] k =
      let g = v 93 bs bracket i x k.0 in
      rw (append-nil ds) (gives_gives g (close-gives t n gs bs g.place))
  items_give i x (y ∷ xs) k =
      let w : List ℕ = commas (map F (y ∷ xs)) ++ (93 ∷ bs) in
      let g = v 44 w comma i x k.0 in
      let m = comma-quiet t n gs w g.place in
      let h = quiet-gives m (items_give m.place y xs k.1) in
      rw (
        append_assoc (F x) (44 ∷ commas (map F (y ∷ xs))) (93 ∷ bs),
        append_assoc ds (concat (replicate (length (y ∷ xs)) ds)) (closing ∷ []),
      )
      (gives_gives g h)

  -- in brackets: w items, which together have these cells
  array-gives : (i : ℕ) (xs : List X) → 1 ≤ length xs → Every P xs → (w : ℕ) (cs : List Cell) → length xs ≡ w → concat (map held xs) ≡ cs
      → Gives t i (at value (suc n) ∷ gs) (json_array (map F xs) ++ bs) gs bs (opening ∷ (concat (replicate w ds) ++ (closing ∷ []))) cs
  array-gives i [] l k w cs e q = absurd (omega arith)
  array-gives i (x ∷ xs) l k w cs e q =
      let r : List ℕ = commas (map F (x ∷ xs)) ++ (93 ∷ bs) in
      let g = open_gives t n gs r i in
      let h = solid-item g.place n gs r (solid-more (93 ∷ bs) (solid-commas (F x) (map F xs) (s x k.0))) in
      rw (append_assoc (commas (map F (x ∷ xs))) (text "]") bs, ← e, ← q)
      (gives_gives g (quiet-gives h (items_give h.place x xs k)))

-- ---- cells as items

number-solid : {ds : List ℕ} → Number ds → Solid ds
unfolding among apart apart_from
number-solid nought = solid refl refl
number-solid (other {b = b} p q r) =
    solid (bytes_apart (range 0x31 0x39) blank b refl (first-yes b p q))
    (bytes_apart (range 0x31 0x39) (these "]") b refl (first-yes b p q))

cell-solid : (t : ℕ) → eqb t FLOAT ≡ false → (c : Cell) → OfKind t c → Solid (cell_text c)
unfolding cell_text OfKind among decimal
cell-solid t f Empty k = solid refl refl
cell-solid t f (Int (pos x)) k = number-solid (digits_number 19 x (most x k.1.sfits))
cell-solid t f (Int (negsuc x)) k = solid refl refl
cell-solid t f (Float x) k = let z : false ≡ true = sym f ∙ ap (λ (u : ℕ). eqb u FLOAT) k.0 in no_true z
cell-solid t f (Truth true) k = solid refl refl
cell-solid t f (Truth false) k = solid refl refl

every-cell : (t : ℕ) (cs : List Cell) → EachOfKind t cs → Every (OfKind t) cs
every-cell t [] k = tt
every-cell t (c ∷ cs) k = (k.0, every-cell t cs k.1)

singles : (cs : List Cell) → concat (map (λ c. c ∷ []) cs) ≡ cs
unfolding concat
singles [] = refl
singles (c ∷ cs) = ap (λ (l : List Cell). c ∷ l) (singles cs)

-- ---- layers as items

-- m cells of the type
abbrev Layer : ℕ → ℕ → List Cell → Type 0
Layer t m r = (length r ≡ m) × EachOfKind t r

kinds-take : (t m : ℕ) (cs : List Cell) → EachOfKind t cs → EachOfKind t (take m cs)
kinds-take t zero cs k = tt
kinds-take t (suc m) [] k = tt
kinds-take t (suc m) (c ∷ cs) k = (k.0, kinds-take t m cs k.1)

kinds-drop : (t m : ℕ) (cs : List Cell) → EachOfKind t cs → EachOfKind t (drop m cs)
kinds-drop t zero cs k = k
kinds-drop t (suc m) [] k = tt
kinds-drop t (suc m) (c ∷ cs) k = kinds-drop t m cs k.1

-- n layers of m cells each, which together are the cells
record Layered (t n m : ℕ) (cs : List Cell) : Type 0 where
  many : length (layers n m cs) ≡ n
  every : Every (Layer t m) (layers n m cs)
  joined : concat (map (λ r. r) (layers n m cs)) ≡ cs

layered : (t n m : ℕ) (cs : List Cell) → length cs ≡ n * m → EachOfKind t cs → Layered t n m cs
unfolding layers concat
layered t zero m [] e k = record { many = refl; every = tt; joined = refl }
layered t zero m (c ∷ cs) e k = absurd (omega (arith, zero-mul m))
layered t (suc n) m cs e k =
    let s : length cs ≡ n * m + m = e ∙ suc-mul n m in
    let v = layered t n m (drop m cs) (length-drop m cs ∙ (omega arith)) (kinds-drop t m cs k) in
    record {
      many = ap suc v.many;
      every = ((length-take m cs ∙ (omega arith), kinds-take t m cs k), v.every);
      joined = ap (λ (l : List Cell). take m cs ++ l) v.joined ∙ take-append-drop m cs;
    }

text-solid : (E : List Axis) (r : List Cell) → 1 ≤ length E → Solid (brackets E r)
unfolding brackets among
text-solid [] r l = absurd (omega arith)
text-solid (a ∷ []) r l = solid refl refl
text-solid (a ∷ b ∷ E) r l = solid refl refl

-- ---- arrays

-- the text of an array of one axis or more, nested at most n levels: whatever follows, it gives the cells
pub brackets-give : (t : ℕ) → eqb t FLOAT ≡ false → (E : List Axis) → Sound E → 1 ≤ length E → (n : ℕ) → length E ≤ n
    → (gs : List Part) (bs : List ℕ) (i : ℕ) (cs : List Cell) → length cs ≡ cells E → EachOfKind t cs
    → Gives t i (at value n ∷ gs) (brackets E cs ++ bs) gs bs (due E) cs
unfolding brackets due cells
brackets-give t f [] s l n d gs bs i cs e k = absurd (omega arith)
brackets-give t f (a ∷ E) s l zero d gs bs i cs e k = absurd (omega arith)
brackets-give t f (a ∷ []) s l (suc n) d gs bs i cs e k =
    let m : length cs ≡ width a = e ∙ mul-one (width a) in
    array-gives cell_text (λ c. c ∷ []) (OfKind t) t n gs (cell ∷ []) (cell-solid t f)
    (λ c ws p j x h. cell-gives t n gs c ws p f j x h) bs i cs
    (omega (arith, s.0)) (every-cell t cs k) (width a) cs m (singles cs)
brackets-give t f (a ∷ b ∷ E) s l (suc n) d gs bs i cs e k =
    let v = layered t (width a) (cells (b ∷ E)) cs e k in
    array-gives (brackets (b ∷ E)) (λ r. r) (Layer t (cells (b ∷ E))) t n gs (due (b ∷ E)) (λ r h. text-solid (b ∷ E) r (omega arith))
    (λ c ws p j r h. brackets-give t f (b ∷ E) s.2 (omega arith) n (omega arith) (at more_items n ∷ gs) (c ∷ ws) j r h.0 h.1)
    bs i (layers (width a) (cells (b ∷ E)) cs) (omega (arith, s.0, v.many)) v.every (width a) cs v.many v.joined
