-- The form judged, the text read, the caller's buffer filled: together the paper's reading.
use Rattle.std.specs.Prelude.{ℕ, ◌+◌, ◌*◌, ◌≤◌, ◌<◌, ◌≡◌, Bool, not, ◌&&◌, eqb, take, Result, Ok, Err}
use Rattle.std.proofs.Math.Path.{refl, sym, ap, subst}
use Rattle.std.proofs.Common.{◌∙◌}
use Rattle.std.proofs.Math.Bool.{true, false}
use mathlib.Core.List.{List, ◌++◌}
use native.Mathlib.Omega.{arith}
use borrow.Author.Tests.{le-leb, lt-leb}
use Rattle.std.proofs.Math.Dec.{leb}
use Rattle.std.proofs.Math.ListN.{length, drop}
use Rattle.paper.specs.declared.Axis.{Axis}
use Rattle.paper.specs.declared.Name.{Name}
use Rattle.paper.specs.declared.Cell.{Cell}
use Rattle.paper.specs.declared.Sizes.{Sizes}
use Rattle.paper.specs.declared.Refusal.{Refusal}
use Rattle.paper.specs.declared.JsonRefusal.{JsonRefusal}
use Rattle.paper.specs.declared.JsonRefusal.TheVariants as Json
use Rattle.paper.specs.Limits.{FLOAT, most_cells, cell_bytes}
use Rattle.versions.specs.Told.{untold}
use Rattle.paper.specs.Refusals.{Res, ◌>>=◌, ◌>>◌, ensure, refusal, between, bad_bytes1, bad_extent2, unfit7, small_output14}
use Rattle.paper.specs.Refusals.{not_json15, misfit16}
use Rattle.paper.specs.Numbers.{part, over}
use Rattle.paper.specs.Axes.{cells, good_extent}
use Rattle.paper.specs.Cells.{is_type}
use Rattle.paper.specs.Bundle.{After, version_told, names_fit}
use Rattle.paper.specs.JsonRead.{Token, data_of, due, fitted, cells_as, cells_in, fill_with, read_json}
use Rattle.paper.specs.Answers.{json_said, json_exact}
use Rattle.laws.specs.Tests.{bind-got}
use Rattle.form.specs.Judged.{form_cells, formed}
use Rattle.json_read.specs.declared.scan.TextFault.TheVariants as Fault
use Rattle.json_read.specs.declared.scan.TextFault.{TextFault}
use Rattle.json_read.specs.Scan.{refusal_of, whole_of, AllRoom, CellsFound, ScanFound}

-- ---- what the caller names

unfoldable pub form_tests : Sizes → ℕ → List Name → List Axis → Res (Unit {0})
form_tests z t N E = form_cells z t N E 0 >>= λ n. ensure (not (eqb t FLOAT)) unfit7 0

-- ---- the caller's buffer

pub record HasCells (room n : ℕ) : Type 0 where
  pub few : n ≤ most_cells
  pub enough : n * cell_bytes ≤ room

-- n cells put there, or no room for them
abbrev pub Filled : List ℕ → ℕ → List ℕ → Res (Unit {0}) → List ℕ → Type 0
Filled found n buffer (Ok u) after = (n * cell_bytes ≤ length buffer) × (after ≡ over (take (n * cell_bytes) found) buffer)
Filled found n buffer (Err x) after = (length buffer < n * cell_bytes) × (x ≡ refusal small_output14 0 0) × (after ≡ buffer)

pub filled-so : (found : List ℕ) (n : ℕ) (buffer after : List ℕ) → n * cell_bytes ≤ length buffer → n * cell_bytes ≤ length found
    → after ≡ take 0 buffer ++ part 0 (n * cell_bytes) found ++ drop (0 + length (part 0 (n * cell_bytes) found)) buffer
    → Filled found n buffer (Ok tt) after
filled-so found n buffer after h k p =
    let z : 0 + length (part 0 (n * cell_bytes) found) ≡ length (part 0 (n * cell_bytes) found) = omega arith in
    (h, p ∙ ap (λ (m : ℕ). part 0 (n * cell_bytes) found ++ drop m buffer) z)

-- ---- the paper's order

abbrev filling : List Axis → ℕ → List Cell → Res (List Cell)
filling E room cs = ensure (leb (cells E * cell_bytes) room) small_output14 0 >> Ok cs

in_order : (z : Sizes) (t : ℕ) (N : List Name) (E : List Axis) (bs : List ℕ) (room : ℕ)
    → cells_as z t N E bs room ≡ (form_tests z t N E >> (whole_of t E bs >>= filling E room))
unfolding cells_as form_tests form_cells
in_order z t N E bs room = by (is_type t && between 1 z.axes (length E)) (names_fit z N && good_extent N E) (not (eqb t FLOAT)) (data_of bs)
  where
    by : (p q r : Bool) (m : Res (List Token))
        → (ensure p bad_bytes1 0 >> (ensure q bad_extent2 0 >> (ensure r unfit7 0 >> (m >>= (λ ks. fitted t (due E) ks >>= filling E room)))))
        ≡ (((ensure p bad_bytes1 0 >> (ensure q bad_extent2 0 >> Ok (cells E))) >>= λ n. ensure r unfit7 0) >> ((m >>= fitted t (due E)) >>= filling E room))
    by false q r m = refl
    by true false r m = refl
    by true true false m = refl
    by true true true (Ok ks) = refl
    by true true true (Err x) = refl

-- the number of a refusal, 0 where there is none
abbrev number_of : {A : Type 0} → Res A → ℕ
number_of (Ok a) = 0
number_of (Err x) = x.number

-- what the call promises
abbrev pub Said : Result ℕ JsonRefusal → List ℕ → After → Type 0
Said r after p = (json_said r ≡ p.answer) × (after ≡ p.buffer) × json_exact r

-- the form is refused with 1, 2 or 7
form-number : (p q r : Bool) (n : ℕ) (x : Refusal)
    → ((ensure p bad_bytes1 0 >> (ensure q bad_extent2 0 >> Ok n)) >>= λ m. ensure r unfit7 0) ≡ Err x → x.number ≤ 7
form-number false q r n x e = let z : x.number ≡ 1 = sym (ap number_of e) in omega arith
form-number true false r n x e = let z : x.number ≡ 2 = sym (ap number_of e) in omega arith
form-number true true false n x e = let z : x.number ≡ 7 = sym (ap number_of e) in omega arith
form-number true true true n x e = let z : x.number ≡ 0 = sym (ap number_of e) in omega arith

module _ (z : Sizes) (t : ℕ) (N : List Name) (E : List Axis) (bs buffer : List ℕ) where
  abbrev paper : After
  paper = fill_with buffer (cells_as z t N E bs (length buffer))

  form-few : {x : Refusal} → form_tests z t N E ≡ Err x → x.number ≤ 7
  unfolding form_tests form_cells
  form-few {x} q = form-number (is_type t && between 1 z.axes (length E)) (names_fit z N && good_extent N E) (not (eqb t FLOAT)) (cells E) x q

  -- the form is refused
  pub form-refused : {x : Refusal} → form_tests z t N E ≡ Err x → Said (Err (Json.Refused x)) buffer paper
  unfolding fill_with
  form-refused {x} q =
      let k : cells_as z t N E bs (length buffer) ≡ Err x =
      in_order z t N E bs (length buffer) ∙ ap (λ (m : Res (Unit {0})). m >> (whole_of t E bs >>= filling E (length buffer))) q in
      let n = form-few q in
      rw k (refl, refl, ((λ w. omega (arith, w, n)), (λ w. omega (arith, w, n))))

  module _ (passed : form_tests z t N E ≡ Ok tt) where
    pub form-room : (room : ℕ) → room ≡ most_cells * cell_bytes → AllRoom E room
    unfolding form_tests
    form-room room q =
        let a = bind-got (form_cells z t N E 0) _ tt passed in
        let g = formed z t N E 0 a.0 a.1 in
        record { sound = g.small.sound; few = g.small.few; some-axis = g.some-axis; all_room = q }

    to-text : cells_as z t N E bs (length buffer) ≡ (whole_of t E bs >>= filling E (length buffer))
    to-text =
        in_order z t N E bs (length buffer)
        ∙ ap (λ (m : Res (Unit {0})). m >> (whole_of t E bs >>= filling E (length buffer))) passed

    refused-so : (y : Refusal) → whole_of t E bs ≡ Err y → (r : Result ℕ JsonRefusal) → json_said r ≡ Err y → json_exact r → Said r buffer paper
    unfolding fill_with
    refused-so y w r s v =
        let k : cells_as z t N E bs (length buffer) ≡ Err y = to-text
        ∙ ap (λ (m : Res (List Cell)). m >>= filling E (length buffer)) w in
        rw k (s, refl, v)

    pub fault-said : (out : List ℕ) (y : TextFault) → ScanFound t E bs out (Err y) → Said (Err (refusal_of y)) buffer paper
    unfolding ScanFound
    fault-said out (Fault.NotJson i) w = refused-so (refusal not_json15 0 i) w (Err (Json.NotJson i)) refl tt
    fault-said out (Fault.Misfit i) w = refused-so (refusal misfit16 0 i) w (Err (Json.Misfit i)) refl tt

    module _ (out : List ℕ) (n : ℕ) (w : ScanFound t E bs out (Ok n)) where
      the-cells : CellsFound t E bs out n
      unfolding ScanFound
      the-cells = w

      pub has_cells : (room : ℕ) → room ≡ most_cells * cell_bytes → HasCells room n
      has_cells room q =
          let a = (form-room room q).few in
          let b = the-cells.full in
          let k : n ≤ most_cells = omega arith in
          record { few = k; enough = omega (arith, k, q) }

      cs : List Cell
      cs = the-cells.found

      to-cells : (p : Bool) → leb (n * cell_bytes) (length buffer) ≡ p
          → cells_as z t N E bs (length buffer) ≡ (ensure p small_output14 0 >> Ok cs)
      unfolding cs
      to-cells p q =
          to-text ∙ (ap (λ (m : Res (List Cell)). m >>= filling E (length buffer)) the-cells.whole
          ∙ (ap (λ (k : ℕ). ensure (leb (k * cell_bytes) (length buffer)) small_output14 0 >> Ok the-cells.found) (sym the-cells.full)
          ∙ ap (λ (b : Bool). ensure b small_output14 0 >> Ok the-cells.found) q))

      pub cells-said : (after : List ℕ) → Filled out n buffer (Ok tt) after → Said (Ok n) after paper
      unfolding fill_with cs
      cells-said after v =
          rw (to-cells true (le-leb (n * cell_bytes) (length buffer) v.0))
          (ap Ok the-cells.number, v.1 ∙ ap (λ (l : List ℕ). over l buffer) the-cells.held, tt)

      pub short-said : {x : Refusal} (after : List ℕ) → Filled out n buffer (Err x) after → Said (Err (Json.Refused x)) after paper
      unfolding fill_with
      short-said after v = rw (to-cells false (lt-leb (n * cell_bytes) (length buffer) v.0), v.1) (refl, v.2, ((λ w. omega arith), (λ w. omega arith)))

-- in a version that is told, and in no other
pub told-said : (v : ℕ) (z : Sizes) (t : ℕ) (N : List Name) (E : List Axis) (bs buffer : List ℕ) (r : Result ℕ JsonRefusal) (after : List ℕ)
    → version_told v ≡ Ok z
    → Said r after (fill_with buffer (cells_as z t N E bs (length buffer))) → Said r after (read_json v t N E bs buffer)
unfolding cells_in
told-said v z t N E bs buffer r after e s = rw e s

pub unknown-said : (v t : ℕ) (N : List Name) (E : List Axis) (bs buffer : List ℕ) (r : Result ℕ JsonRefusal)
    → {x : Refusal} → version_told v ≡ Err x → r ≡ Err (Json.Refused x) → Said r buffer (read_json v t N E bs buffer)
unfolding cells_in fill_with
unknown-said v t N E bs buffer r {x} e q =
    let n : x.number ≡ bad_bytes1 = ap (λ (y : Refusal). y.number) (untold v (sym e)) in
    rw e (ap json_said q, refl, subst json_exact (sym q) ((λ w. omega (arith, n, w)), (λ w. omega (arith, n, w))))
