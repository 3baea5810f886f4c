-- How the computed tables write their cases: axes, arrays, bundles and steps from the paper's own numbers, and answers as lists of
-- numbers, 0 and the values, or the refusal's number, place and ordinality.
use Rattle.std.specs.Prelude.{ℕ, Bool, true, ◌&&◌, List, [], ◌∷◌, ◌++◌, map, take, replicate, ℤ, pos, negsuc, Ok, Err}
use Rattle.paper.specs.Operators.{Answer}
use Prim.Native.String.{String}
use Rattle.std.specs.Int.{w32}
use Rattle.std.proofs.Common.{of_z}
use Rattle.paper.specs.declared.Sizes.{Sizes}
use Rattle.paper.specs.declared.Name.{Name}
use Rattle.paper.specs.declared.Axis.{Axis}
use Rattle.paper.specs.declared.Cell.{Cell}
use Rattle.paper.specs.declared.Cell.TheVariants.{Int}
use Rattle.paper.specs.declared.Totalled.{Totalled}
use Rattle.paper.specs.declared.Listed.{Listed}
use Rattle.paper.specs.Limits.{limit_bytes, version1}
use Rattle.paper.specs.Refusals.{Res, fault_no}
use Rattle.paper.specs.Numbers.{le_bytes, text, distance, from}
use Rattle.paper.specs.Axes.{limited, Array, shaped, result}
use Rattle.paper.specs.Bundle.{name_from, bundle_bytes}
use Rattle.paper.specs.Cells.{encode}

-- every line of a table holds
abbrev pub all : List Bool → Bool
all [] = true
all (b ∷ bs) = b && all bs

-- -1, -2
abbrev pub m1 : ℤ
m1 = negsuc 0

abbrev pub m2 : ℤ
m2 = negsuc 1

-- an axis with its name
pub record Given : Type 0 where
  pub name : Name
  pub axis : Axis

-- a name of up to sixteen letters
abbrev pub named : String → Name
named n = name_from (text n)

-- from its name and its limits
abbrev pub axis : String → ℤ → ℤ → Given
axis n l h = record { name = named n; axis = limited (distance l) (distance h) }

-- the axes alone
abbrev pub axes_in : List Given → List Axis
axes_in G = map (λ g. g.axis) G

-- an array with a declared maximum, and one with `*`
abbrev pub array_in : List Given → ℕ → List Given → List Cell → Array
array_in M t G cs = record { shape = shaped t (map (λ g. g.name) G) (axes_in G) (axes_in M); cells = cs }

abbrev pub array : ℕ → List Given → List Cell → Array
array t G cs = record { shape = result t (map (λ g. g.name) G) (axes_in G); cells = cs }

-- INT cells with these numbers; with the numbers k, k + 1 ..
abbrev pub ints : List ℤ → List Cell
ints zs = map Int zs

abbrev pub counted : ℕ → ℕ → List Cell
counted k n = map (λ i. Int (pos i)) (from k n)

-- a bundle of version 1
abbrev pub bundle_of : List Array → List ℕ
bundle_of As = bundle_bytes version1 As

-- a step from its four bytes and its detail, padded with zeros; one of version 1
abbrev pub step_for : Sizes → List ℕ → List ℕ → List ℕ
step_for z head detail = take z.step (head ++ (detail ++ replicate z.detail 0))

abbrev pub step : List ℕ → List ℕ → List ℕ
step head detail = step_for version1 head detail

-- signed 32-bit numbers as detail
abbrev pub numbers : List ℤ → List ℕ
numbers [] = []
numbers (z ∷ zs) = le_bytes limit_bytes (of_z w32 z) ++ numbers zs

-- ---- answers

abbrev pub said : {A : Type 0} → (A → List ℕ) → Res A → List ℕ
said f (Ok a) = 0 ∷ f a
said f (Err r) = r.number ∷ r.place ∷ r.ordinality ∷ []

-- a number; a cell; what an operator gives; a total; a page
abbrev pub one : ℕ → List ℕ
one n = n ∷ []

abbrev pub is : Cell → List ℕ
is c = 0 ∷ encode c

abbrev pub operated : Answer → List ℕ
operated (Ok c) = is c
operated (Err f) = fault_no f ∷ []

abbrev pub totalled : Totalled → List ℕ
totalled (Totalled.Count n) = n ∷ []
totalled (Totalled.Is c) = encode c

abbrev pub paged : Listed → List ℕ
paged l = l.written ∷ l.next.0 ∷ []
