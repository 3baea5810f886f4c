-- What a bundle's reading gives to a recipe: its arrays are good, and their shapes are the paper's.
use Rattle.std.specs.Prelude.{ℕ, ◌≡◌, refl, List, [], ◌∷◌, map, get_or}
use Rattle.std.proofs.Common.{ap, arith}
use Rattle.paper.specs.declared.Head.{Head}
use Rattle.paper.specs.declared.Reading.{Reading}
use Rattle.paper.specs.Axes.{within, Shape, Array}
use Rattle.laws.specs.Tests.{and_left}
use Rattle.laws.specs.Answers.{no_head}
use Rattle.laws.specs.Lists.{get_d_any}
use Rattle.extent.specs.Judged.{good-small}
use Rattle.bundle.specs.Read.{array_at, Kept}
use Rattle.recipe.specs.Operands.{shape_in}
use Rattle.recipe.specs.Whole.{GoodArrays}

pub read-good : (bs : List ℕ) (r : Reading) → Kept bs r → GoodArrays r
read-good bs r v = record {
  room = v.room;
  few = v.few;
  small = λ j d h.
      let s = shape_in (get_or r.heads j no_head) in
      rw (← get_d_any r.heads j no_head d (omega (arith, v.room))) (record {
        small = good-small s.names s.axes (and_left _ (within s.axes s.maximum) (v.fit j h).good);
        few = v.ranks j h;
      });
}

pub read-shapes : (bs : List ℕ) (l : List Head) → map (λ (A : Array). A.shape) (map (array_at bs) l) ≡ map shape_in l
unfolding array_at
read-shapes bs [] = refl
read-shapes bs (h ∷ l) = ap (λ (m : List Shape). shape_in h ∷ m) (read-shapes bs l)
