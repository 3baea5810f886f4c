-- The part that is handed out, and the refusal beside it, as the paper has them.
use Rattle.std.specs.Prelude.{ℕ, ◌≡◌, List, [], ◌∷◌, Ok, Err}
use Rattle.paper.specs.declared.Part.{Part}
use Rattle.paper.specs.Refusals.{Res}
use Rattle.paper.specs.Stretch.{Side, stretch, handed_out}

-- a refusal's number, place and ordinality; number 0 stands for none
abbrev pub figures : Res Part → List ℕ
figures (Ok p) = 0 ∷ 0 ∷ 0 ∷ []
figures (Err x) = x.number ∷ x.place ∷ x.ordinality ∷ []

-- of the version told w: the bytes handed out and the figures beside them are the paper's
pub record Handed (w : ℕ) (L R : Side) (k o : ℕ) (out said : List ℕ) : Type 0 where
  pub bytes : out ≡ handed_out L R (stretch w L R k o)
  pub refusal : said ≡ figures (stretch w L R k o)
