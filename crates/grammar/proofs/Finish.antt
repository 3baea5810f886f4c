-- Whatever is to come can be brought to an end: a shortest text for each part.
use Rattle.std.specs.Prelude.{◌≡◌, true, not, ◌&&◌, ◌||◌, List, [], ◌∷◌}
use Rattle.laws.specs.Tests.{and_left, and_right}
use Rattle.grammar.specs.Made.{Made, nothing}
use Rattle.paper.specs.Grammar.{Part}
use Rattle.grammar.specs.Tables.{loose, leads, full, sound}
use Rattle.grammar.specs.Finish.{finished, finish_all}

pub finished-all : (gs : List Part) → sound gs ≡ true → Made gs (finish_all gs)
unfolding finish_all sound
finished-all [] s = nothing
finished-all (g ∷ gs) s =
    let t : (full g && sound gs) ≡ true = and_right (not (loose g) || leads gs) (full g && sound gs) s in
    finished g gs (finish_all gs) (and_left (full g) (sound gs) t) (finished-all gs (and_right (full g) (sound gs) t))
