-- `c_told::text_refused` meets its contract: the byte is told as an ordinality.
use Rattle.c_told.proofs.text_refused.Goals as goal

pub returns : goal.returns
returns c = rw c.place_told-ordinality.ensures at c.refused.ensures
