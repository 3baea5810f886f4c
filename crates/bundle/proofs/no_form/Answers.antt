-- `bundle::no_form` meets its contract.
use Rattle.bundle.proofs.no_form.Goals as goal

pub returns : goal.returns
returns c = rw (c.empty-extent.ensures, c.no_names-names.ensures, c.empty-maximum.ensures)
