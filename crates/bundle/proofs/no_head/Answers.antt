-- `bundle::no_head` meets its contract.
use Rattle.bundle.proofs.no_head.Goals as goal

pub returns : goal.returns
returns c = rw c.no_form-form.ensures
