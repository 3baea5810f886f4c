-- `decimal::put_text` meets its contract: all bytes are copied.
use Rattle.decimal.specs.Wrote.{copy-wrote}
use Rattle.decimal.proofs.put_text.Goals as goal

pub returns : goal.returns
returns c =
    let s = c.args in
    copy-wrote s.s.now s.out.now s.at _ c.copy_bytes.ensures
