-- `rests::print_text` meets its contract: the buffers have the lengths that `report` asks, and what it wrote lies in its buffer.
use Rattle.std.proofs.Common.{ℕ, sym, length-take-le}
use Rattle.std.proofs.Math.Nat.{le_of_eq}
use Rattle.std.proofs.lemmas.List.{length-replicate}
use Rattle.paper.specs.Rests.{most_bytes, all_rows}
use Rattle.report.specs.Texts.{most_text}
use Rattle.rests.proofs.print_text.Goals as goal

pub slice_bounds-report-end-3 : goal.slice_bounds-report-end-3
slice_bounds-report-end-3 g c = sym (length-replicate {A = ℕ} most_text 0)

pub report-n-requires : goal.report-n-requires
report-n-requires g c =
    (length-replicate {A = ℕ} most_bytes 0, length-replicate {A = ℕ} all_rows 0, le_of_eq (sym (length-replicate {A = ℕ} most_text 0)))

pub slice_bounds-out-end : goal.slice_bounds-out-end
slice_bounds-out-end g c = c.report-n.ensures.1

pub slice_bounds-write_all-end : goal.slice_bounds-write_all-end
slice_bounds-write_all-end g c = sym (length-take-le c.report-n.result _ c.report-n.ensures.1)
