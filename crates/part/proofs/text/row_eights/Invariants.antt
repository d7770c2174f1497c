-- `part::text::row_eights` meets its contract. The invariant: the widths of the eights so far are summed.
use Rattle.std.proofs.Common.{◌≡◌, ◌*◌, ◌≤◌, take, sum_by}
use Rattle.part.specs.Code.{row_widths}
use Rattle.part.proofs.text.row_eights.Given as goal

abbrev pub invariant-loop-e : goal.invariant-loop-e
invariant-loop-e l = (l.sum ≡ sum_by (row_widths l.row) (take l.e-index l.eights)) × (l.sum ≤ 524288 * l.e-index)
