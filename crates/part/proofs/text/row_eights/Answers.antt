-- `part::text::row_eights` meets its contract. The invariant: the widths of the eights so far are summed.
use Rattle.std.proofs.Common.{◌≡◌, ◌/◌, [], length, get_or, arith}
use Rattle.std.proofs.lemmas.List.{take_all}
use Rattle.std.proofs.lemmas.List.Sums.{sum_by_more}
use Rattle.part.specs.Code.{row_widths}
use Rattle.part.proofs.Lines.{sum_eight, sum_chunks, row_most}
use Rattle.part.proofs.text.row_eights.Goals as goal

pub loop-e-preserved : goal.loop-e-preserved
loop-e-preserved c =
    let row = c.args.row.now in
    let eights = c.as_chunks.result.0.now in
    let e = get_or eights c.loop-e.e-index [] in
    let long : length e ≡ 8 = omega arith in
    let more = sum_by_more (row_widths row) eights c.loop-e.e-index [] c.loop-e-test.true in
    let eight = sum_eight (λ x. get_or row x 0) e long in
    (omega arith, omega arith)

pub returns : goal.returns
returns c =
    let row = c.args.row.now in
    let t = c.args.t.now in
    let summed = rw (take_all c.loop-e.e-index c.as_chunks.result.0.now c.loop-e-test.false, c.as_chunks.ensures.front) at c.loop-e.invariant.0 in
    let left = rw c.as_chunks.ensures.back at c.row_sum.ensures.0 in
    row_most row c.fits-row t (omega (arith, sum_chunks (λ x. get_or row x 0) 8 (length t / 8) t))
