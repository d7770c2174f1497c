-- `part::text::spaced` meets its contract: each X'40' takes the line's width for the row's.
use Rattle.std.proofs.Common.{arith}
use Rattle.part.proofs.Lines.{spaces_apart, widths_most}
use Rattle.part.proofs.text.spaced.Goals as goal

pub overflow_sub-result : goal.overflow_sub-result
overflow_sub-result c =
    let a = c.args in
    omega (arith, spaces_apart a.row.now a.space a.t.now c.requires.1 c.spaces-n.ensures.0 c.from-2.ensures)

pub returns : goal.returns
returns c =
    let a = c.args in
    widths_most a.row.now c.fits-row a.t.now a.space (omega arith) (omega (arith, spaces_apart a.row.now a.space a.t.now c.requires.1 c.spaces-n.ensures.0 c.from-2.ensures))
