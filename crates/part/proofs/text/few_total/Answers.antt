-- `part::text::few_total` meets its contract: no width is more than four bytes.
use Rattle.std.proofs.Common.{rules, arith}
use Rattle.part.proofs.Lines.{widths_most}
use Rattle.part.proofs.text.few_total.Goals as goal

pub returns : goal.returns
returns c = widths_most c.args.row.now c.fits-row c.args.t.now c.args.space (omega arith) (search rules)
