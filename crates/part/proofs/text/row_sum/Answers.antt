-- `part::text::row_sum` meets its contract: no width is more than two bytes.
use Rattle.std.proofs.Common.{rules}
use Rattle.part.proofs.Lines.{row_most}
use Rattle.part.proofs.text.row_sum.Goals as goal

pub returns : goal.returns
returns c = row_most c.args.row.now c.fits-row c.args.t.now (search rules)
