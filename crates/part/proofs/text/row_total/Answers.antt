-- `part::text::row_total` meets its contract: characters of one width are a product.
use Rattle.std.proofs.Common.{sym, arith}
use Rattle.part.proofs.Lines.{fixed_sum, row_most}
use Rattle.part.proofs.text.row_total.Goals as goal

pub returns-then-is_fixed : goal.returns-then-is_fixed
returns-then-is_fixed c =
    let row = c.args.row.now in
    let t = c.args.t.now in
    row_most row c.fits-row t (rw (c.own_width.ensures.0) (sym (fixed_sum row (c.is_fixed.ensures c.if-is_fixed.true) t (λ k. omega (arith, c.type_inv.t k)))))
