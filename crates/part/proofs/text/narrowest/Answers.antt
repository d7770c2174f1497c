-- `part::text::narrowest` meets its contract: of a row with one width, no character has another.
use Rattle.std.proofs.Common.{◌≡◌, arith}
use Rattle.std.proofs.lemmas.Grind.{common_steps}
use Rattle.part.proofs.Lines.{fixed_least, least_of, row_least}
use Rattle.part.proofs.text.narrowest.Goals as goal

pub returns-then-is_fixed : goal.returns-then-is_fixed
returns-then-is_fixed c =
    let a = c.args in
    let own = c.own_width.ensures.0 in
    let less = c.min.ensures in
    rw (less, own) (fixed_least a.row.now (c.is_fixed.ensures c.if-is_fixed.true) a.space a.t.now (λ k. omega (arith, c.type_inv.t k)))

pub returns : goal.returns
returns c =
    let row = c.args.row.now in
    let space = c.args.space in
    let found : c.fold.result ≡ least_of row space space c.args.t.now = grind (arith, common_steps) in
    rw found (row_least row space space c.args.t.now (omega arith)).1
