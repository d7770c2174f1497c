-- `part::show::show_plain` meets its contract: plain text is where its sum says, and any other goes along its line.
use Prim.Native.Nat.{◌<◌}
use native.Mathlib.Omega.{arith}
use borrow.Author.Rules.{rules}
use lib.ListN.{length}
use Rattle.part.proofs.Cycles.{once}
use Rattle.part.proofs.Plains.{unhidden, reaches}
use Rattle.part.proofs.Shown.{text_shown}
use Rattle.part.proofs.show.show_plain.Goals as goal

pub returns-then-is_plain : goal.returns-then-is_plain
returns-then-is_plain c =
    let a = c.args in
    let s = a.s.now in
    let t = a.t.now in
    let end = c.plain_end-end.result in
    let plain = c.is_plain.ensures c.if-is_plain.true in
    let some : 0 < length t = search rules in
    let sum = rw (c.or_default-space.ensures, c.from.ensures, c.row_of-row.ensures) at c.plain_end-end.ensures in
    let reach = reaches a.widths.now a.d.now s end plain t (λ k. omega (arith, c.type_inv.t k)) sum in
    rw (text_shown (length a.area.now) a.widths.now a.d.now s t end some (unhidden a.widths.now a.d.now s end plain) reach) (rw (once t) at c.record_text.ensures)
