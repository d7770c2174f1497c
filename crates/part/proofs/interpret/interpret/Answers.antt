-- `part::interpret::interpret` meets its contract: what was tested first, and no bytes.
use Rattle.part.proofs.Answers.{refused-first, empty}
use borrow.Author.Tests.{eqb-true}
use mathlib.Core.Path.{sym, ◌∙◌}
use Rattle.part.proofs.interpret.interpret.Goals as goal

pub returns-in-Err : goal.returns-in-Err
returns-in-Err c =
    let a = c.args in
    let r = refused-first a.widths.now a.d a.s a.part.now a.area.now c.in-Err.why c.in-Err.ensures in
    record { value = c.refused.ensures ∙ r.0; area_after = r.1 }

pub returns-then-is_empty : goal.returns-then-is_empty
returns-then-is_empty c =
    let a = c.args in
    let e = empty a.widths.now a.d a.s a.part.now a.area.now (eqb-true _ _ (sym c.if-is_empty.ensures)) c.in_default.ensures in
    record { value = e.0; area_after = e.1 }
