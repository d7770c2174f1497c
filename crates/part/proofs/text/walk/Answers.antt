-- `part::text::walk` meets its contract. The invariant: the characters that are left end, from i, as all do from the start.
use Rattle.std.proofs.Common.{◌≡◌, Err, rules, sym, ◌∙◌}
use Rattle.part.proofs.Lines.{goes_on, arrives}
use Rattle.part.proofs.text.walk.Goals as goal

pub returns-in_err-i : goal.returns-in_err-i
returns-in_err-i c =
    let a = c.args in
    let on = goes_on a.row.now a.l a.t.now c.loop-c.c-index c.loop-c.i c.loop-c-test.true c.width.ensures.0 in
    let left : c.from_residual.result ≡ Err c.in_err-i.field-0.0 = search rules in
    rw left (sym (rw (← c.in_err-i.ensures) at on) ∙ c.loop-c.invariant)

pub loop-c-preserved : goal.loop-c-preserved
loop-c-preserved c =
    let a = c.args in
    let on = goes_on a.row.now a.l a.t.now c.loop-c.c-index c.loop-c.i c.loop-c-test.true c.width.ensures.0 in
    sym (rw (← c.in_ok-i.ensures) at on) ∙ c.loop-c.invariant

pub returns : goal.returns
returns c =
    let a = c.args in
    sym (arrives a.row.now a.l a.t.now c.loop-c.c-index c.loop-c.i c.loop-c-test.false) ∙ c.loop-c.invariant
