-- `part::text::walk_cycle` meets its contract. The invariant: the rounds that are left and a last part of one end, from i, as all characters do from the start.
use Rattle.std.proofs.Common.{◌≡◌, ◌-◌, ◌/◌, ◌%◌, length, take, Err, rules, sym, ◌∙◌, arith}
use Rattle.part.proofs.Cycles.{split}
use Rattle.part.proofs.Lines.{round_on}
use Rattle.part.proofs.text.walk_cycle.Goals as goal

pub loop-init : goal.loop-init
loop-init c =
    let a = c.args in
    let all : a.count / length a.t.now - 0 ≡ a.count / length a.t.now = omega arith in
    rw (all, split a.t.now a.count c.requires)

pub returns-in_err-i : goal.returns-in_err-i
returns-in_err-i c =
    let a = c.args in
    let on = round_on a.row.now a.l a.t.now (take (a.count % length a.t.now) a.t.now) c.loop.counter (a.count / length a.t.now) c.loop.i c.loop-test.true in
    let left : c.from_residual.result ≡ Err c.in_err-i.field-0.0 = search rules in
    rw left (sym (rw (← c.in_err-i.ensures) at on) ∙ c.loop.invariant)

pub loop-preserved : goal.loop-preserved
loop-preserved c =
    let a = c.args in
    let on = round_on a.row.now a.l a.t.now (take (a.count % length a.t.now) a.t.now) c.loop.counter (a.count / length a.t.now) c.loop.i c.loop-test.true in
    sym (rw (← c.in_ok-i.ensures) at on) ∙ c.loop.invariant

pub returns : goal.returns
returns c =
    let a = c.args in
    let none : a.count / length a.t.now - c.loop.counter ≡ 0 = omega arith in
    c.walk-2.ensures ∙ rw none at c.loop.invariant
