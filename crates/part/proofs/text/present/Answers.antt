-- `part::text::present` meets its contract. Of a level line the sum of all widths is the end; any other is walked.
use Rattle.std.proofs.Common.{sym}
use Rattle.part.specs.Text.{cycle}
use Rattle.part.proofs.Cycles.{once, length-cycle}
use Rattle.part.proofs.Lines.{level}
use Rattle.part.proofs.text.present.Goals as goal

pub returns-in-Some : goal.returns-in-Some
returns-in-Some c =
    let a = c.args in
    let end = c.in-Some.ensures in
    rw (end.0) (sym (level a.row.now a.l a.start _ (cycle a.t.now 0 a.count) c.if-l-eq0.true (rw (← c.cycle_total.ensures.0, length-cycle a.t.now 0 a.count)) end.1))

pub returns-then-count-t : goal.returns-then-count-t
returns-then-count-t c = rw (c.if-count-t.true, once c.args.t.now) c.present_back.ensures
