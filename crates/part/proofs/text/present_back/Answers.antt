-- `part::text::present_back` meets its contract. Where no character is narrower than the adjustment, the sum is the end; any other text is walked.
use Rattle.std.proofs.Common.{sym}
use Rattle.part.proofs.Lines.{rising_far, rising_text}
use Rattle.part.proofs.text.present_back.Goals as goal

pub overflow_sub-far : goal.overflow_sub-far
overflow_sub-far c =
    let a = c.args in
    rising_far a.row.now a.l a.t.now a.start c.requires.counted.0 c.narrowest.ensures c.if-l-narrowest.true

pub returns-in-Some : goal.returns-in-Some
returns-in-Some c =
    let a = c.args in
    rw (c.in-Some.ensures.0) (sym (rising_text a.row.now a.l a.t.now a.start c.requires.counted.0 c.narrowest.ensures c.if-l-narrowest.true c.in-Some.ensures.1))
