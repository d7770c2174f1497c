-- `Entry::may_take` meets its contract: the bytes in use are no more than an area has.
use Rattle.std.proofs.Common.{sym, ◌∙◌, arith}
use Rattle.hub.proofs.Passing.{passed}
use Rattle.hub.proofs.Ranging.{used_low}
use borrow.Author.Tests.{not-true}
use lib.Seq.{length-take-le}
use Rattle.hub.proofs.jobs.Entry.may_take.Goals as goal

pub slice_bounds-meets-end : goal.slice_bounds-meets-end
slice_bounds-meets-end c =
    let a = c.args in
    let whole = sym c.is_damaged.ensures ∙ not-true _ (passed _ _ c.in_ok-require.ensures) in
    let under = sym c.is_open_under.ensures ∙ passed _ _ c.in_ok-require-2.ensures in
    sym (length-take-le a.self.now.state.used a.area.now (omega (arith, c.requires, used_low a.self.now a.key whole under)))
