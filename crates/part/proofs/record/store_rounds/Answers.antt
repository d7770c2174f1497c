-- `part::record::store_rounds` meets its contract. The invariant: whole rounds, or all of them, are stored.
use mathlib.Core.Path.{◌≡◌, ◌∙◌}
use native.Mathlib.Nat.{mod_self}
use native.Mathlib.Omega.{arith}
use lib.ListN.{length}
use Rattle.part.proofs.Cycles.{once}
use Rattle.part.proofs.Stores.{rounds_step, doubled}
use Rattle.part.proofs.record.store_rounds.Goals as goal

pub loop-done-init : goal.loop-done-init
loop-done-init c =
    let t = c.args.text.now in
    record { begun = omega arith; within = omega arith; whole = λ _. mod_self (length t); stored = rw (once t) c.store.ensures }

pub loop-done-preserved : goal.loop-done-preserved
loop-done-preserved c =
    let i = c.loop-done.invariant in
    let t = c.args.text.now in
    let done = c.loop-done.done in
    let whole = i.whole c.loop-done-test.true in
    record {
      begun = omega arith;
      within = omega arith;
      whole = λ more. let same : c.min-more.result ≡ done = omega arith in rw same (doubled done (length t) whole);
      stored = c.copy_within.ensures.after ∙ rw i.stored (rounds_step c.args.area.now c.args.at t done c.min-more.result (omega arith) whole (omega arith));
    }
