-- `part::interpret::added` meets its contract: what a whole run added is stored.
use Prim.Native.Nat.{◌-◌, ◌≤◌}
use Rattle.part.proofs.Answers.{stores}
use Rattle.part.specs.Code.{elements_in, AddedAll}
use Rattle.part.specs.Reading.{cut}
use borrow.Author.Rules.{rules}
use lib.ListN.{length, take, drop}
use lib.Seq.{sets}
use mathlib.Core.Path.{refl}
use native.Mathlib.Omega.{arith}
use Rattle.part.proofs.interpret.added.Goals as goal
use Rattle.part.proofs.interpret.added.Goals.{In_ok-count}

-- it lies between the bytes used before and after
stored : (c : In_ok-count) → (c.args.s.now.used ≤ c.run.new.s.used) × ((c.run.new.s.used ≤ length c.args.scratch.now)
    × AddedAll (elements_in (length c.args.scratch.now) c.args.widths.now c.args.d.now c.args.s.now (cut c.args.s.now.chain c.args.part.now)) (length (cut c.args.s.now.chain c.args.part.now)) c.args.area.now c.args.from c.in_ok-count.count c.run.new.s
    (sets c.args.area.now c.args.from (take (c.run.new.s.used - c.args.s.now.used) (drop c.args.s.now.used c.run.new.area))))
stored c =
    let a = c.args in
    stores (length a.scratch.now) a.widths.now a.d.now a.s.now (cut a.s.now.chain a.part.now) _ c.in_ok-count.count a.from a.scratch.now c.run.new.area a.area.now c.run.new.s c.requires.0.fits refl (search rules) c.in_ok-count.ensures

pub slice_bounds-store-count : goal.slice_bounds-store-count
slice_bounds-store-count c = (stored (goal.at.slice_bounds-store-count c).In_ok-count).0

pub slice_bounds-store-start : goal.slice_bounds-store-start
slice_bounds-store-start c =
    let done = stored (goal.at.slice_bounds-store-start c).In_ok-count in
    omega (arith, done.0, done.1.0, c.run.auto.area)

pub slice_bounds-store-end : goal.slice_bounds-store-end
slice_bounds-store-end c =
    let done = stored (goal.at.slice_bounds-store-end c).In_ok-count in
    omega (arith, done.0, done.1.0, c.run.auto.area)

pub returns : goal.returns
returns c = rw c.store.ensures (stored (goal.at.returns c).In_ok-count).1.1
