-- `hub::drain::move_down` meets its contract: none is moved at first, then one block more in a turn, and at last the rest.
use Rattle.std.proofs.Common.{◌≡◌, ◌+◌, ◌-◌, ◌≤◌, length, drop, sym, ap, ◌∙◌, arith}
use lib.Seq.{paste}
use Rattle.hub.specs.Requests.{moved_down}
use Rattle.hub.proofs.Bytes.{moved_length}
use Rattle.hub.proofs.Moving.{stored, none_moved, moved_more}
use Rattle.hub.proofs.drain.move_down.Goals as goal

pub loop-k-init : goal.loop-k-init
loop-k-init c =
    let a = c.args in
    record { within = omega arith; moved = sym (none_moved a.area.now a.from (omega (arith, c.requires.0, c.requires.1))) }

pub loop-k-preserved : goal.loop-k-preserved
loop-k-preserved c =
    let a = c.args in
    let l = c.loop-k in
    let within : l.k + 64 ≤ a.to - a.from = omega (arith, c.loop-k-test.true) in
    let long = ap length l.invariant.moved ∙ moved_length a.area.now a.from (a.from + l.k) in
    record {
      within = within;
      moved =
          stored l.area _ l.k (a.from + l.k) 64 (omega (arith, within, long, c.requires.0, c.requires.1)) (c.copy_from_slice-in-loop-k.ensures.after ∙ c.copy_from_slice.ensures.after)
          ∙ moved_more a.area.now a.from l.k 64 (omega (arith, within, c.requires.0, c.requires.1)) l.area l.invariant.moved;
    }

pub returns : goal.returns
returns c =
    let a = c.args in
    let l = c.loop-k in
    c.copy_within.ensures.after
    ∙ ap (paste l.area l.k (drop (a.from + l.k) l.area)) (let z : a.to - (a.from + l.k) ≡ a.to - a.from - l.k = omega arith in z)
    ∙ moved_more a.area.now a.from l.k (a.to - a.from - l.k) (omega (arith, l.invariant.within, c.requires.0, c.requires.1)) l.area l.invariant.moved
    ∙ ap (moved_down a.area.now a.from) (let z : a.from + (l.k + (a.to - a.from - l.k)) ≡ a.to = omega (arith, l.invariant.within, c.requires.0) in z)
