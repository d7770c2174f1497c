-- `hub::drain::meets` meets its contract. The invariant: the place is met just when it is from here on.
use Rattle.std.proofs.Common.{◌≡◌, ◌+◌, ◌-◌, ◌*◌, true, false, ◌&&◌, length, drop, get_or, refl, sym, ◌∙◌, arith, rules}
use Rattle.hub.proofs.Boundaries.{no_step, near_end, a_step, one_step, at_place}
use Rattle.part.specs.Records.{boundaries}
use lib.Dec.{leb}
use Rattle.hub.proofs.drain.meets.Goals as goal

pub loop-at-init : goal.loop-at-init
unfolding boundaries
loop-at-init c = (omega arith, (length c.args.bytes.now, (omega arith, refl)))

pub returns-then-left-lt16 : goal.returns-then-left-lt16
returns-then-left-lt16 c =
    let a = c.args in
    let l = c.loop-at in
    sym (l.invariant.1.1.1 ∙ near_end a.bytes.now a.place l.at l.invariant.0 c.loop-at-test.true l.invariant.1.0 c.if-left-lt16.true)

pub returns-then-not-contains : goal.returns-then-not-contains
returns-then-not-contains c =
    let a = c.args in
    let l = c.loop-at in
    let b = a.bytes.now in
    let n : c.from_le_bytes.result ≡ get_or b l.at 0 + 256 * get_or b (l.at + 1) 0 = omega (arith, c.from_le_bytes.ensures) in
    let said : (leb 16 c.from_le_bytes.result && leb c.from_le_bytes.result (length b - l.at)) ≡ false = search rules in
    sym (l.invariant.1.1.1 ∙ no_step b a.place l.at l.invariant.0 c.loop-at-test.true l.invariant.1.0 (rw n at said))

pub loop-at-preserved : goal.loop-at-preserved
loop-at-preserved c =
    let a = c.args in
    let l = c.loop-at in
    let b = a.bytes.now in
    let far = c.loop-at-test.true in
    let n : c.from_le_bytes.result ≡ get_or b l.at 0 + 256 * get_or b (l.at + 1) 0 = omega (arith, c.from_le_bytes.ensures) in
    let said : (leb 16 c.from_le_bytes.result && leb c.from_le_bytes.result (length b - l.at)) ≡ true = search rules in
    let said' = rw n at said in
    let s = one_step b a.place l.at l.invariant.0 far l.invariant.1.0 l.invariant.1.1.0 said' in
    rw n ((a_step b a.place l.at l.invariant.0 far said').1, (s.0, (s.1, l.invariant.1.1.1 ∙ s.2)))

pub returns : goal.returns
returns c =
    let l = c.loop-at in
    let a = c.args in
    sym (l.invariant.1.1.1 ∙ at_place l.invariant.1.0 a.place l.at (drop l.at a.bytes.now) c.loop-at-test.false)
