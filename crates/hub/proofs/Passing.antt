-- What is known of an entry, and of the number beside it, where a request's checks have all passed.
-- Assumes nothing.
use Rattle.std.proofs.Common.{ℕ, ◌≡◌, ◌≤◌, Bool, true, false, List, refl, sym, arith}
use Rattle.std.specs.Prelude.{if◌then◌else◌}
use borrow.Author.Tests.{ltb-true, leb-true}
use lib.Dec.{leb}
use Rattle.part.specs.Checks.{Checked, fine, refuse, require}
use Rattle.part.specs.Ranges.{hold, descriptor_fields}
use Rattle.part.specs.declared.shapes.Descriptor.{Descriptor}
use Rattle.part.proofs.Checks.{value_of, first_of}
use Rattle.hub.specs.Entries.{all_written}
use Rattle.hub.specs.Requests.{may_open, may_submit, may_take, may_close, passes}
use Rattle.hub.specs.declared.jobs.Entry.{Entry}
use Rattle.hub.proofs.Deciding.{open_tests, submit_tests, take_tests, close_tests}
use Rattle.hub.proofs.Ranging.{used_low}
use Rattle.hub.proofs.Holding.{awaits}

-- a test that passed
pub passed : (t : Bool) (code : ℕ) → fine tt ≡ require t code → t ≡ true
passed true code is = refl
passed false code is = absurd (let z : ◌≡◌ {A = ℕ} 0 1 = cc in omega arith)

-- what is lent beside the entry, a number or an area, is as it was where a check refuses
pub stopped_same : {A : Type 0} (was other : A) (code : ℕ) (m : Checked Unit) → refuse code ≡ m → was ≡ (if passes m then other else was)
stopped_same was other code m is = rw (sym is)

-- the descriptor is in range, and one more can be counted
pub opens : (key : ℕ) (d : Descriptor) (stored : ℕ) (e : Entry) → fine tt ≡ may_open key d stored e → (hold (descriptor_fields d) ≡ true) × (stored ≤ 15)
opens key d stored e is =
    let t = value_of (may_open key d stored e) (open_tests key d stored e) (sym is) in
    (t.ranges, leb-true stored 15 t.grows)

-- one less can be counted
pub falls : (key stored : ℕ) (e : Entry) → fine tt ≡ may_close key stored e → 1 ≤ stored
falls key stored e is =
    let t = value_of (may_close key stored e) (close_tests key stored e) (sym is) in
    leb-true 1 stored (first_of (leb 1 stored) (leb stored 16) t.falls)

-- a part that may be placed has a number that can grow
pub next_low : (key number : ℕ) (e : Entry) → fine tt ≡ may_submit key number e → e.next ≤ 65535
next_low key number e is =
    let t = awaits key number e (value_of (may_submit key number e) (submit_tests key number e) (sym is)) in
    omega (arith, t.is_next, t.most)

-- what may be taken is there, and its total is one of 32 bits
pub record Takes (total : ℕ) (e : Entry) : Type 0 where
  pub above : e.taken ≤ total
  pub within : total ≤ all_written e
  pub inside : e.state.used ≤ 4096
  pub low : total ≤ 4294967295

pub takes : (key total : ℕ) (area : List ℕ) (e : Entry) → fine tt ≡ may_take key total area e → Takes total e
takes key total area e is =
    let t = value_of (may_take key total area e) (take_tests key total area e) (sym is) in
    let more = ltb-true e.taken total t.more in
    record { above = omega arith; within = leb-true total (all_written e) t.within; inside = used_low e key t.undamaged t.under; low = leb-true total 4294967295 t.low }
