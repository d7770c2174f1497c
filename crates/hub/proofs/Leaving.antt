-- Every code but 0 leaves all that was lent untouched; with 0, everything not named stays.
-- Assumes nothing.
use Prim.Native.Nat.{ℕ, ◌-◌}
use mathlib.Core.Path.{◌≡◌, refl, sym}
use mathlib.Core.List.{List}
use native.Mathlib.Omega.{arith}
use lib.ListN.{get_or, drop, length-take}
use lib.Dec.{leb}
use borrow.Author.Tests.{ltb-true, leb-true, eqb-false}
use Rattle.part.specs.Reading.{between}
use Rattle.part.specs.Records.{all_bytes}
use Rattle.part.proofs.Accepting.{accepted}
use Rattle.part.proofs.Checks.{first_of}
use Rattle.hub.specs.Entries.{all_written}
use Rattle.hub.specs.Requests.{opening, closing, one_more, one_less, submitting, area_filled, taking, area_left, area_of, Hub, Request, Open, Submit, Take, Close, slot_of, step}
use Rattle.hub.specs.Histories.{entry_of}
use Rattle.hub.specs.Promises.{Writes, Stays, Counted, OnlyItsOwn, Untouched}
use Rattle.hub.proofs.Bytes.{area_outside, between-fits}
use Rattle.hub.proofs.Reaching.{table-size, records-size, other_entry}
use Rattle.hub.proofs.Deciding.{Here, there, whole, take_whole, Passed, Decision, refused, done, decision}

module _ (widths : List ℕ) (h : Hub) where
  -- its own entry
  entry-left : (r : Request) → Here widths h r → Passed widths h r → Stays r (entry_of h (slot_of r)) (entry_of (step widths h r).after (slot_of r))
  unfolding opening closing submitting taking
  entry-left (Open slot key d) x passed = tt
  entry-left (Submit slot key number part) x passed = rw (there widths h (Submit slot key number part) x, passed.0, passed.2) (refl, refl, refl, refl)
  entry-left (Take slot key total) x passed =
      let e = entry_of h slot in
      let within = leb-true total (all_written e) passed.1.within in
      rw (there widths h (Take slot key total) x, passed.0) (refl, omega arith)
  entry-left (Close slot key) x passed = rw (there widths h (Close slot key) x, passed.0) (refl, refl, refl, refl, refl)

  -- the record bytes
  bytes_left : (r : Request) → Here widths h r → Passed widths h r → (at : ℕ)
      → (Writes r (entry_of h (slot_of r)) (entry_of (step widths h r).after (slot_of r)) at → ⊥) → get_or (step widths h r).after.records at 0 ≡ get_or h.records at 0
  unfolding submitting area_filled taking area_left
  bytes_left (Open slot key d) x passed at apart = rw x.leaves
  bytes_left (Submit slot key number part) x passed at apart =
      let e = entry_of h slot in
      let (f, taken) = accepted widths e.descriptor e.state part (area_of h.records slot) passed.2 in
      let grows = taken.grows in
      rw (x.leaves, passed.0, taken.its_area)
      (area_outside h.records slot (whole widths h slot key number part x) x.low e.state.used (all_bytes f.items) taken.fits at
      λ a b. apart (a, rw (there widths h (Submit slot key number part) x, passed.0, passed.2, taken.its_state) (omega arith)))
  bytes_left (Take slot key total) x passed at apart =
      let e = entry_of h slot in
      let area = area_of h.records slot in
      let more = ltb-true e.taken total passed.1.more in
      let unread = between area (total - e.taken) e.state.used in
      let size = length-take (e.state.used - (total - e.taken)) (drop (total - e.taken) area) in
      rw (x.leaves, passed.0)
      (area_outside h.records slot (take_whole widths h slot key total x) x.low 0 unread (between-fits area (total - e.taken) e.state.used) at
      λ a b. apart (omega arith, rw (there widths h (Take slot key total) x, passed.0) (omega arith)))
  bytes_left (Close slot key) x passed at apart = rw x.leaves

  -- the stored number
  number-left : (r : Request) → Here widths h r → Passed widths h r → Counted r h.stored (step widths h r).after.stored
  unfolding one_more one_less
  number-left (Open slot key d) x passed = rw (x.leaves, passed.0)
  number-left (Submit slot key number part) x passed = rw x.leaves
  number-left (Take slot key total) x passed = rw x.leaves
  number-left (Close slot key) x passed =
      let some = leb-true 1 h.stored (first_of (leb 1 h.stored) (leb h.stored 16) passed.1.falls) in
      rw (x.leaves, passed.0) (omega arith)

  pub refused-stays : (r : Request) → ((step widths h r).answer.code ≡ 0 → ⊥) → (step widths h r).after ≡ h
  refused-stays r k = go (decision widths h r)
    where
      go : Decision widths h r → (step widths h r).after ≡ h
      go (refused q same) = same
      go (done zero x passed) = absurd (k zero)

  pub accepted-stays : (r : Request) → (step widths h r).answer.code ≡ 0 → OnlyItsOwn r h (step widths h r).after
  accepted-stays r zero = go (decision widths h r)
    where
      go : Decision widths h r → OnlyItsOwn r h (step widths h r).after
      go (refused q same) = absurd (eqb-false _ 0 q zero)
      go (done _ x passed) = record {
        entries = λ slot n. other_entry widths h r slot (λ e. n (sym e));
        its_entry = entry-left r x passed;
        bytes = bytes_left r x passed;
        number = number-left r x passed;
        table_size = table-size widths h r;
        records_size = records-size widths h r;
      }

pub untouched : Untouched
untouched = record { refused = refused-stays; accepted = accepted-stays }
