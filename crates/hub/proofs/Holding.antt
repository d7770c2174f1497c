-- After any requests from a fresh table each slot's job is kept by the rules: each request keeps it so, at its own slot and at the others.
-- Assumes nothing.
use Rattle.std.specs.Prelude.{if◌then◌else◌}
use Prim.Native.Nat.{ℕ, zero, suc, ◌-◌, ◌≤◌}
use mathlib.Core.Path.{◌≡◌, refl, ◌∙◌, ap}
use mathlib.Core.Bool.{Bool, true, false, ◌&&◌}
use mathlib.Core.List.{List, [], ◌∷◌}
use native.Mathlib.Omega.{arith}
use lib.ListN.{get_or, replicate}
use lib.Dec.{leb, eqb}
use borrow.Author.Tests.{ltb-true, leb-true, eqb-true, eqb-false}
use Rattle.part.specs.Ranges.{hold, descriptor_fields}
use Rattle.part.specs.Records.{all_bytes, spliced}
use Rattle.part.specs.declared.shapes.Descriptor.{Descriptor}
use Rattle.part.proofs.Checks.{first_of, second_of}
use Rattle.part.proofs.Areas.{spliced-length}
use Rattle.part.proofs.Accepting.{accepted}
use Rattle.hub.specs.Entries.{is_open, is_open_under, damaged, first_state, closed, all_written, fresh, fresh_table}
use Rattle.hub.specs.Requests.{opening, closing, submitting, area_filled, taking, moved_down, area_left, area_of, Hub, hub, Request, Open, Submit, Take, Close, slot_of, step, steps}
use Rattle.hub.specs.Accounts.{Account, unused, running, ended, noted, parts_from}
use Rattle.hub.specs.Histories.{entry_of, printed, account}
use Rattle.hub.specs.Promises.{Agrees, ReadOf, Fresh, Holds, Reads}
use Rattle.hub.specs.declared.jobs.Entry.{Entry}
use Rattle.hub.proofs.Bytes.{moved_length}
use Rattle.hub.proofs.Slots.{own_length, with_own}
use Rattle.hub.proofs.Reaching.{other_entry, other_area}
use Rattle.hub.proofs.Deciding.{SubmitTests, Here, there, whole, take_whole, Passed, Decision, refused, done, decision}
use Rattle.hub.proofs.Ranging.{in_range, opened_undamaged, gone_on_undamaged, drained_undamaged}
use Rattle.hub.proofs.Growing.{part-kept, part-read}
use Rattle.hub.proofs.Draining.{take-kept, take-read, its_taken}

-- ---- what was tested of a part that is taken

pub record Awaits (number : ℕ) (e : Entry) : Type 0 where
  pub undamaged : damaged e ≡ false
  pub is : is_open e ≡ true
  pub is_next : e.next ≡ number
  pub least : 1 ≤ number
  pub most : number ≤ 65535

pub under_open : (e : Entry) (key : ℕ) → is_open_under e key ≡ true → is_open e ≡ true
under_open e key h = go (is_open e) refl
  where
    go : (t : Bool) → is_open e ≡ t → is_open e ≡ true
    go true is = is
    go false shut = let z : false ≡ true = rw shut at h in cc

-- a closed entry isn't open under any key
shut_under : (e : Entry) (key : ℕ) → is_open e ≡ false → is_open_under e key ≡ true → ⊥
shut_under e key shut under = let is = under_open e key under in let z : ◌≡◌ {A = ℕ} 0 1 = cc in omega arith

pub awaits : (key number : ℕ) (e : Entry) → SubmitTests key number e → Awaits number e
awaits key number e t =
    let a = leb-true e.next number t.is_new in
    let b = leb-true number e.next t.is_near in
    record {
      undamaged = t.undamaged;
      is = under_open e key t.under;
      is_next = omega arith;
      least = leb-true 1 number (first_of (leb 1 number) (leb number 65535) t.good);
      most = leb-true number 65535 (second_of (leb 1 number) (leb number 65535) t.good);
    }

-- a job was opened with a descriptor in range
abbrev pub Described : Account → Type 0
Described unused = Unit
Described (running j) = hold (descriptor_fields j.descriptor) ≡ true
Described (ended j) = hold (descriptor_fields j.descriptor) ≡ true

module _ (widths : List ℕ) where
  -- what holds of a slot at any time
  pub record Sound (a : Account) (h : Hub) (slot : ℕ) : Type 0 where
    pub agrees : Agrees widths a (entry_of h slot) (area_of h.records slot)
    pub undamaged : damaged (entry_of h slot) ≡ false
    pub described : Described a
    pub reads : ReadOf widths a (printed h slot)

  -- ---- a request on the slot itself

  module _ (h : Hub) (slot key : ℕ) where
    open_sound : (a : Account) (d : Descriptor) → Here widths h (Open slot key d) → Passed widths h (Open slot key d) → Sound (noted a (Open slot key d) (printed h slot)) (step widths h (Open slot key d)).after slot
    unfolding opening parts_from
    open_sound a d x passed =
        let now = there widths h (Open slot key d) x in
        record {
          agrees = rw (now, passed.0) (record { in_order = refl; result = record { state = first_state d; items = [] }; by_rules = refl; its_entry = refl; its_used = refl; its_records = refl });
          undamaged = rw (now, passed.0) (opened_undamaged key d passed.1.ranges);
          described = passed.1.ranges;
          reads = rw (now, passed.0) (record { result = record { state = first_state d; items = [] }; by_rules = refl; read = []; unread = []; in_all = refl; its_taken = refl; its_found = refl });
        }

    close_sound : (a : Account) → Here widths h (Close slot key) → Passed widths h (Close slot key) → Sound a h slot → Sound (noted a (Close slot key) (printed h slot)) (step widths h (Close slot key)).after slot
    unfolding closing
    close_sound unused x passed s = absurd (shut_under (entry_of h slot) key s.agrees.0 passed.1.under)
    close_sound (running j) x passed s =
        let now = there widths h (Close slot key) x in
        let k = s.agrees in
        record {
          agrees = rw (now, x.leaves, passed.0) (record { in_order = k.in_order; result = k.result; by_rules = k.by_rules; its_entry = ap closed k.its_entry; its_used = k.its_used; its_records = k.its_records });
          undamaged = rw (now, passed.0);
          described = s.described;
          reads = rw (now, x.leaves, passed.0) s.reads;
        }
    close_sound (ended j) x passed s = absurd (shut_under (entry_of h slot) key (rw s.agrees.its_entry) passed.1.under)

    submit_sound : (a : Account) (number : ℕ) (part : List ℕ) → Here widths h (Submit slot key number part) → Passed widths h (Submit slot key number part) → Sound a h slot
        → Sound (noted a (Submit slot key number part) (printed h slot)) (step widths h (Submit slot key number part)).after slot
    unfolding submitting area_filled
    submit_sound unused number part x passed s = absurd (shut_under (entry_of h slot) key s.agrees.0 passed.1.under)
    submit_sound (ended j) number part x passed s = absurd (shut_under (entry_of h slot) key (rw s.agrees.its_entry) passed.1.under)
    submit_sound (running j) number part x passed s =
        let r = Submit slot key number part in
        let e = entry_of h slot in
        let area = area_of h.records slot in
        let now = there widths h r x in
        let tested = awaits key number e passed.1 in
        let next = tested.is_next in
        let most = tested.most in
        let (f, taken) = accepted widths e.descriptor e.state part area passed.2 in
        let long = whole widths h slot key number part x in
        let area' = spliced area e.state.used (all_bytes f.items) in
        let own = with_own h.records slot long x.low area' (spliced-length area e.state.used (all_bytes f.items) taken.fits ∙ own_length h.records slot long x.low) in
        record {
          agrees = rw (now, x.leaves, passed.0, passed.2, taken.its_state, taken.its_area, own) (part-kept widths j e area number part f taken s.agrees next);
          undamaged = rw (now, passed.0, passed.2, taken.its_state) (gone_on_undamaged e f.state (in_range e tested.is tested.undamaged) taken.kept (omega arith));
          described = s.described;
          reads = rw (now, x.leaves, passed.0, passed.2, taken.its_state, taken.its_area, own) (part-read widths j e area number part f taken s.agrees s.reads);
        }

    take_sound : (a : Account) (total : ℕ) → Here widths h (Take slot key total) → Passed widths h (Take slot key total) → Sound a h slot
        → Sound (noted a (Take slot key total) (printed h slot)) (step widths h (Take slot key total)).after slot
    unfolding taking area_left
    take_sound unused total x passed s = absurd (shut_under (entry_of h slot) key s.agrees.0 passed.1.under)
    take_sound (ended j) total x passed s = absurd (shut_under (entry_of h slot) key (rw s.agrees.its_entry) passed.1.under)
    take_sound (running j) total x passed s =
        let e = entry_of h slot in
        let area = area_of h.records slot in
        let now = there widths h (Take slot key total) x in
        let tests = passed.1 in
        let whole = take_whole widths h slot key total x in
        let long = own_length h.records slot whole x.low in
        let more = total - e.taken in
        let own = with_own h.records slot whole x.low (moved_down area more e.state.used) (moved_length area more e.state.used ∙ long) in
        let above = ltb-true e.taken total tests.more in
        let within = leb-true total (all_written e) tests.within in
        let said = its_taken widths j e area total s.agrees s.reads in
        record {
          agrees = rw (now, x.leaves, passed.0, own, ← said) (take-kept widths j e area total s.agrees s.reads long above within tests.met);
          undamaged = rw (now, passed.0) (drained_undamaged e total (in_range e (under_open e key tests.under) tests.undamaged) (omega arith));
          described = s.described;
          reads = rw (now, x.leaves, passed.0, own, ← said) (take-read widths j e area total s.agrees s.reads long above within tests.met);
        }

  own_sound : (a : Account) (h : Hub) (r : Request) → Here widths h r → Passed widths h r → Sound a h (slot_of r) → Sound (noted a r (printed h (slot_of r))) (step widths h r).after (slot_of r)
  own_sound a h (Open slot key d) x passed s = open_sound h slot key a d x passed
  own_sound a h (Submit slot key number part) x passed s = submit_sound h slot key a number part x passed s
  own_sound a h (Take slot key total) x passed s = take_sound h slot key a total x passed s
  own_sound a h (Close slot key) x passed s = close_sound h slot key a x passed s

  -- ---- a request on another slot

  other_sound : (a : Account) (h : Hub) (r : Request) (slot : ℕ) → (slot_of r ≡ slot → ⊥) → Sound a h slot → Sound a (step widths h r).after slot
  other_sound a h r slot n s = record {
    agrees = rw (other_entry widths h r slot n, other_area widths h r slot n) s.agrees;
    undamaged = rw (other_entry widths h r slot n) s.undamaged;
    described = s.described;
    reads = rw (other_entry widths h r slot n, other_area widths h r slot n) s.reads;
  }

  -- ---- any request, and any number of them

  abbrev after : ℕ → Account → Hub → Request → Account
  after slot a h r = if eqb (slot_of r) slot && eqb (step widths h r).answer.code 0 then noted a r (printed h slot) else a

  step_sound : (a : Account) (h : Hub) (r : Request) (slot : ℕ) → Sound a h slot → Sound (after slot a h r) (step widths h r).after slot
  step_sound a h r slot s = go (eqb (slot_of r) slot) refl
    where
      own : Decision widths h r → slot_of r ≡ slot → Sound (if eqb (step widths h r).answer.code 0 then noted a r (printed h slot) else a) (step widths h r).after slot
      own (refused q same) e = rw (q, same) s
      own (done nought x passed) e = rw (nought, ← e) (own_sound a h r x passed (rw e s))

      go : (t : Bool) → eqb (slot_of r) slot ≡ t → Sound (if t && eqb (step widths h r).answer.code 0 then noted a r (printed h slot) else a) (step widths h r).after slot
      go true e = own (decision widths h r) (eqb-true (slot_of r) slot e)
      go false e = other_sound a h r slot (eqb-false (slot_of r) slot e) s

  steps_sound : (a : Account) (h : Hub) (rs : List Request) (slot : ℕ) → Sound a h slot → Sound (account widths slot h a rs) (steps widths h rs) slot
  unfolding account steps
  steps_sound a h [] slot s = s
  steps_sound a h (r ∷ rs) slot s = steps_sound (after slot a h r) (step widths h r).after rs slot (step_sound a h r slot s)

  fresh_sound : (h : Hub) (slot : ℕ) → Fresh h → Sound unused h slot
  fresh_sound h slot f = record { agrees = (f.all_closed slot, f.no_keys slot); undamaged = rw (f.all_closed slot); described = tt; reads = tt }

pub sound : (widths : List ℕ) (h : Hub) → Fresh h → (rs : List Request) (slot : ℕ) → Sound widths (account widths slot h unused rs) (steps widths h rs) slot
sound widths h f rs slot = steps_sound widths unused h rs slot (fresh_sound widths h slot f)

pub holds : Holds
holds widths h f rs slot = let s = sound widths h f rs slot in (s.agrees, s.undamaged)

pub reads : Reads
reads widths h f rs slot = (sound widths h f rs slot).reads

-- ---- and there is a fresh table

pub fresh-table : (records : List ℕ) (stored : ℕ) → Fresh (hub fresh_table records stored)
unfolding fresh
fresh-table records stored = record { sixteen = refl; all_closed = λ slot. rw (same 16 slot); no_keys = λ slot. rw (same 16 slot) }
  where
    same : (n i : ℕ) → get_or (replicate n fresh) i fresh ≡ fresh
    same zero i = refl
    same (suc n) zero = refl
    same (suc n) (suc i) = same n i
