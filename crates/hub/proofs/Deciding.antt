-- A request is refused and changes nothing, or its checks have passed: then the step is what the rules make of its entry and its area.
-- Assumes nothing.
use Prim.Native.Nat.{ℕ, ◌-◌, ◌<◌}
use mathlib.Core.Path.{◌≡◌, refl, ◌∙◌}
use mathlib.Core.Bool.{Bool, true, false, not, ◌&&◌}
use mathlib.Core.List.{List}
use native.Mathlib.Omega.{arith}
use lib.ListN.{length, set, take}
use lib.Seq.{set-get_or, get_or-set_same}
use lib.Dec.{ltb, leb, eqb}
use borrow.Author.Tests.{lt-ltb, ltb-true, eqb-true, eqb-false, not-true}
use Rattle.part.specs.Checks.{Checked, fine, fault, require}
use Rattle.part.specs.Ranges.{up_to, ◌to◌, ◌∈◌, hold, descriptor_fields}
use Rattle.part.specs.Records.{boundaries}
use Rattle.part.specs.Part.{interpreted}
use Rattle.part.specs.declared.shapes.Descriptor.{Descriptor}
use Rattle.part.proofs.Checks.{first_of, second_of, Gives, value, refusal, gives_test, gives_where, gives_so}
use Rattle.part.proofs.Refusals.{untouched}
use Rattle.hub.specs.Entries.{is_open, is_open_under, is_old_key, damaged, all_written, fresh}
use Rattle.hub.specs.Requests.{may_open, judged, may_submit, is_one_of, may_take, may_close, opening, closing, one_more, one_less, submitting, area_filled, taking, area_left, area_of, is_table, is_store, Hub, hub, Request, Open, Submit, Take, Close, slot_of, is_lent, on_entry, on_records, on_stored, step}
use Rattle.hub.specs.Histories.{entry_of}
use Rattle.hub.specs.declared.jobs.Entry.{Entry}
use Rattle.hub.proofs.Slots.{with_same}

-- ---- where a check passes, so has each of its tests; where it doesn't, its code isn't 0

abbrev pub Refuses : ℕ → ℕ → Type 0
Refuses code at = eqb code 0 ≡ false

pub record OpenTests (key : ℕ) (d : Descriptor) (stored : ℕ) (e : Entry) : Type 0 where
  pub shut : is_open e ≡ false
  pub new_key : is_old_key e key ≡ false
  pub ranges : hold (descriptor_fields d) ≡ true
  pub grows : (stored ∈ up_to 15) ≡ true

pub record SubmitTests (key number : ℕ) (e : Entry) : Type 0 where
  pub undamaged : damaged e ≡ false
  pub under : is_open_under e key ≡ true
  pub good : (number ∈ 1 to 65535) ≡ true
  pub is_new : leb e.next number ≡ true
  pub is_near : leb number e.next ≡ true

pub record TakeTests (key total : ℕ) (area : List ℕ) (e : Entry) : Type 0 where
  pub undamaged : damaged e ≡ false
  pub under : is_open_under e key ≡ true
  pub more : ltb e.taken total ≡ true
  pub low : leb total 4294967295 ≡ true
  pub within : leb total (all_written e) ≡ true
  pub met : is_one_of (total - e.taken) (boundaries (take e.state.used area)) ≡ true

pub record CloseTests (key stored : ℕ) (e : Entry) : Type 0 where
  pub under : is_open_under e key ≡ true
  pub falls : (stored ∈ 1 to 16) ≡ true

last_test : {Q : ℕ → ℕ → Type 0} (t : Bool) (code : ℕ) → (t ≡ false → Q code 0) → Gives (λ _. t ≡ true) Q (require t code)
last_test true code q = value refl
last_test false code q = refusal (q refl)

-- what holds of each test's code holds of the refusal
module _ {Q : ℕ → ℕ → Type 0} where
  pub open_gives : (key : ℕ) (d : Descriptor) (stored : ℕ) (e : Entry) → Q 12 0 → Q 1 0 → Q 13 0 → Q 14 0 → Q 15 0 → ((stored ∈ up_to 15) ≡ false → Q 32 0)
      → Gives (λ _. OpenTests key d stored e) Q (may_open key d stored e)
  unfolding may_open
  open_gives key d stored e q12 q1 q13 q14 q15 q32 =
      gives_where (not (damaged e)) 12 _ q12 λ _.
      gives_where (not (is_open_under e key)) 1 _ q1 λ _.
      gives_where (not (is_open e)) 13 _ q13 λ shut.
      gives_where (not (is_old_key e key)) 14 _ q14 λ new_key.
      gives_where (hold (descriptor_fields d)) 15 _ q15 λ ranges.
      gives_so (λ _ grows. record { shut = not-true (is_open e) shut; new_key = not-true (is_old_key e key) new_key; ranges = ranges; grows = grows }) (λ _ _ q. q) (last_test (stored ∈ up_to 15) 32 q32)

  pub submit_gives : (key number : ℕ) (e : Entry) → Q 12 0 → Q 16 0 → Q 17 0 → Q 1 0 → Q 18 0 → Gives (λ _. SubmitTests key number e) Q (may_submit key number e)
  unfolding may_submit judged
  submit_gives key number e q12 q16 q17 q1 q18 =
      gives_where (not (damaged e)) 12 _ q12 λ undamaged.
      gives_where (is_open_under e key) 16 _ q16 λ under.
      gives_where (number ∈ 1 to 65535) 17 _ q17 λ good.
      gives_where (leb e.next number) 1 _ q1 λ is_new.
      gives_so (λ _ is_near. record { undamaged = not-true (damaged e) undamaged; under = under; good = good; is_new = is_new; is_near = is_near }) (λ _ _ q. q) (gives_test (leb number e.next) 18 q18)

  pub take_gives : (key total : ℕ) (area : List ℕ) (e : Entry) → Q 12 0 → Q 16 0 → Q 1 0 → Q 30 0 → Gives (λ _. TakeTests key total area e) Q (may_take key total area e)
  unfolding may_take
  take_gives key total area e q12 q16 q1 q30 =
      gives_where (not (damaged e)) 12 _ q12 λ undamaged.
      gives_where (is_open_under e key) 16 _ q16 λ under.
      gives_where (ltb e.taken total) 1 _ q1 λ more.
      gives_where (leb total 4294967295) 30 _ q30 λ low.
      gives_where (leb total (all_written e)) 30 _ q30 λ within.
      gives_so (λ _ met. record { undamaged = not-true (damaged e) undamaged; under = under; more = more; low = low; within = within; met = met }) (λ _ _ q. q) (gives_test (is_one_of (total - e.taken) (boundaries (take e.state.used area))) 30 q30)

  pub close_gives : (key stored : ℕ) (e : Entry) → Q 12 0 → Q 1 0 → Q 16 0 → ((stored ∈ 1 to 16) ≡ false → Q 32 0) → Gives (λ _. CloseTests key stored e) Q (may_close key stored e)
  unfolding may_close
  close_gives key stored e q12 q1 q16 q32 =
      gives_where (not (damaged e)) 12 _ q12 λ _.
      gives_where (not (not (is_open e) && eqb e.key key && ltb 0 key)) 1 _ q1 λ _.
      gives_where (is_open_under e key) 16 _ q16 λ under.
      gives_so (λ _ falls. record { under = under; falls = falls }) (λ _ _ q. q) (last_test (stored ∈ 1 to 16) 32 q32)

pub open_tests : (key : ℕ) (d : Descriptor) (stored : ℕ) (e : Entry) → Gives (λ _. OpenTests key d stored e) Refuses (may_open key d stored e)
open_tests key d stored e = open_gives key d stored e refl refl refl refl refl (λ _. refl)

pub submit_tests : (key number : ℕ) (e : Entry) → Gives (λ _. SubmitTests key number e) Refuses (may_submit key number e)
submit_tests key number e = submit_gives key number e refl refl refl refl refl

pub take_tests : (key total : ℕ) (area : List ℕ) (e : Entry) → Gives (λ _. TakeTests key total area e) Refuses (may_take key total area e)
take_tests key total area e = take_gives key total area e refl refl refl refl

pub close_tests : (key stored : ℕ) (e : Entry) → Gives (λ _. CloseTests key stored e) Refuses (may_close key stored e)
close_tests key stored e = close_gives key stored e refl refl refl (λ _. refl)

module _ (widths : List ℕ) (h : Hub) where
  -- ---- all lengths are right and the slot is one: the request comes to its entry

  pub record Here (r : Request) : Type 0 where
    pub lent : is_lent widths h r ≡ true
    pub low : slot_of r < 16
    pub answers : (step widths h r).answer ≡ (on_entry widths h r (entry_of h (slot_of r))).answer
    pub leaves : (step widths h r).after ≡ hub (set h.table (slot_of r) (on_entry widths h r (entry_of h (slot_of r))).entry) (on_records widths h r (entry_of h (slot_of r))) (on_stored widths h r (entry_of h (slot_of r)))

  pub here : (r : Request) → is_lent widths h r ≡ true → slot_of r < 16 → Here r
  unfolding step
  here r lent low = let is = lt-ltb (slot_of r) 16 low in record { lent = lent; low = low; answers = rw (lent, is); leaves = rw (lent, is) }

  sizes : is_store h.table h.records ≡ true → (length h.table ≡ 16) × (length h.records ≡ 65536)
  sizes lent =
      let a = is_table h.table in
      let b = eqb (length h.records) 65536 in
      (eqb-true _ 16 (first_of a b lent), eqb-true _ 65536 (second_of a b lent))

  pub sixteen : (r : Request) → is_lent widths h r ≡ true → length h.table ≡ 16
  sixteen (Open slot key d) lent = eqb-true (length h.table) 16 lent
  sixteen (Submit slot key number part) lent = (sizes (first_of (is_store h.table h.records) (eqb (length widths) 1024) lent)).0
  sixteen (Take slot key total) lent = (sizes lent).0
  sixteen (Close slot key) lent = eqb-true (length h.table) 16 lent

  pub whole : (slot key number : ℕ) (part : List ℕ) → Here (Submit slot key number part) → length h.records ≡ 65536
  whole slot key number part x = (sizes (first_of (is_store h.table h.records) (eqb (length widths) 1024) x.lent)).1

  pub take_whole : (slot key total : ℕ) → Here (Take slot key total) → length h.records ≡ 65536
  take_whole slot key total x = (sizes x.lent).1

  pub lent-widths : (slot key number : ℕ) (part : List ℕ) → Here (Submit slot key number part) → length widths ≡ 1024
  lent-widths slot key number part x = eqb-true (length widths) 1024 (second_of (is_store h.table h.records) (eqb (length widths) 1024) x.lent)

  pub there : (r : Request) → Here r → entry_of (step widths h r).after (slot_of r) ≡ (on_entry widths h r (entry_of h (slot_of r))).entry
  there r x =
      let n = sixteen r x.lent in
      let low = x.low in
      rw x.leaves (get_or-set_same h.table (slot_of r) (on_entry widths h r (entry_of h (slot_of r))).entry fresh (omega arith))

  -- ---- and all its checks have passed, or it is refused

  abbrev pub Passed : Request → Type 0
  Passed (Open slot key d) = (may_open key d h.stored (entry_of h slot) ≡ fine tt) × OpenTests key d h.stored (entry_of h slot)
  Passed (Submit slot key number part) =
      (may_submit key number (entry_of h slot) ≡ fine tt) × SubmitTests key number (entry_of h slot)
      × ((interpreted widths (entry_of h slot).descriptor (entry_of h slot).state part (area_of h.records slot)).answer.code ≡ 0)
  Passed (Take slot key total) = (may_take key total (area_of h.records slot) (entry_of h slot) ≡ fine tt) × TakeTests key total (area_of h.records slot) (entry_of h slot)
  Passed (Close slot key) = (may_close key h.stored (entry_of h slot) ≡ fine tt) × CloseTests key h.stored (entry_of h slot)

  pub data Decision (r : Request) : Type 0 where
    refused : eqb (step widths h r).answer.code 0 ≡ false → (step widths h r).after ≡ h → Decision r
    done : (step widths h r).answer.code ≡ 0 → Here r → Passed r → Decision r

  -- an entry put back as it was, beside the same records and the same number
  back : (slot : ℕ) (records : List ℕ) → records ≡ h.records → hub (set h.table slot (entry_of h slot)) records h.stored ≡ h
  back slot records same = rw (set-get_or h.table slot fresh, same)

  open_decided : (slot key : ℕ) (d : Descriptor) → Here (Open slot key d) → Decision (Open slot key d)
  unfolding opening one_more
  open_decided slot key d x = go (may_open key d h.stored (entry_of h slot)) refl (open_tests key d h.stored (entry_of h slot))
    where
      go : (m : Checked Unit) → may_open key d h.stored (entry_of h slot) ≡ m → Gives (λ _. OpenTests key d h.stored (entry_of h slot)) Refuses m → Decision (Open slot key d)
      go (fine _) is (value tests) = done (rw (x.answers, is)) x (is, tests)
      go (fault code at) is (refusal q) = refused (rw (x.answers, is) q) (x.leaves ∙ rw is (back slot _ refl))

  close_decided : (slot key : ℕ) → Here (Close slot key) → Decision (Close slot key)
  unfolding closing one_less
  close_decided slot key x = go (may_close key h.stored (entry_of h slot)) refl (close_tests key h.stored (entry_of h slot))
    where
      go : (m : Checked Unit) → may_close key h.stored (entry_of h slot) ≡ m → Gives (λ _. CloseTests key h.stored (entry_of h slot)) Refuses m → Decision (Close slot key)
      go (fine _) is (value tests) = done (rw (x.answers, is)) x (is, tests)
      go (fault code at) is (refusal q) = refused (rw (x.answers, is) q) (x.leaves ∙ rw is (back slot _ refl))

  submit_decided : (slot key number : ℕ) (part : List ℕ) → Here (Submit slot key number part) → Decision (Submit slot key number part)
  unfolding submitting area_filled
  submit_decided slot key number part x = go (may_submit key number e) refl (submit_tests key number e)
    where
      e : Entry
      e = entry_of h slot

      area : List ℕ
      area = area_of h.records slot

      part_code : ℕ
      part_code = (interpreted widths e.descriptor e.state part area).answer.code

      by_part : may_submit key number e ≡ fine tt → SubmitTests key number e → (t : Bool) → eqb part_code 0 ≡ t → Decision (Submit slot key number part)
      by_part is tests true nought = done (rw (x.answers, is) (eqb-true part_code 0 nought)) x (is, tests, eqb-true part_code 0 nought)
      by_part is tests false other =
          let same = untouched widths e.descriptor e.state part area (eqb-false part_code 0 other) in
          refused (rw (x.answers, is) other) (x.leaves ∙ rw (is, other, same.1) (back slot _ (with_same h.records slot)))

      go : (m : Checked Unit) → may_submit key number e ≡ m → Gives (λ _. SubmitTests key number e) Refuses m → Decision (Submit slot key number part)
      go (fine _) is (value tests) = by_part is tests (eqb part_code 0) refl
      go (fault code at) is (refusal q) = refused (rw (x.answers, is) q) (x.leaves ∙ rw is (back slot _ (with_same h.records slot)))

  take-decided : (slot key total : ℕ) → Here (Take slot key total) → Decision (Take slot key total)
  unfolding taking area_left
  take-decided slot key total x = go (may_take key total area e) refl (take_tests key total area e)
    where
      e : Entry
      e = entry_of h slot

      area : List ℕ
      area = area_of h.records slot

      go : (m : Checked Unit) → may_take key total area e ≡ m → Gives (λ _. TakeTests key total area e) Refuses m → Decision (Take slot key total)
      go (fine _) is (value tests) = done (rw (x.answers, is)) x (is, tests)
      go (fault code at) is (refusal q) = refused (rw (x.answers, is) q) (x.leaves ∙ rw is (back slot _ (with_same h.records slot)))

  here-decided : (r : Request) → Here r → Decision r
  here-decided (Open slot key d) x = open_decided slot key d x
  here-decided (Submit slot key number part) x = submit_decided slot key number part x
  here-decided (Take slot key total) x = take-decided slot key total x
  here-decided (Close slot key) x = close_decided slot key x

  pub decision : (r : Request) → Decision r
  unfolding step
  decision r = go (is_lent widths h r) refl (ltb (slot_of r) 16) refl
    where
      go : (t : Bool) → is_lent widths h r ≡ t → (u : Bool) → ltb (slot_of r) 16 ≡ u → Decision r
      go true a true b = here-decided r (here r a (ltb-true (slot_of r) 16 b))
      go true a false b = refused (rw (a, b)) (rw (a, b))
      go false a u b = refused (rw a) (rw a)
