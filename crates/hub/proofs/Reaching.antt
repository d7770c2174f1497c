-- A request sees of what is lent the lengths, its slot's entry and its slot's area, and the stored number; it puts back an entry and an area there, and a number.
-- Assumes nothing.
use Rattle.std.specs.Prelude.{if◌then◌else◌}
use Prim.Native.Nat.{ℕ, ◌-◌}
use mathlib.Core.Path.{◌≡◌, refl, sym, ◌∙◌}
use mathlib.Core.Bool.{Bool, true, false}
use mathlib.Core.List.{List, [], ◌∷◌}
use lib.ListN.{length, set, length-set}
use lib.Seq.{get_or-set_other, set-get_or}
use lib.Dec.{ltb}
use Rattle.part.specs.declared.shapes.Answer.{Answer}
use Rattle.part.proofs.Areas.{area-length}
use Rattle.hub.specs.Entries.{fresh}
use Rattle.hub.specs.Requests.{may_submit, may_take, passes, opening, closing, submitting, area_filled, taking, area_left, area_of, with_area, refusal, Hub, hub, Request, Open, Submit, Take, Close, slot_of, Reply, is_lent, on_entry, on_records, on_stored, else_of, step, steps}
use Rattle.hub.specs.Histories.{entry_of}
use Rattle.hub.specs.declared.jobs.Entry.{Entry}
use Rattle.hub.specs.declared.jobs.Out.{Out}
use Rattle.hub.proofs.Bytes.{moved_length}
use Rattle.hub.proofs.Slots.{Fits, with_length, with_same, with_unseen}

-- another number beside the same table
abbrev pub beside : Hub → ℕ → Hub
beside h stored = hub h.table h.records stored

-- an entry and an area, put at a slot, and a number
abbrev pub put : Hub → ℕ → Entry → List ℕ → ℕ → Hub
put h slot e area stored = hub (set h.table slot e) (with_area h.records slot area) stored

-- an entry and an area that are there already
put_same : (h : Hub) (slot stored : ℕ) → put h slot (entry_of h slot) (area_of h.records slot) stored ≡ beside h stored
put_same h slot stored = rw (set-get_or h.table slot fresh, with_same h.records slot)

-- what a request makes of its entry and its area
pub record Made : Type 0 where
  pub answer : Answer
  pub entry : Entry
  pub area : List ℕ

-- whether the lengths are right, and the slot is one
abbrev pub choice : Bool → Bool → Made → Entry → List ℕ → Made
choice true true m e area = m
choice true false m e area = record { answer = refusal 11; entry = e; area = area }
choice false low m e area = record { answer = refusal 10; entry = e; area = area }

abbrev pub replied : Hub → ℕ → Made → ℕ → Reply
replied h slot m stored = record { answer = m.answer; after = put h slot m.entry m.area stored }

chosen : (t u : Bool) (h : Hub) (slot : ℕ) (o : Out) (records area : List ℕ) (stored : ℕ) → records ≡ with_area h.records slot area
    → ◌≡◌ {A = Reply} (record {
      answer = if t then (if u then o.answer else refusal 11) else refusal 10;
      after = hub (if t then (if u then set h.table slot o.entry else h.table) else h.table) (if t then (if u then records else h.records) else h.records) stored;
    }) (replied h slot (choice t u (record { answer = o.answer; entry = o.entry; area = area }) (entry_of h slot) (area_of h.records slot)) stored)
chosen true true h slot o records area stored e = rw e
chosen true false h slot o records area stored e = rw (put_same h slot stored)
chosen false u h slot o records area stored e = rw (put_same h slot stored)

-- one of two areas of the same length
either_length : (t : Bool) (other area : List ℕ) → length other ≡ length area → length (if t then other else area) ≡ length area
either_length true other area same = same
either_length false other area same = refl

module _ (widths : List ℕ) where
  abbrev pub out_then : Request → Entry → List ℕ → ℕ → Out
  out_then (Open slot key d) e area stored = opening key d stored e
  out_then (Submit slot key number part) e area stored = submitting widths key number part area e
  out_then (Take slot key total) e area stored = taking key total area e
  out_then (Close slot key) e area stored = closing key stored e

  abbrev pub area_then : Request → Entry → List ℕ → List ℕ
  area_then (Open slot key d) e area = area
  area_then (Submit slot key number part) e area = area_filled widths key number part area e
  area_then (Take slot key total) e area = area_left key total area e
  area_then (Close slot key) e area = area

  abbrev pub made : Bool → Request → Entry → List ℕ → ℕ → Made
  made lent r e area stored =
      choice lent (ltb (slot_of r) 16) (record { answer = (out_then r e area stored).answer; entry = (out_then r e area stored).entry; area = area_then r e area }) e area

  abbrev pub seen : Hub → Request → Made
  seen h r = made (is_lent widths h r) r (entry_of h (slot_of r)) (area_of h.records (slot_of r)) h.stored

  abbrev pub number : Hub → Request → ℕ
  number h r = else_of (is_lent widths h r) (on_stored widths h r) h.stored h.table (slot_of r)

  -- ---- the step is what is so made

  out-is : (h : Hub) (r : Request) (e : Entry) → on_entry widths h r e ≡ out_then r e (area_of h.records (slot_of r)) h.stored
  out-is h (Open slot key d) e = refl
  out-is h (Submit slot key number part) e = refl
  out-is h (Take slot key total) e = refl
  out-is h (Close slot key) e = refl

  records_are : (h : Hub) (r : Request) (e : Entry) → on_records widths h r e ≡ with_area h.records (slot_of r) (area_then r e (area_of h.records (slot_of r)))
  records_are h (Open slot key d) e = sym (with_same h.records slot)
  records_are h (Submit slot key number part) e = refl
  records_are h (Take slot key total) e = refl
  records_are h (Close slot key) e = sym (with_same h.records slot)

  pub step_is : (h : Hub) (r : Request) → step widths h r ≡ replied h (slot_of r) (seen h r) (number h r)
  unfolding step
  step_is h r =
      let e = entry_of h (slot_of r) in
      let area = area_of h.records (slot_of r) in
      rw (← out-is h r e) (chosen (is_lent widths h r) (ltb (slot_of r) 16) h (slot_of r) (on_entry widths h r e) (on_records widths h r e) (area_then r e area) (number h r) (records_are h r e))

  -- ---- an area keeps its length

  pub then_length : (r : Request) (e : Entry) (area : List ℕ) → length (area_then r e area) ≡ length area
  unfolding area_filled area_left
  then_length (Open slot key d) e area = refl
  then_length (Submit slot key number part) e area = either_length (passes (may_submit key number e)) _ area (area-length widths e.descriptor e.state part area)
  then_length (Take slot key total) e area = either_length (passes (may_take key total area e)) _ area (moved_length area (total - e.taken) e.state.used)
  then_length (Close slot key) e area = refl

  pub fits : (h : Hub) (r : Request) → Fits h.records (slot_of r) (seen h r).area
  fits h r = go (is_lent widths h r) (ltb (slot_of r) 16) _ (then_length r (entry_of h (slot_of r)) (area_of h.records (slot_of r)))
    where
      go : (t u : Bool) (m : Made) → Fits h.records (slot_of r) m.area → Fits h.records (slot_of r) (choice t u m (entry_of h (slot_of r)) (area_of h.records (slot_of r))).area
      go true true m k = k
      go true false m k = refl
      go false u m k = refl

  -- ---- what is put at one slot is not seen from another

  pub same_lent : (h g : Hub) (r : Request) → length g.table ≡ length h.table → length g.records ≡ length h.records → is_lent widths g r ≡ is_lent widths h r
  same_lent h g (Open slot key d) a b = rw a
  same_lent h g (Submit slot key number part) a b = rw (a, b)
  same_lent h g (Take slot key total) a b = rw (a, b)
  same_lent h g (Close slot key) a b = rw a

  module _ (h : Hub) (a : ℕ) (e : Entry) (area : List ℕ) (stored : ℕ) (f : Fits h.records a area) where
    put_lent : (n : ℕ) (r : Request) → is_lent widths (put h a e area stored) r ≡ is_lent widths (beside h n) r
    put_lent n r = same_lent (beside h n) (put h a e area stored) r (length-set h.table a e) (with_length h.records a area f)

    pub elsewhere : (q : Request) → (a ≡ slot_of q → ⊥) → seen (put h a e area stored) q ≡ seen (beside h stored) q
    elsewhere q n = rw (put_lent stored q, get_or-set_other h.table a (slot_of q) e fresh (λ k. n (sym k)), with_unseen h.records a (slot_of q) area n f)

  -- ---- a step: the lengths stay, and so does what is at the other slots

  module _ (h : Hub) (r : Request) where
    pub table-size : length (step widths h r).after.table ≡ length h.table
    table-size = rw (step_is h r) (length-set h.table (slot_of r) _)

    pub records-size : length (step widths h r).after.records ≡ length h.records
    records-size = rw (step_is h r) (with_length h.records (slot_of r) _ (fits h r))

    pub step-lent : (q : Request) → is_lent widths (step widths h r).after q ≡ is_lent widths h q
    step-lent q = rw (step_is h r) (put_lent h (slot_of r) (seen h r).entry (seen h r).area (number h r) (fits h r) h.stored q)

    pub other_entry : (slot : ℕ) → (slot_of r ≡ slot → ⊥) → entry_of (step widths h r).after slot ≡ entry_of h slot
    other_entry slot n = rw (step_is h r) (get_or-set_other h.table (slot_of r) slot _ fresh (λ e. n (sym e)))

    pub other_area : (slot : ℕ) → (slot_of r ≡ slot → ⊥) → area_of (step widths h r).after.records slot ≡ area_of h.records slot
    other_area slot n = rw (step_is h r) (with_unseen h.records (slot_of r) slot _ n (fits h r))

  pub steps-lent : (h : Hub) (rs : List Request) (r : Request) → is_lent widths (steps widths h rs) r ≡ is_lent widths h r
  unfolding steps
  steps-lent h [] r = refl
  steps-lent h (q ∷ rs) r = steps-lent (step widths h q).after rs r ∙ step-lent h q r
