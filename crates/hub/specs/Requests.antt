-- "Requests and their order": open, submit, take and close on one entry, each as one step on all that is lent; and the count of open jobs.
use Rattle.std.specs.Prelude.{ℕ, ◌+◌, ◌-◌, ◌*◌, Bool, true, false, not, ◌&&◌, ◌||◌, List, [], ◌∷◌, length, get_or, set, take, ltb, leb, eqb, if◌then◌else◌}
use Rattle.part.specs.Checks.{Checked, fine, fault, require, ◌>>◌}
use Rattle.part.specs.Ranges.{up_to, ◌to◌, ◌∈◌, hold, descriptor_fields}
use Rattle.part.specs.Reading.{between}
use Rattle.part.specs.Records.{spliced, boundaries}
use Rattle.part.specs.Part.{answer, interpreted, area_after}
use Rattle.part.specs.declared.shapes.Descriptor.{Descriptor}
use Rattle.part.specs.declared.shapes.Answer.{Answer}
use Rattle.part.specs.declared.shapes.Interpreted.{Interpreted}
use Rattle.hub.specs.Entries.{is_open, is_open_under, is_old_key, damaged, opened, gone_on, all_written, drained, closed, fresh}
use Rattle.hub.specs.declared.jobs.Entry.{Entry}
use Rattle.hub.specs.declared.jobs.Out.{Out}

-- ---- the checks on one entry, in their order; a damaged entry is 12 before all else

-- open under this key: 1; open under another: 13; an old key: 14; descriptor out of range: 15; last, a stored number that can't grow: 32
unfoldable pub may_open : ℕ → Descriptor → ℕ → Entry → Checked Unit
may_open key d stored e = do
  require (not (damaged e)) 12
  require (not (is_open_under e key)) 1
  require (not (is_open e)) 13
  require (not (is_old_key e key)) 14
  require (hold (descriptor_fields d)) 15
  require (stored ∈ up_to 15) 32

-- A part's number: bad (0 or above 65,535), 17; old (below next), 1; a gap (above next), 18; else it is the one to take now.
unfoldable pub judged : ℕ → ℕ → Checked Unit
judged next number = do
  require (number ∈ 1 to 65535) 17
  require (leb next number) 1
  require (leb number next) 18

-- closed, or another key: 16; then the number
unfoldable pub may_submit : ℕ → ℕ → Entry → Checked Unit
may_submit key number e = do
  require (not (damaged e)) 12
  require (is_open_under e key) 16
  judged e.next number

-- one of some numbers
abbrev pub is_one_of : ℕ → List ℕ → Bool
is_one_of n [] = false
is_one_of n (m ∷ ms) = eqb n m || is_one_of n ms

-- closed, or another key: 16; a total at or below the one taken: 1; above 4,294,967,295, beyond what was written or not on a boundary of the area's records: 30
unfoldable pub may_take : ℕ → ℕ → List ℕ → Entry → Checked Unit
may_take key total area e = do
  require (not (damaged e)) 12
  require (is_open_under e key) 16
  require (ltb e.taken total) 1
  require (leb total 4294967295) 30
  require (leb total (all_written e)) 30
  require (is_one_of (total - e.taken) (boundaries (take e.state.used area))) 30

-- closed with this as last key, key above 0: 1; else, where it isn't open under this key: 16; last, a stored number above 16 or that can't fall: 32
unfoldable pub may_close : ℕ → ℕ → Entry → Checked Unit
may_close key stored e = do
  require (not (damaged e)) 12
  require (not (not (is_open e) && eqb e.key key && ltb 0 key)) 1
  require (is_open_under e key) 16
  require (stored ∈ 1 to 16) 32

-- ---- the requests on one entry: the entry afterwards, and the answer

abbrev pub out : Entry → Answer → Out
out e a = record { entry = e; answer = a }

-- Every code but 0 leaves the entry as it was.
abbrev pub decided : Entry → Checked Unit → Out → Out
decided e (fine _) done = done
decided e (fault code at) done = out e (answer code at 0)

abbrev pub passes : Checked Unit → Bool
passes (fine _) = true
passes (fault code at) = false

unfoldable pub opening : ℕ → Descriptor → ℕ → Entry → Out
opening key d stored e = decided e (may_open key d stored e) (out (opened key d) (answer 0 0 0))

unfoldable pub closing : ℕ → ℕ → Entry → Out
closing key stored e = decided e (may_close key stored e) (out (closed e) (answer 0 0 0))

-- and what they make of the stored number of open jobs: one more, one less
unfoldable pub one_more : ℕ → Descriptor → ℕ → Entry → ℕ
one_more key d stored e = if passes (may_open key d stored e) then stored + 1 else stored

unfoldable pub one_less : ℕ → ℕ → Entry → ℕ
one_less key stored e = if passes (may_close key stored e) then stored - 1 else stored

-- the part's own answer; if all its elements pass, next grows by one
abbrev pub part_placed : Entry → Interpreted → Out
part_placed e r = out (if eqb r.answer.code 0 then gone_on e r.state else e) r.answer

-- a submit, whose slot owns this area
module _ (widths : List ℕ) (key number : ℕ) (part area : List ℕ) where
  unfoldable pub submitting : Entry → Out
  submitting e = decided e (may_submit key number e) (part_placed e (interpreted widths e.descriptor e.state part area))

  -- and what it makes of the area
  unfoldable pub area_filled : Entry → List ℕ
  area_filled e = if passes (may_submit key number e) then area_after widths e.descriptor e.state part area else area

-- a take, of whose slot this is the area
unfoldable pub taking : ℕ → ℕ → List ℕ → Entry → Out
taking key total area e = decided e (may_take key total area e) (out (drained e total) (answer 0 0 0))

-- Unread bytes, those from one place up to another, move down to the start; bytes past the new end keep what they held.
abbrev pub moved_down : List ℕ → ℕ → ℕ → List ℕ
moved_down area first past = spliced area 0 (between area first past)

-- and what it makes of the area
unfoldable pub area_left : ℕ → ℕ → List ℕ → Entry → List ℕ
area_left key total area e = if passes (may_take key total area e) then moved_down area (total - e.taken) e.state.used else area

-- ---- what is lent, and one place of it changed

-- Slot s owns the 4,096 bytes from 4,096 s.
abbrev pub area_of : List ℕ → ℕ → List ℕ
area_of records slot = between records (4096 * slot) (4096 * slot + 4096)

abbrev pub with_area : List ℕ → ℕ → List ℕ → List ℕ
with_area records slot area = spliced records (4096 * slot) area

-- what a submit makes of the record buffer
abbrev pub storing : List ℕ → List ℕ → ℕ → ℕ → ℕ → List ℕ → Entry → List ℕ
storing widths records slot key number part e = with_area records slot (area_filled widths key number part (area_of records slot) e)

-- and a take
abbrev pub draining : List ℕ → ℕ → ℕ → ℕ → Entry → List ℕ
draining records slot key total e = with_area records slot (area_left key total (area_of records slot) e)

-- the table of exactly 16 entries; and with it the record buffer of 65,536 bytes
abbrev pub is_table : List Entry → Bool
is_table table = eqb (length table) 16

abbrev pub is_store : List Entry → List ℕ → Bool
is_store table records = is_table table && eqb (length records) 65536

-- what is made of the entry at a slot; or what there is for a slot above 15, and where a lent length is wrong
abbrev pub at_slot : {A : Type 0} → Bool → (Entry → A) → A → A → List Entry → ℕ → A
at_slot lent f above wrong table slot = if lent then (if ltb slot 16 then f (get_or table slot fresh) else above) else wrong

abbrev pub refusal : ℕ → Answer
refusal code = answer code 0 0

-- 10: lent length wrong; 11: slot above 15; then the request's own answer
abbrev pub answer_of : Bool → (Entry → Out) → List Entry → ℕ → Answer
answer_of lent f table slot = at_slot lent (λ e. (f e).answer) (refusal 11) (refusal 10) table slot

-- the table with the slot's entry as the request leaves it
abbrev pub table_of : Bool → (Entry → Out) → List Entry → ℕ → List Entry
table_of lent f table slot = at_slot lent (λ e. set table slot (f e).entry) table table table slot

-- and what else is lent
abbrev pub else_of : {A : Type 0} → Bool → (Entry → A) → A → List Entry → ℕ → A
else_of lent f other table slot = at_slot lent f other other table slot

-- ---- one step on all that is lent

-- the table, the record buffer, and the stored number of open jobs
pub record Hub : Type 0 where
  pub table : List Entry
  pub records : List ℕ
  pub stored : ℕ

abbrev pub hub : List Entry → List ℕ → ℕ → Hub
hub table records stored = record { table = table; records = records; stored = stored }

pub data Request : Type 0 where
  Open : (slot key : ℕ) (d : Descriptor) → Request
  Submit : (slot key number : ℕ) (part : List ℕ) → Request
  Take : (slot key total : ℕ) → Request
  Close : (slot key : ℕ) → Request

abbrev pub slot_of : Request → ℕ
slot_of (Open slot key d) = slot
slot_of (Submit slot key number part) = slot
slot_of (Take slot key total) = slot
slot_of (Close slot key) = slot

-- the answer, and what was lent as it is then
pub record Reply : Type 0 where
  pub answer : Answer
  pub after : Hub

module _ (widths : List ℕ) where
  -- Open and close are lent the table and the stored number, a take the table and the record buffer, a submit these and the 1,024 widths.
  abbrev pub is_lent : Hub → Request → Bool
  is_lent h (Open slot key d) = is_table h.table
  is_lent h (Submit slot key number part) = is_store h.table h.records && eqb (length widths) 1024
  is_lent h (Take slot key total) = is_store h.table h.records
  is_lent h (Close slot key) = is_table h.table

  abbrev pub on_entry : Hub → Request → Entry → Out
  on_entry h (Open slot key d) = opening key d h.stored
  on_entry h (Submit slot key number part) = submitting widths key number part (area_of h.records slot)
  on_entry h (Take slot key total) = taking key total (area_of h.records slot)
  on_entry h (Close slot key) = closing key h.stored

  abbrev pub on_records : Hub → Request → Entry → List ℕ
  on_records h (Open slot key d) e = h.records
  on_records h (Submit slot key number part) e = storing widths h.records slot key number part e
  on_records h (Take slot key total) e = draining h.records slot key total e
  on_records h (Close slot key) e = h.records

  abbrev pub on_stored : Hub → Request → Entry → ℕ
  on_stored h (Open slot key d) e = one_more key d h.stored e
  on_stored h (Submit slot key number part) e = h.stored
  on_stored h (Take slot key total) e = h.stored
  on_stored h (Close slot key) e = one_less key h.stored e

  unfoldable pub step : Hub → Request → Reply
  step h r = record {
    answer = answer_of (is_lent h r) (on_entry h r) h.table (slot_of r);
    after =
        hub (table_of (is_lent h r) (on_entry h r) h.table (slot_of r))
        (else_of (is_lent h r) (on_records h r) h.records h.table (slot_of r))
        (else_of (is_lent h r) (on_stored h r) h.stored h.table (slot_of r));
  }

  -- what is left after some requests, one after the other
  unfoldable pub steps : Hub → List Request → Hub
  steps h [] = h
  steps h (r ∷ rs) = steps (step h r).after rs

-- ---- the count

-- A count of open jobs walks the table, damaged entries included; a table of another length counts 0.
abbrev pub open_jobs : List Entry → ℕ
open_jobs [] = 0
open_jobs (e ∷ es) = (if is_open e then 1 else 0) + open_jobs es

unfoldable pub count_open : List Entry → ℕ
count_open table = if is_table table then open_jobs table else 0
