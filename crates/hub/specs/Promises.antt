-- "What the promises have to say": the promises over the rules of `Requests`, each as one type.
-- Their proofs: Answering, Leaving, Storing, Swapping, Telling, Holding, Printing, Repeating.
use Rattle.std.specs.Prelude.{ℕ, zero, suc, ◌+◌, ◌*◌, ◌≤◌, ◌<◌, ◌≡◌, Bool, true, false, ◌&&◌, List, [], ◌∷◌, ◌++◌, map, length, take, drop, get_or, ltb, eqb, if◌then◌else◌}
use Rattle.part.specs.Checks.{fine}
use Rattle.part.specs.States.{with_used}
use Rattle.part.specs.Ranges.{Range, up_to, only, ◌to◌, ◌or◌, ◌∈◌}
use Rattle.part.specs.Records.{Item, all_bytes, little_at, is_whole, is_empty, boundaries}
use Rattle.part.specs.Place.{Effect}
use Rattle.part.specs.Drawing.{all_on_sheet}
use Rattle.part.specs.declared.shapes.Descriptor.{Descriptor}
use Rattle.part.specs.declared.shapes.Answer.{Answer}
use Rattle.hub.specs.Entries.{entry, is_open, is_open_under, damaged, all_written}
use Rattle.hub.specs.Requests.{area_of, refusal, Hub, Request, Open, Submit, Take, Close, slot_of, step, steps, count_open}
use Rattle.hub.specs.Accounts.{Job, Account, unused, running, ended, by_the_rules, told, as_answer}
use Rattle.hub.specs.Histories.{entry_of, printed, account}
use Rattle.hub.specs.declared.jobs.Entry.{Entry}

-- ---- ANSWERED (demand 1): any request, whatever is lent, is answered with a code of the table that is one of its own. Its two numbers are 0
-- unless said: a part that is done has its elements and its record bytes, and 20 to 29 the offset of a byte of the part, which can be looked
-- at without a test (which byte: `Pointing` of the part's rule book).

abbrev pub codes_of : Request → Range
codes_of (Open slot key d) = up_to 1 or 10 to 15 or only 32
codes_of (Submit slot key number part) = up_to 1 or 10 to 12 or 16 to 29
codes_of (Take slot key total) = up_to 1 or 10 to 12 or only 16 or only 30
codes_of (Close slot key) = up_to 1 or 10 to 12 or only 16 or only 32

abbrev pub is_submit : Request → Bool
is_submit (Open slot key d) = false
is_submit (Submit slot key number part) = true
is_submit (Take slot key total) = false
is_submit (Close slot key) = false

-- the bytes that a request sends
abbrev pub part_of : Request → List ℕ
part_of (Open slot key d) = []
part_of (Submit slot key number part) = part
part_of (Take slot key total) = []
part_of (Close slot key) = []

pub record OfTheTable (r : Request) (a : Answer) : Type 0 where
  pub code : (a.code ∈ codes_of r) ≡ true
  pub first : (is_submit r && a.code ∈ only 0 or 20 to 29) ≡ false → a.first ≡ 0
  pub second : (is_submit r && a.code ∈ only 0) ≡ false → a.second ≡ 0
  pub inside : (a.code ∈ 20 to 29) ≡ true → a.first < length (part_of r)

abbrev pub Answered : Type 0
Answered = (widths : List ℕ) (h : Hub) (r : Request) → OfTheTable r (step widths h r).answer

-- ---- UNTOUCHED ("Every code but 0 .. leaves all that was lent untouched; with 0, everything not named stays"): any request, whatever is lent.

-- the record bytes that an accepted request writes: a submit those from `used` up to the new `used`, a take those from the area's start up to the new `used`,
-- open and close none
abbrev pub Writes : Request → Entry → Entry → ℕ → Type 0
Writes (Open slot key d) e f at = ⊥
Writes (Submit slot key number part) e f at = (4096 * slot + e.state.used ≤ at) × (at < 4096 * slot + f.state.used)
Writes (Take slot key total) e f at = (4096 * slot ≤ at) × (at < 4096 * slot + f.state.used)
Writes (Close slot key) e f at = ⊥

-- what stays of its own entry: with a submit key, mark, descriptor and the total taken; with a take all but the bytes used and the total taken, which is the one sent,
-- and the bytes written in all; with a close all but the open mark
abbrev pub Stays : Request → Entry → Entry → Type 0
Stays (Open slot key d) e f = Unit
Stays (Submit slot key number part) e f = (f.key ≡ e.key) × (f.mark ≡ e.mark) × (f.descriptor ≡ e.descriptor) × (f.taken ≡ e.taken)
Stays (Take slot key total) e f = (f ≡ entry e.key e.mark e.descriptor (with_used e.state f.state.used) e.next total) × (all_written f ≡ all_written e)
Stays (Close slot key) e f = (f.key ≡ e.key) × (f.descriptor ≡ e.descriptor) × (f.state ≡ e.state) × (f.next ≡ e.next) × (f.taken ≡ e.taken)

-- what becomes of the stored number of open jobs: an open makes it one more, a close one less; submit and take leave it
abbrev pub Counted : Request → ℕ → ℕ → Type 0
Counted (Open slot key d) stored now = now ≡ stored + 1
Counted (Submit slot key number part) stored now = now ≡ stored
Counted (Take slot key total) stored now = now ≡ stored
Counted (Close slot key) stored now = now + 1 ≡ stored

pub record OnlyItsOwn (r : Request) (h now : Hub) : Type 0 where
  pub entries : (slot : ℕ) → (slot ≡ slot_of r → ⊥) → entry_of now slot ≡ entry_of h slot
  pub its_entry : Stays r (entry_of h (slot_of r)) (entry_of now (slot_of r))
  pub bytes : (at : ℕ) → (Writes r (entry_of h (slot_of r)) (entry_of now (slot_of r)) at → ⊥) → get_or now.records at 0 ≡ get_or h.records at 0
  pub number : Counted r h.stored now.stored
  pub table_size : length now.table ≡ length h.table
  pub records_size : length now.records ≡ length h.records

pub record Untouched : Type 0 where
  pub refused : (widths : List ℕ) (h : Hub) (r : Request) → ((step widths h r).answer.code ≡ 0 → ⊥) → (step widths h r).after ≡ h
  pub accepted : (widths : List ℕ) (h : Hub) (r : Request) → (step widths h r).answer.code ≡ 0 → OnlyItsOwn r h (step widths h r).after

-- ---- A fresh table: all are closed, with last key 0. A fresh start has 0 beside it.

pub record Fresh (h : Hub) : Type 0 where
  pub sixteen : length h.table ≡ 16
  pub all_closed : (slot : ℕ) → is_open (entry_of h slot) ≡ false
  pub no_keys : (slot : ℕ) → (entry_of h slot).key ≡ 0

-- ---- STORED: the stored number of open jobs is the walked count, so that nobody needs to walk. Where it is, whatever the table (of any length, with
-- damaged entries too), no request is answered 32, and it is so after any request; so it is ever after a fresh start.

abbrev pub IsCount : Hub → Type 0
IsCount h = h.stored ≡ count_open h.table

pub record Stored : Type 0 where
  pub never32 : (widths : List ℕ) (h : Hub) (r : Request) → IsCount h → (step widths h r).answer.code ≡ 32 → ⊥
  pub stays : (widths : List ℕ) (h : Hub) (r : Request) → IsCount h → IsCount (step widths h r).after
  pub ever : (widths : List ℕ) (h : Hub) → Fresh h → h.stored ≡ 0 → (rs : List Request) → IsCount (steps widths h rs)

-- ---- SWAP (demand 3): two requests that name different slots, each with its own width table, from any table (of any length, with damaged
-- entries too) beside which the stored number is the walked count, and any record buffer. In either order both get the same answers, and leave the
-- same table, the same record bytes and the same stored number.

pub record EitherOrder (v w : List ℕ) (h : Hub) (p q : Request) : Type 0 where
  pub first_answer : (step v (step w h q).after p).answer ≡ (step v h p).answer
  pub second_answer : (step w (step v h p).after q).answer ≡ (step w h q).answer
  pub same_table : (step w (step v h p).after q).after.table ≡ (step v (step w h q).after p).after.table
  pub same_records : (step w (step v h p).after q).after.records ≡ (step v (step w h q).after p).after.records
  pub same_stored : (step w (step v h p).after q).after.stored ≡ (step v (step w h q).after p).after.stored

abbrev pub Swap : Type 0
Swap = (v w : List ℕ) (h : Hub) (p q : Request) → IsCount h → (slot_of p ≡ slot_of q → ⊥) → EitherOrder v w h p q

-- ---- In the promises from here on a history begins with a fresh table, one width table, a record buffer of any content and, where nothing is said of
-- it, any stored number; and goes on with any requests, accepted or not. (Where the width table or the buffer has another length, no part is ever accepted.)

-- ---- TELLS (demands 1 to 3): after a fresh start every answer is what the slot's account tells, and nobody needs to look at the entry. It says what 1
-- means, and that nothing legal is refused.

abbrev pub Tells : Type 0
Tells = (widths : List ℕ) (h : Hub) → Fresh h → h.stored ≡ 0 → (before : List Request) (r : Request) →
    (step widths (steps widths h before) r).answer ≡ as_answer (told widths h (account widths (slot_of r) h unused before) r)

-- ---- HOLDS (demand 3): each job's entry and records are what the rules give for its descriptor and its accepted parts, each once, in number
-- order, also when it was closed and no other was opened since. And no entry is ever damaged.

-- n, n + 1, ..: so many numbers
abbrev pub counting : ℕ → ℕ → List ℕ
counting n zero = []
counting n (suc many) = n ∷ counting (n + 1) many

-- A job's parts have the numbers 1, 2, .. up to next - 1. The rules give a state and items for them. The entry has that state. The bytes used are
-- those of the items less those taken; the items' bytes are those that were taken out of the area, and then the area's own up to `used`.
pub record Kept (widths : List ℕ) (j : Job) (mark : ℕ) (e : Entry) (area : List ℕ) : Type 0 where
  pub in_order : map (λ p. p.number) j.parts ≡ counting 1 (length j.parts)
  pub result : Effect
  pub by_rules : by_the_rules widths j ≡ fine result
  pub its_entry : e ≡ entry j.key mark j.descriptor (with_used result.state e.state.used) (length j.parts + 1) (length j.taken)
  pub its_used : length j.taken + e.state.used ≡ length (all_bytes result.items)
  pub its_records : j.taken ++ take e.state.used area ≡ all_bytes result.items

abbrev pub Agrees : List ℕ → Account → Entry → List ℕ → Type 0
Agrees widths unused e area = (is_open e ≡ false) × (e.key ≡ 0)
Agrees widths (running j) e area = Kept widths j 1 e area
Agrees widths (ended j) e area = Kept widths j 0 e area

abbrev pub Holds : Type 0
Holds = (widths : List ℕ) (h : Hub) → Fresh h → (rs : List Request) (slot : ℕ) →
    let now = steps widths h rs in
    Agrees widths (account widths slot h unused rs) (entry_of now slot) (area_of now.records slot) × (damaged (entry_of now slot) ≡ false)

-- ---- READS: for printers, which take as they go, between any other requests. The records that a printer has taken of a job, and behind them those that it finds
-- now, are all the records of the accepted parts, in order, none twice and none missed; and no take ended inside a record.

pub record ReadInAll (widths : List ℕ) (j : Job) (found : List ℕ) : Type 0 where
  pub result : Effect
  pub by_rules : by_the_rules widths j ≡ fine result
  pub read : List Item
  pub unread : List Item
  pub in_all : read ++ unread ≡ result.items
  pub its_taken : j.taken ≡ all_bytes read
  pub its_found : found ≡ all_bytes unread

abbrev pub ReadOf : List ℕ → Account → List ℕ → Type 0
ReadOf widths unused found = Unit
ReadOf widths (running j) found = ReadInAll widths j found
ReadOf widths (ended j) found = ReadInAll widths j found

abbrev pub Reads : Type 0
Reads = (widths : List ℕ) (h : Hub) → Fresh h → (rs : List Request) (slot : ℕ) →
    ReadOf widths (account widths slot h unused rs) (printed (steps widths h rs) slot)

-- ---- PRINTS: printers draw from the areas and check nothing. Where a slot has had a job, open or closed, its bytes up to `used` are whole
-- records, one behind the other, none of them empty, and nothing else: stepping over them from the start meets the end.

-- so many whole records, none of them empty, and nothing behind them
abbrev pub WholeRecords : ℕ → List ℕ → Type 0
WholeRecords zero bytes = bytes ≡ []
WholeRecords (suc others) bytes = (is_whole bytes ≡ true) × (is_empty bytes ≡ false) × WholeRecords others (drop (little_at bytes 0) bytes)

pub record Printable (bytes : List ℕ) : Type 0 where
  pub count : ℕ
  pub records : WholeRecords count bytes
  pub met : length (boundaries bytes) ≡ count + 1
  pub end : get_or (boundaries bytes) count 0 ≡ length bytes

abbrev pub Prints : Type 0
Prints = (widths : List ℕ) (h : Hub) → Fresh h → (rs : List Request) (slot : ℕ) →
    let now = steps widths h rs in
    0 < (entry_of now slot).key → Printable (printed now slot)

-- ---- ON THE SHEET: every record of such a slot lies on its job's sheet.

pub record OnItsSheet (widths : List ℕ) (d : Descriptor) (bytes : List ℕ) : Type 0 where
  pub items : List Item
  pub its_bytes : bytes ≡ all_bytes items
  pub on_sheet : all_on_sheet widths d items ≡ true

abbrev pub OnTheSheet : Type 0
OnTheSheet = (widths : List ℕ) (h : Hub) → Fresh h → (rs : List Request) (slot : ℕ) →
    let now = steps widths h rs in
    0 < (entry_of now slot).key → OnItsSheet widths (entry_of now slot).descriptor (printed now slot)

-- ---- REPEAT (demand 3): a request that was once accepted, sent again at any later time, also after its slot was closed and opened under a new
-- key. It changes no byte and no entry, whatever table it began with. In a history its answer goes by the slot's entry at that time.

-- an open: 1 while its own job is open, 13 while another is, else 14; a submit: 1 while its own job is open, else 16;
-- a take: 1 while its own job is open, else 16; a close: 1 as long as its key is the last one (and above 0), else 16
abbrev pub resent : Request → Entry → ℕ
resent (Open slot key d) e = if is_open_under e key then 1 else if is_open e then 13 else 14
resent (Submit slot key number part) e = if is_open_under e key then 1 else 16
resent (Take slot key total) e = if is_open_under e key then 1 else 16
resent (Close slot key) e = if eqb e.key key && ltb 0 key then 1 else 16

pub record Repeat : Type 0 where
  pub changes_nothing : (widths : List ℕ) (h : Hub) (r : Request) (later : List Request) →
      let now = steps widths (step widths h r).after later in
      (step widths h r).answer.code ≡ 0 → (step widths now r).after ≡ now
  pub answers : (widths : List ℕ) (h : Hub) → Fresh h → (before : List Request) (r : Request) (later : List Request) →
      let now = steps widths h (before ++ r ∷ later) in
      (step widths (steps widths h before) r).answer.code ≡ 0 → (step widths now r).answer ≡ refusal (resent r (entry_of now (slot_of r)))
