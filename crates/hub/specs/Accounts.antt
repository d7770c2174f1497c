-- The hub as a tenant sees it: a slot's account, which is what the answers have told of it and what its printer has read, and the answer that it tells to the next request.
use Rattle.std.specs.Prelude.{ℕ, ◌+◌, ◌-◌, Bool, true, false, not, ◌&&◌, List, [], ◌∷◌, ◌++◌, map, length, take, ltb, leb, eqb, if◌then◌else◌}
use Rattle.part.specs.Checks.{Checked, fine, fault, refuse, require, ◌>>=◌, ◌>>◌}
use Rattle.part.specs.States.{with_used}
use Rattle.part.specs.Ranges.{◌to◌, ◌∈◌, hold, descriptor_fields}
use Rattle.part.specs.Reading.{cut}
use Rattle.part.specs.Records.{Item, bytes_of, all_bytes}
use Rattle.part.specs.Place.{Effect, effect, place}
use Rattle.part.specs.Part.{elements, elements_by, answer}
use Rattle.part.specs.declared.shapes.Descriptor.{Descriptor}
use Rattle.part.specs.declared.shapes.State.{State}
use Rattle.part.specs.declared.shapes.Answer.{Answer}
use Rattle.hub.specs.Entries.{first_state}
use Rattle.hub.specs.Requests.{is_one_of, Hub, Request, Open, Submit, Take, Close, slot_of}

-- ---- what is known of a slot

pub record Numbered : Type 0 where
  pub number : ℕ
  pub part : List ℕ

-- an accepted open's key and descriptor, the parts accepted since, in that order; and the record bytes taken out of its area since
pub record Job : Type 0 where
  pub key : ℕ
  pub descriptor : Descriptor
  pub parts : List Numbered
  pub taken : List ℕ

-- no job was opened yet; one runs; the last one was closed
pub data Account : Type 0 where
  unused : Account
  running : Job → Account
  ended : Job → Account

-- the last key; before the first job 0
abbrev pub last_key : Account → ℕ
last_key unused = 0
last_key (running j) = j.key
last_key (ended j) = j.key

abbrev pub is_running : Account → Bool
is_running unused = false
is_running (running j) = true
is_running (ended j) = false

abbrev pub runs_under : Account → ℕ → Bool
runs_under a key = is_running a && eqb (last_key a) key

-- ---- an accepted request, noted: where no job runs, no part is accepted, no byte taken and none closed

abbrev pub with_part : Job → Numbered → Job
with_part j p = record { key = j.key; descriptor = j.descriptor; parts = j.parts ++ p ∷ []; taken = j.taken }

abbrev pub with_taken : Job → List ℕ → Job
with_taken j bytes = record { key = j.key; descriptor = j.descriptor; parts = j.parts; taken = j.taken ++ bytes }

-- beside the bytes that a printer found in the slot's area when it was sent: of a take those up to the total are what the printer has read
abbrev pub noted : Account → Request → List ℕ → Account
noted a (Open slot key d) found = running record { key = key; descriptor = d; parts = []; taken = [] }
noted unused (Submit slot key number part) found = unused
noted (running j) (Submit slot key number part) found = running (with_part j (record { number = number; part = part }))
noted (ended j) (Submit slot key number part) found = ended j
noted unused (Take slot key total) found = unused
noted (running j) (Take slot key total) found = running (with_taken j (take (total - length j.taken) found))
noted (ended j) (Take slot key total) found = ended j
noted unused (Close slot key) found = unused
noted (running j) (Close slot key) found = ended j
noted (ended j) (Close slot key) found = ended j

-- ---- what the rules give: some parts one after the other, each from the state that the one before it left; room is not asked

module _ (widths : List ℕ) where
  unfoldable pub parts_from : Descriptor → State → List (List ℕ) → Checked Effect
  parts_from d s [] = effect s []
  parts_from d s (p ∷ ps) = do
    first ← elements_by (place widths d) s (cut s.chain p)
    others ← parts_from d first.state ps
    effect others.state (first.items ++ others.items)

  abbrev pub by_the_rules : Job → Checked Effect
  by_the_rules j = parts_from j.descriptor (first_state j.descriptor) (map (λ p. p.part) j.parts)

-- ---- the answer that an account tells

-- running under this key 1, under another 13; a key not above the last 14; descriptor out of range 15
unfoldable pub to_open : Account → ℕ → Descriptor → Checked Answer
to_open a key d = do
  require (not (runs_under a key)) 1
  require (not (is_running a)) 13
  require (ltb (last_key a) key) 14
  require (hold (descriptor_fields d)) 15
  fine (answer 0 0 0)

-- running under this key 0; else the last key, above 0, 1; else 16
unfoldable pub to_close : Account → ℕ → Checked Answer
to_close a key = if runs_under a key then fine (answer 0 0 0) else if eqb (last_key a) key && ltb 0 key then refuse 1 else refuse 16

-- the places between records that stand one behind the other: in front of the first, and behind each
abbrev pub places_from : ℕ → List Item → List ℕ
places_from at [] = at ∷ []
places_from at (x ∷ xs) = at ∷ places_from (at + length (bytes_of x)) xs

module _ (widths : List ℕ) where
  -- where a job goes on: the bytes used are those of its items, less those taken
  abbrev pub goes_on : Job → Effect → State
  goes_on j so_far = with_used so_far.state (length (all_bytes so_far.items) - length j.taken)

  -- what the rules say of one more part behind the accepted ones: 19, 20 to 29, or its elements and record bytes
  unfoldable pub behind : Job → List ℕ → Checked Answer
  behind j part = do
    so_far ← by_the_rules widths j
    require (leb (length part) 8192) 19
    more ← elements widths j.descriptor (goes_on j so_far) (cut so_far.state.chain part)
    fine (answer 0 (length (cut so_far.state.chain part)) (length (all_bytes more.items)))

  -- number 0 or above 65,535 17; one of the accepted parts' 1; a gap 18; else what the rules say
  unfoldable pub to_part : Job → ℕ → List ℕ → Checked Answer
  to_part j number part = do
    require (number ∈ 1 to 65535) 17
    require (not (is_one_of number (map (λ p. p.number) j.parts))) 1
    require (eqb number (length j.parts + 1)) 18
    behind j part

  -- no job running under this key 16
  abbrev pub to_submit : Account → ℕ → ℕ → List ℕ → Checked Answer
  to_submit unused key number part = refuse 16
  to_submit (running j) key number part = require (eqb j.key key) 16 >> to_part j number part
  to_submit (ended j) key number part = refuse 16

  -- a total at or below the one taken 1; above 4,294,967,295, or not between two of the records that the rules give for the accepted parts 30
  unfoldable pub to_total : Job → ℕ → Checked Answer
  to_total j total = do
    require (ltb (length j.taken) total) 1
    require (leb total 4294967295) 30
    so_far ← by_the_rules widths j
    require (is_one_of total (places_from 0 so_far.items)) 30
    fine (answer 0 0 0)

  abbrev pub to_take : Account → ℕ → ℕ → Checked Answer
  to_take unused key total = refuse 16
  to_take (running j) key total = require (eqb j.key key) 16 >> to_total j total
  to_take (ended j) key total = refuse 16

  abbrev pub tells : Account → Request → Checked Answer
  tells a (Open slot key d) = to_open a key d
  tells a (Submit slot key number part) = to_submit a key number part
  tells a (Take slot key total) = to_take a key total
  tells a (Close slot key) = to_close a key

  -- open and close are lent nothing else that has a length; a take the record buffer of 65,536 bytes, a submit this and the 1,024 widths
  abbrev pub is_well_lent : Hub → Request → Bool
  is_well_lent h (Open slot key d) = true
  is_well_lent h (Submit slot key number part) = eqb (length h.records) 65536 && eqb (length widths) 1024
  is_well_lent h (Take slot key total) = eqb (length h.records) 65536
  is_well_lent h (Close slot key) = true

  -- before it come 10, where something lent beside the table of 16 has another length, and 11 for a slot above 15
  unfoldable pub told : Hub → Account → Request → Checked Answer
  told h a r = do
    require (is_well_lent h r) 10
    require (ltb (slot_of r) 16) 11
    tells a r

-- as an answer: a refusal's code and offset
abbrev pub as_answer : Checked Answer → Answer
as_answer (fine a) = a
as_answer (fault code at) = answer code at 0
