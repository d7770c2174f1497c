-- "Requests to try": rows for every line of "Requests and their order", each with all that is lent before and after. `proofs/Trials.antt` has that they hold.
use Rattle.std.specs.Prelude.{ℕ, ◌-◌, ◌%◌, List, [], ◌∷◌, ◌++◌, replicate, length, take, drop}
use Rattle.part.specs.Numbers.{little}
use Rattle.part.specs.Sheets.{hex, gives, width_table, blank, on, stands, job_of, job, halfway, start}
use Rattle.part.specs.declared.shapes.Descriptor.{Descriptor}
use Rattle.part.specs.declared.shapes.State.{State}
use Rattle.part.specs.declared.shapes.Answer.{Answer}
use Rattle.hub.specs.Entries.{fresh_table}
use Rattle.hub.specs.Requests.{submitting, taking, area_left, Hub, hub, Request, Open, Submit, Take, Close, step, steps, count_open}
use Rattle.hub.specs.declared.jobs.Entry.{Entry}

-- how many widths and what else is lent; requests before, and one; its answer, what is left, and the jobs that are open then
pub record Step : Type 0 where
  pub widths : ℕ
  pub lent : Hub
  pub earlier : List Request
  pub request : Request
  pub answer : Answer
  pub left : Hub
  pub jobs : ℕ

-- a request with all that belongs to it; or a submit on one entry alone: its key, number and part, the entry afterwards and the answer;
-- or a take on one entry and its area: its key and total, the entry and the area afterwards, and the code
pub data Asking : Type 0 where
  asking : Step → Asking
  lone : Entry → ℕ → ℕ → List ℕ → Entry → Answer → Asking
  drains : Entry → List ℕ → ℕ → ℕ → Entry → List ℕ → ℕ → Asking

-- key, mark, descriptor, state, next, and the total taken
abbrev pub has : ℕ → ℕ → Descriptor → State → ℕ → ℕ → Entry
has key mark d s next taken = record { key = key; mark = mark; descriptor = d; state = s; next = next; taken = taken }

-- a job of which nothing was taken
abbrev pub keeps : ℕ → ℕ → Descriptor → State → ℕ → Entry
keeps key mark d s next = has key mark d s next 0

-- the other slots': closed, with last key 9; and damaged, if it were open
abbrev pub elsewhere : Entry
elsewhere = keeps 9 0 (job_of 0 0 0 0 0 0 0 0 0 0 0 0) (halfway (on 0 0) 5000) 0

-- a table with one entry at a slot, among the others
abbrev pub table_with : ℕ → Entry → List Entry
table_with slot e = replicate slot elsewhere ++ e ∷ replicate (15 - slot) elsewhere

-- the record buffer: slot 2 has bytes of its own in it, and records behind its 160 bytes used
abbrev pub buffer : List ℕ → List ℕ
buffer bytes = blank 8192 ++ replicate 160 0xDD ++ bytes ++ replicate (3936 - length bytes) 0xDD ++ blank 53248

-- an open or a close on one slot's entry, beside a few record bytes and a stored number: the entry afterwards, the stored number, and the open jobs
abbrev pub misled : ℕ → Entry → ℕ → Request → ℕ → Entry → ℕ → ℕ → Asking
misled slot e stored r code after left jobs = asking record {
  widths = 1024;
  lent = hub (table_with slot e) (blank 8) stored;
  earlier = [];
  request = r;
  answer = gives code 0 0;
  left = hub (table_with slot after) (blank 8) left;
  jobs = jobs;
}

-- the same where the stored number is right: afterwards it is the open jobs
abbrev pub asks : ℕ → Entry → ℕ → Request → ℕ → Entry → ℕ → Asking
asks slot e stored r code after jobs = misled slot e stored r code after jobs jobs

-- a submit to slot 2: its answer, the entry afterwards and the records added; it is not lent the stored number
abbrev pub submits : Entry → Request → Answer → Entry → List ℕ → ℕ → Asking
submits e r a after records jobs = asking record {
  widths = 1024;
  lent = hub (table_with 2 e) (buffer []) 77;
  earlier = [];
  request = r;
  answer = a;
  left = hub (table_with 2 after) (buffer records) 77;
  jobs = jobs;
}

-- a request that is refused for what is lent, or for its slot, whatever the stored number
abbrev pub turned : ℕ → List Entry → List ℕ → Request → ℕ → ℕ → Asking
turned widths table records r code jobs = asking record {
  widths = widths;
  lent = hub table records 99;
  earlier = [];
  request = r;
  answer = gives code 0 0;
  left = hub table records 99;
  jobs = jobs;
}

-- a job under key 6 that stands at `start`; and as a job begins
abbrev pub ongoing : ℕ → Entry
ongoing next = keeps 6 1 job start next

abbrev pub begins : ℕ → Entry
begins key = keeps key 1 job (stands (on 10 20) 30 40 5 1 2 0xFF00 65535 0 0 0) 1

-- a job that was closed
abbrev pub shut : Entry
shut = keeps 6 0 job start 4

-- a job with a number out of range
abbrev pub broken : Entry
broken = keeps 6 1 job (halfway (on 100 90) 4097) 4

abbrev pub bad_job : Descriptor
bad_job = job_of 5000 3000 10 20 30 40 5 1 2 0xFF00 60 128

-- the part of one character, and its record after `start`
abbrev pub a_part : List ℕ
a_part = hex 0xC1

abbrev pub its_record : List ℕ
its_record = hex 0x1100_0100_6400_5A00_0100_0000_0600_3200_C1

-- a job under key 6 of which some bytes are in use, and some were taken
abbrev pub holding : ℕ → ℕ → Entry
holding used taken = has 6 1 job (halfway (on 100 90) used) 4 taken

-- records by their lengths alone: kind 7 is none, and a take doesn't look at it
abbrev pub lengths : List ℕ → List ℕ
lengths [] = []
lengths (n ∷ ns) = little n ++ 7 ∷ 0 ∷ replicate (n - 4) (n % 256) ++ lengths ns

-- an area with three records of 16, 18 and 17 bytes, and something behind them
abbrev pub three : List ℕ
three = lengths (16 ∷ 18 ∷ 17 ∷ []) ++ hex 0xAAAA_AAAA

-- the second and the third moved down; behind them all is as it was
abbrev pub two : List ℕ
two = lengths (18 ∷ 17 ∷ []) ++ drop 35 three

unfoldable pub trials : List Asking
trials =
    -- open: a new key, the greatest key, a table's first and last slot; a closed entry is never damaged
    asks 3 shut 0 (Open 3 7 job) 0 (begins 7) 1
    ∷ asks 0 elsewhere 0 (Open 0 4294967295 job) 0 (begins 4294967295) 1
    ∷ asks 0 (begins 4294967295) 1 (Open 0 4294967295 job) 1 (begins 4294967295) 1
    ∷ asks 15 elsewhere 0 (Open 15 10 job) 0 (begins 10) 1
    -- a key not above the last; open under this key, and under others; a bad descriptor, last of all
    ∷ asks 3 shut 0 (Open 3 6 job) 14 shut 0
    ∷ asks 3 shut 0 (Open 3 5 bad_job) 14 shut 0
    ∷ asks 3 shut 0 (Open 3 7 bad_job) 15 shut 0
    ∷ asks 3 (ongoing 4) 1 (Open 3 6 bad_job) 1 (ongoing 4) 1
    ∷ asks 3 (ongoing 4) 1 (Open 3 7 bad_job) 13 (ongoing 4) 1
    ∷ asks 3 (ongoing 4) 1 (Open 3 5 job) 13 (ongoing 4) 1
    -- damaged: a state, a descriptor, a mark, next; the ends of next are not; a damaged job is counted
    ∷ asks 3 broken 1 (Open 3 6 job) 12 broken 1
    ∷ asks 3 (keeps 6 1 bad_job start 4) 1 (Open 3 7 job) 12 (keeps 6 1 bad_job start 4) 1
    ∷ asks 3 (keeps 6 2 job start 4) 1 (Open 3 6 job) 12 (keeps 6 2 job start 4) 1
    ∷ asks 3 (ongoing 0) 1 (Open 3 6 job) 12 (ongoing 0) 1
    ∷ asks 3 (ongoing 65537) 1 (Open 3 6 job) 12 (ongoing 65537) 1
    ∷ asks 3 (ongoing 1) 1 (Open 3 6 job) 1 (ongoing 1) 1
    ∷ asks 3 (ongoing 65536) 1 (Open 3 6 job) 1 (ongoing 65536) 1
    -- close: only the mark changes; closed already; another key; key 0; damaged
    ∷ asks 3 (ongoing 4) 1 (Close 3 6) 0 shut 0
    ∷ asks 3 (holding 51 1000) 1 (Close 3 6) 0 (has 6 0 job (halfway (on 100 90) 51) 4 1000) 0
    ∷ asks 3 shut 0 (Close 3 6) 1 shut 0
    ∷ asks 3 shut 0 (Close 3 5) 16 shut 0
    ∷ asks 3 (ongoing 4) 1 (Close 3 5) 16 (ongoing 4) 1
    ∷ asks 3 (keeps 0 1 job start 4) 1 (Close 3 0) 0 (keeps 0 0 job start 4) 0
    ∷ asks 3 (keeps 0 0 job start 4) 0 (Close 3 0) 16 (keeps 0 0 job start 4) 0
    ∷ asks 3 broken 1 (Close 3 6) 12 broken 1
    -- a stored number that is not the count: an open grows it up to 16, a close lets it fall from 16 and to 0
    ∷ misled 3 shut 15 (Open 3 7 job) 0 (begins 7) 16 1
    ∷ misled 3 shut 16 (Open 3 7 job) 32 shut 16 0
    ∷ misled 3 shut 17 (Open 3 7 job) 32 shut 17 0
    ∷ misled 3 shut 4294967295 (Open 3 7 job) 32 shut 4294967295 0
    ∷ misled 3 (ongoing 4) 16 (Close 3 6) 0 shut 15 0
    ∷ misled 3 (ongoing 4) 17 (Close 3 6) 32 (ongoing 4) 17 1
    ∷ misled 3 (ongoing 4) 4294967295 (Close 3 6) 32 (ongoing 4) 4294967295 1
    ∷ misled 3 (ongoing 4) 0 (Close 3 6) 32 (ongoing 4) 0 1
    -- and every other answer comes before 32
    ∷ misled 3 shut 16 (Open 3 7 bad_job) 15 shut 16 0
    ∷ misled 3 shut 17 (Open 3 6 job) 14 shut 17 0
    ∷ misled 3 (ongoing 4) 16 (Open 3 7 job) 13 (ongoing 4) 16 1
    ∷ misled 3 (ongoing 4) 17 (Open 3 6 job) 1 (ongoing 4) 17 1
    ∷ misled 3 broken 16 (Open 3 6 job) 12 broken 16 1
    ∷ misled 3 shut 0 (Close 3 5) 16 shut 0 0
    ∷ misled 3 shut 17 (Close 3 6) 1 shut 17 0
    ∷ misled 3 broken 17 (Close 3 6) 12 broken 17 1
    -- submit: the next number, also the last one; a number resent, a gap, a bad one
    ∷ submits (ongoing 4) (Submit 2 6 4 a_part) (gives 0 1 17) (keeps 6 1 job (halfway (on 555 90) 177) 5) its_record 1
    ∷ submits (ongoing 4) (Submit 2 6 3 a_part) (gives 1 0 0) (ongoing 4) [] 1
    ∷ lone (ongoing 65535) 6 65535 [] (ongoing 65536) (gives 0 0 0)
    ∷ lone (ongoing 65536) 6 65535 a_part (ongoing 65536) (gives 1 0 0)
    ∷ lone (ongoing 4) 6 5 a_part (ongoing 4) (gives 18 0 0)
    ∷ lone (ongoing 4) 6 0 a_part (ongoing 4) (gives 17 0 0)
    ∷ lone (ongoing 65536) 6 65536 a_part (ongoing 65536) (gives 17 0 0)
    -- closed, or another key; damaged; the part's own answers
    ∷ lone shut 6 4 a_part shut (gives 16 0 0)
    ∷ lone (ongoing 4) 7 0 a_part (ongoing 4) (gives 16 0 0)
    ∷ lone broken 7 4 a_part broken (gives 12 0 0)
    ∷ lone (ongoing 4) 6 4 (replicate 8193 0x2B) (ongoing 4) (gives 19 0 0)
    ∷ submits (ongoing 4) (Submit 2 6 4 (hex 0xC1_2BD304C68000)) (gives 24 5 0) (ongoing 4) [] 1
    -- take: up to the first record's end, the second's, the last's; a total counts from the job's opening
    ∷ drains (holding 51 0) three 6 16 (holding 35 16) two 0
    ∷ drains (holding 51 0) three 6 34 (holding 17 34) (lengths (17 ∷ []) ++ drop 17 three) 0
    ∷ drains (holding 51 0) three 6 51 (holding 0 51) three 0
    ∷ drains (holding 51 1000) three 6 1016 (holding 35 1016) two 0
    -- at or below what was taken, whatever else; beyond what was written; inside a record, its head too; 12 and 16 before 1
    ∷ drains (holding 51 0) three 6 0 (holding 51 0) three 1
    ∷ drains (holding 51 1000) three 6 1000 (holding 51 1000) three 1
    ∷ drains (holding 51 1000) three 6 16 (holding 51 1000) three 1
    ∷ drains (holding 51 0) three 6 52 (holding 51 0) three 30
    ∷ drains (holding 51 1000) three 6 51 (holding 51 1000) three 1
    ∷ drains (holding 51 1000) three 6 1052 (holding 51 1000) three 30
    ∷ drains (holding 51 0) three 6 15 (holding 51 0) three 30
    ∷ drains (holding 51 0) three 6 17 (holding 51 0) three 30
    ∷ drains (holding 51 0) three 6 50 (holding 51 0) three 30
    ∷ drains shut three 6 0 shut three 16
    ∷ drains (holding 51 0) three 5 0 (holding 51 0) three 16
    ∷ drains broken three 7 0 broken three 12
    -- the greatest total, and one more
    ∷ drains (holding 51 4294967279) three 6 4294967295 (holding 35 4294967295) two 0
    ∷ drains (holding 51 4294967280) three 6 4294967296 (holding 51 4294967280) three 30
    ∷ drains (holding 51 4294967295) three 6 4294967311 (holding 51 4294967295) three 30
    ∷ drains (holding 51 4294967295) three 6 4294967295 (holding 51 4294967295) three 1
    -- a length under 16 ends the steps, and so does one past the bytes used; the end itself is met just when a step is
    ∷ drains (holding 51 0) (lengths (16 ∷ []) ++ hex 0x0F00 ++ replicate 40 1) 6 16 (holding 35 16) (hex 0x0F00 ++ replicate 33 1 ++ drop 35 (lengths (16 ∷ []) ++ hex 0x0F00 ++ replicate 40 1)) 0
    ∷ drains (holding 31 0) (lengths (16 ∷ []) ++ hex 0x0F00 ++ replicate 40 1) 6 31 (holding 31 0) (lengths (16 ∷ []) ++ hex 0x0F00 ++ replicate 40 1) 30
    ∷ drains (holding 50 0) three 6 50 (holding 50 0) three 30
    ∷ drains (holding 50 0) three 6 34 (holding 16 34) (take 16 (lengths (17 ∷ [])) ++ drop 16 three) 0
    -- on all that is lent, to slot 2, where a length is a number of two bytes: the buffer's other bytes stay, and the stored number
    ∷ asking record {
      widths = 0;
      lent = hub (table_with 2 (holding 300 7)) (blank 8192 ++ lengths (280 ∷ 20 ∷ []) ++ replicate 3796 0xDD ++ blank 53248) 77;
      earlier = [];
      request = Take 2 6 287;
      answer = gives 0 0 0;
      left = hub (table_with 2 (holding 20 287)) (blank 8192 ++ lengths (20 ∷ []) ++ drop 20 (lengths (280 ∷ 20 ∷ []) ++ replicate 3796 0xDD) ++ blank 53248) 77;
      jobs = 1;
    }
    -- a take, the same again, a part that uses the room, and a take of all: no record is read twice
    ∷ asking record {
      widths = 1024;
      lent = hub (table_with 2 (holding 51 0)) (blank 8192 ++ three ++ replicate 4041 0xDD ++ blank 53248) 77;
      earlier = Take 2 6 34 ∷ Take 2 6 34 ∷ Submit 2 6 4 a_part ∷ [];
      request = Take 2 6 68;
      answer = gives 0 0 0;
      left = hub (table_with 2 (has 6 1 job (halfway (on 555 90) 0) 5 68)) (blank 8192 ++ lengths (17 ∷ []) ++ its_record ++ drop 34 three ++ replicate 4041 0xDD ++ blank 53248) 77;
      jobs = 1;
    }
    -- 10 before 11, and 11 before the entry; open and close are not lent the records; another length counts 0
    ∷ turned 1024 (replicate 15 (ongoing 4)) [] (Open 16 7 job) 10 0
    ∷ turned 1024 (replicate 17 (ongoing 4)) [] (Close 3 6) 10 0
    ∷ turned 1024 (replicate 16 (ongoing 4)) [] (Open 16 7 bad_job) 11 16
    ∷ turned 1024 (replicate 16 broken) [] (Close 16 6) 11 16
    ∷ turned 1024 (replicate 16 broken) (buffer []) (Submit 16 6 4 a_part) 11 16
    ∷ turned 1024 (replicate 15 (ongoing 4)) (buffer []) (Submit 16 6 4 a_part) 10 0
    ∷ turned 1024 (replicate 16 (ongoing 4)) (blank 65535) (Submit 16 6 4 a_part) 10 16
    ∷ turned 1024 (replicate 16 (ongoing 4)) (blank 65537) (Submit 2 6 4 a_part) 10 16
    ∷ turned 1023 (replicate 16 (ongoing 4)) (buffer []) (Submit 16 6 4 a_part) 10 16
    ∷ turned 1023 (replicate 16 broken) (buffer []) (Take 16 6 0) 11 16
    ∷ turned 1024 (replicate 15 (ongoing 4)) (buffer []) (Take 16 6 0) 10 0
    ∷ turned 1024 (replicate 16 (ongoing 4)) (blank 65535) (Take 16 6 0) 10 16
    ∷ turned 1024 (replicate 16 (ongoing 4)) (blank 65537) (Take 2 6 0) 10 16
    -- a fresh table: closed, with last key 0
    ∷ asking record {
      widths = 1024;
      lent = hub fresh_table [] 0;
      earlier = [];
      request = Close 0 0;
      answer = gives 16 0 0;
      left = hub (replicate 16 (keeps 0 0 (job_of 0 0 0 0 0 0 0 0 0 0 0 0) (stands (on 0 0) 0 0 0 0 0 0 65535 0 0 0) 1)) [] 0;
      jobs = 0;
    }
    -- one request after the other
    ∷ asking record {
      widths = 1024;
      lent = hub (table_with 2 (ongoing 4)) [] 1;
      earlier = Close 2 6 ∷ Open 2 7 job ∷ [];
      request = Open 3 10 job;
      answer = gives 0 0 0;
      left = hub (replicate 2 elsewhere ++ begins 7 ∷ begins 10 ∷ replicate 12 elsewhere) [] 2;
      jobs = 2;
    }
    -- beside a stored number that is not the count, requests on different slots don't change places: an open is refused, and behind a close it isn't
    ∷ misled 2 (ongoing 4) 16 (Open 3 10 job) 32 (ongoing 4) 16 1
    ∷ asking record {
      widths = 1024;
      lent = hub (table_with 2 (ongoing 4)) (blank 8) 16;
      earlier = Close 2 6 ∷ [];
      request = Open 3 10 job;
      answer = gives 0 0 0;
      left = hub (replicate 2 elsewhere ++ shut ∷ begins 10 ∷ replicate 12 elsewhere) (blank 8) 16;
      jobs = 1;
    }
    ∷ []

-- a row as the definitions have it
unfoldable pub step_taken : Step → Step
step_taken a =
    let r = step (width_table a.widths) (steps (width_table a.widths) a.lent a.earlier) a.request in
    record {
      widths = a.widths;
      lent = a.lent;
      earlier = a.earlier;
      request = a.request;
      answer = r.answer;
      left = r.after;
      jobs = count_open r.after.table;
    }

unfoldable pub asked : Asking → Asking
asked (asking a) = asking (step_taken a)
asked (drains e area key total after left code) =
    let r = taking key total area e in
    drains e area key total r.entry (area_left key total area e) r.answer.code
asked (lone e key number part after a) =
    let r = submitting (width_table 1024) key number part (blank 4096) e in
    lone e key number part r.entry r.answer
