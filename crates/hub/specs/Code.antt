-- What the code's own functions say where they work otherwise than the rules are told: a check, and an answer, as a `Result`.
use Rattle.std.specs.Prelude.{ℕ, Bool, Result, Ok, Err, ltb, if◌then◌else◌}
use Rattle.part.specs.Checks.{Checked, fine, refuse}
use Rattle.part.specs.declared.shapes.Answer.{Answer}
use Rattle.hub.specs.Requests.{refusal}
use Rattle.hub.specs.declared.refusal.Refusal.{Refusal}
use Rattle.hub.specs.declared.refusal.Refusal.TheVariants.{AlreadyTaken, LentLength, NoSlot, Damaged, Busy, OldKey, BadDescriptor, NoJob, BadNumber, Gap, BadTotal, StoredNumber}

-- the code that is answered for a refusal
abbrev pub code_for : Refusal → ℕ
code_for AlreadyTaken = 1
code_for LentLength = 10
code_for NoSlot = 11
code_for Damaged = 12
code_for Busy = 13
code_for OldKey = 14
code_for BadDescriptor = 15
code_for NoJob = 16
code_for BadNumber = 17
code_for Gap = 18
code_for BadTotal = 30
code_for StoredNumber = 32

-- a check
abbrev pub tested : Result Unit Refusal → Checked Unit
tested (Ok _) = fine tt
tested (Err why) = refuse (code_for why)

-- an answer
abbrev pub replied : Result Answer Refusal → Answer
replied (Ok a) = a
replied (Err why) = refusal (code_for why)

-- where a slot's entry stands, by whether what is lent has the right lengths
abbrev pub entry_place : Bool → ℕ → Result ℕ Refusal
entry_place lent slot = if lent then (if ltb slot 16 then Ok slot else Err NoSlot) else Err LentLength
