-- "Entry": what is kept of a slot's job, when it is damaged, and what the accepted requests make of it.
use Rattle.std.specs.Prelude.{ℕ, ◌+◌, ◌-◌, Bool, not, ◌&&◌, List, [], ◌∷◌, ◌++◌, replicate, leb, eqb}
use Rattle.part.specs.Numbers.{origin, ones}
use Rattle.part.specs.States.{point, state, with_used}
use Rattle.part.specs.Ranges.{Field, everything, up_to, ◌to◌, ◌within◌, hold, descriptor_fields, state_fields}
use Rattle.part.specs.declared.shapes.Descriptor.{Descriptor}
use Rattle.part.specs.declared.shapes.State.{State}
use Rattle.hub.specs.declared.jobs.Entry.{Entry}

abbrev pub entry : ℕ → ℕ → Descriptor → State → ℕ → ℕ → Entry
entry key mark d s next taken = record { key = key; mark = mark; descriptor = d; state = s; next = next; taken = taken }

-- Open or closed: the mark 0 is closed, any other open.
abbrev pub is_open : Entry → Bool
is_open e = not (eqb e.mark 0)

abbrev pub is_open_under : Entry → ℕ → Bool
is_open_under e key = is_open e && eqb e.key key

-- an old key: not above the last key
abbrev pub is_old_key : Entry → ℕ → Bool
is_old_key e key = leb key e.key

-- its numbers, each with its range, in one fixed order; a key and a total taken have no range but their type's
unfoldable pub entry_fields : Entry → List Field
entry_fields e =
    (e.key within everything ∷ e.mark within up_to 1 ∷ descriptor_fields e.descriptor)
    ++ state_fields e.state
    ++ (e.next within 1 to 65536 ∷ e.taken within everything ∷ [])

-- An open entry with any number out of range is damaged. A closed entry never is.
abbrev pub damaged : Entry → Bool
damaged e = is_open e && not (hold (entry_fields e))

-- ---- what becomes of an entry

-- made new from the descriptor: variable space absent, no suppression, no chain, nothing used
abbrev pub first_state : Descriptor → State
first_state d =
    state (point (origin + d.initial.i) (origin + d.initial.b)) d.margin d.increment d.adjustment d.direction d.font d.colour ones 0 0 0

-- under this key, next part 1, nothing taken
abbrev pub opened : ℕ → Descriptor → Entry
opened key d = entry key 1 d (first_state d) 1 0

-- a part's state to go on from, and next grows by one
abbrev pub gone_on : Entry → State → Entry
gone_on e s = entry e.key e.mark e.descriptor s (e.next + 1) e.taken

-- the record bytes that were written since the job was opened: those taken and those in use
abbrev pub all_written : Entry → ℕ
all_written e = e.taken + e.state.used

-- the total taken is this one, and the other bytes that were written are in use
abbrev pub drained : Entry → ℕ → Entry
drained e total = entry e.key e.mark e.descriptor (with_used e.state (all_written e - total)) e.next total

-- only the open mark changes
abbrev pub closed : Entry → Entry
closed e = entry e.key 0 e.descriptor e.state e.next e.taken

-- ---- a fresh table

-- closed, with last key 0; its other numbers are 0, the variable space absent, next part 1
unfoldable pub fresh : Entry
fresh =
    entry 0 0
    (record { size = point 0 0; initial = point 0 0; margin = 0; increment = 0; adjustment = 0; direction = 0; font = 0; colour = 0; rule = 0; hidden = 0 })
    (state (point origin origin) 0 0 0 0 0 0 ones 0 0 0) 1 0

abbrev pub fresh_table : List Entry
fresh_table = replicate 16 fresh
