-- For the promises: a history of requests, and what it makes of one slot's account.
use Rattle.std.specs.Prelude.{ℕ, ◌&&◌, List, [], ◌∷◌, get_or, take, eqb, if◌then◌else◌}
use Rattle.hub.specs.Entries.{fresh}
use Rattle.hub.specs.Requests.{area_of, Hub, Request, slot_of, step}
use Rattle.hub.specs.Accounts.{Account, noted}
use Rattle.hub.specs.declared.jobs.Entry.{Entry}

-- a slot's entry; a slot above 15 has none, and counts as fresh
abbrev pub entry_of : Hub → ℕ → Entry
entry_of h slot = get_or h.table slot fresh

-- what a printer finds of a slot: its area up to the bytes used
abbrev pub printed : Hub → ℕ → List ℕ
printed h slot = take (entry_of h slot).state.used (area_of h.records slot)

-- the requests that name this slot and were answered 0, noted one after the other
unfoldable pub account : List ℕ → ℕ → Hub → Account → List Request → Account
account widths slot h a [] = a
account widths slot h a (r ∷ rs) =
    let reply = step widths h r in
    account widths slot reply.after (if eqb (slot_of r) slot && eqb reply.answer.code 0 then noted a r (printed h slot) else a) rs
