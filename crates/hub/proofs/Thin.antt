-- The functions over the lent table are thin: where what is lent and the slot are right, each hands one entry on. What each way out says of the request's step.
use Rattle.std.specs.Prelude.{if◌then◌else◌, Result, Ok, Err}
use Rattle.std.proofs.Common.{ℕ, ◌≡◌, ◌<◌, Bool, true, false, List, set, get_or, refl, sym, ap, arith}
use Rattle.std.proofs.lemmas.List.{get_or_default}
use lib.Dec.{ltb}
use borrow.Author.Tests.{ltb-true, lt-ltb}
use Rattle.hub.specs.Entries.{fresh}
use Rattle.hub.specs.Requests.{refusal, Hub, hub, Request, Reply, slot_of, is_lent, on_entry, on_records, on_stored, step}
use Rattle.hub.specs.Code.{code_for, entry_place}
use Rattle.hub.specs.declared.jobs.Entry.{Entry}
use Rattle.hub.specs.declared.refusal.Refusal.{Refusal}
use Rattle.hub.specs.declared.refusal.Refusal.TheVariants.{LentLength, NoSlot}
use Rattle.part.specs.declared.shapes.Answer.{Answer}
use Rattle.hub.proofs.Deciding.{sixteen}

-- an answer and what is left are a step's
abbrev pub IsReply : Reply → Answer → Hub → Type 0
IsReply s a h = (a ≡ s.answer) × (h.table ≡ s.after.table) × (h.records ≡ s.after.records) × (h.stored ≡ s.after.stored)

-- of a place: whether it is refused, its code, and the place
abbrev is_refused : Result ℕ Refusal → ℕ
is_refused (Ok at) = 0
is_refused (Err why) = 1

abbrev told : Result ℕ Refusal → ℕ
told (Ok at) = 0
told (Err why) = code_for why

abbrev at_of : Result ℕ Refusal → ℕ
at_of (Ok at) = at
at_of (Err why) = 0

module _ (widths : List ℕ) (h : Hub) (r : Request) where
  abbrev Place : Bool → Bool → Result ℕ Refusal
  Place t u = if t then (if u then Ok (slot_of r) else Err NoSlot) else Err LentLength

  -- a lent length is wrong, or there is no such slot
  pub refused_step : {why : Refusal} {a : Answer} → entry_place (is_lent widths h r) (slot_of r) ≡ Err why → a ≡ refusal (code_for why) → IsReply (step widths h r) a h
  unfolding step
  refused_step {why} {a} is e = go (is_lent widths h r) refl (ltb (slot_of r) 16) refl is
    where
      go : (t : Bool) → is_lent widths h r ≡ t → (u : Bool) → ltb (slot_of r) 16 ≡ u → Place t u ≡ Err why → IsReply (step widths h r) a h
      go true b true k f = absurd (let z = ap is_refused f in omega arith)
      go true b false k f = rw (b, k, e, sym (ap told f)) (refl, refl, refl, refl)
      go false b u k f = rw (b, e, sym (ap told f)) (refl, refl, refl, refl)

  -- what is lent is right, and there is such a slot
  pub record Lent (at : ℕ) : Type 0 where
    pub lent : is_lent widths h r ≡ true
    pub low : slot_of r < 16
    pub is : slot_of r ≡ at

  pub placed_at : {at : ℕ} → entry_place (is_lent widths h r) (slot_of r) ≡ Ok at → Lent at
  placed_at {at} is = go (is_lent widths h r) refl (ltb (slot_of r) 16) refl is
    where
      go : (t : Bool) → is_lent widths h r ≡ t → (u : Bool) → ltb (slot_of r) 16 ≡ u → Place t u ≡ Ok at → Lent at
      go true b true k f = record { lent = b; low = ltb-true (slot_of r) 16 k; is = ap at_of f }
      go true b false k f = absurd (let z = ap is_refused f in omega arith)
      go false b u k f = absurd (let z = ap is_refused f in omega arith)

  -- the slot's entry is handed on; a read of the table gives it whatever x is
  pub done_step : {at : ℕ} (x : Entry) {e : Entry} {a : Answer} {bytes : List ℕ} {number : ℕ}
      → Lent at
      → (e ≡ (on_entry widths h r (get_or h.table at x)).entry) × (a ≡ (on_entry widths h r (get_or h.table at x)).answer) × (bytes ≡ on_records widths h r (get_or h.table at x)) × (number ≡ on_stored widths h r (get_or h.table at x))
      → IsReply (step widths h r) a (hub (set h.table at e) bytes number)
  unfolding step
  done_step {at} x {e} {a} {bytes} {number} l made =
      let was : get_or h.table at x ≡ get_or h.table (slot_of r) fresh = rw (sym l.is) (get_or_default h.table (slot_of r) x fresh (omega (arith, sixteen widths h r l.lent, l.low))) in
      let made' = rw was at made in
      rw (l.lent, lt-ltb (slot_of r) 16 l.low) (made'.1, rw (sym l.is, made'.0) refl, made'.2, made'.3)
