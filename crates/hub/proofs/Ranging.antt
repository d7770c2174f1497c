-- An entry's numbers are in range just when its mark, its descriptor, its state and its next part are. What is done to an undamaged entry leaves it so.
-- Assumes nothing.
use Prim.Native.Nat.{ℕ, ◌+◌, ◌-◌, ◌≤◌}
use mathlib.Core.Path.{◌≡◌, refl}
use mathlib.Core.Bool.{Bool, true, false, ◌&&◌}
use mathlib.Core.List.{List, [], ◌∷◌, ◌++◌}
use native.Mathlib.Omega.{arith}
use lib.Dec.{leb, eqb}
use borrow.Author.Tests.{leb-true, le-leb, not-false}
use Rattle.part.specs.Numbers.{origin, last}
use Rattle.part.specs.Ranges.{Field, ◌within◌, up_to, ◌to◌, ◌∈◌, hold, descriptor_fields, state_fields}
use Rattle.part.specs.declared.shapes.Descriptor.{Descriptor}
use Rattle.part.specs.declared.shapes.State.{State}
use Rattle.part.proofs.Checks.{first_of, second_of}
use Rattle.part.proofs.Fields.{held, changed}
use Rattle.hub.specs.Entries.{is_open, is_open_under, entry_fields, damaged, all_written, first_state, opened, gone_on, drained}
use Rattle.hub.specs.declared.jobs.Entry.{Entry}

hold-join : (a b : List Field) → hold (a ++ b) ≡ (hold a && hold b)
hold-join [] b = refl
hold-join (f ∷ a) b = go (f.value ∈ f.range) (hold-join a b)
  where
    go : (t : Bool) → hold (a ++ b) ≡ (hold a && hold b) → (t && hold (a ++ b)) ≡ ((t && hold a) && hold b)
    go true k = k
    go false k = refl

pub entry_holds : (e : Entry) → hold (entry_fields e) ≡ (e.mark ∈ up_to 1 && (hold (descriptor_fields e.descriptor) && (hold (state_fields e.state) && e.next ∈ 1 to 65536)))
unfolding entry_fields
entry_holds e = rw (hold-join, hold-join) (regroup (leb e.mark 1) (hold (descriptor_fields e.descriptor)) (hold (state_fields e.state)) (leb 1 e.next) (leb e.next 65536))
  where
    regroup : (a b c d f : Bool) → (((a && b) && c) && ((d && f) && true)) ≡ (a && (b && (c && (d && f))))
    regroup true true true true true = refl
    regroup true true true true false = refl
    regroup true true true false f = refl
    regroup true true false d f = refl
    regroup true false c d f = refl
    regroup false b c d f = refl

pub record InRange (e : Entry) : Type 0 where
  pub mark : (e.mark ∈ up_to 1) ≡ true
  pub descriptor : hold (descriptor_fields e.descriptor) ≡ true
  pub state : hold (state_fields e.state) ≡ true
  pub next : (e.next ∈ 1 to 65536) ≡ true

-- an open entry that isn't damaged
pub in_range : (e : Entry) → is_open e ≡ true → damaged e ≡ false → InRange e
in_range e is undamaged =
    let a = e.mark ∈ up_to 1 in
    let b = hold (descriptor_fields e.descriptor) in
    let c = hold (state_fields e.state) in
    let d = e.next ∈ 1 to 65536 in
    let all : (a && (b && (c && d))) ≡ true = rw entry_holds at (not-false (hold (entry_fields e)) (rw is at undamaged)) in
    let bcd = second_of a (b && (c && d)) all in
    let cd = second_of b (c && d) bcd in
    record { mark = first_of a (b && (c && d)) all; descriptor = first_of b (c && d) bcd; state = first_of c d cd; next = second_of c d cd }

undamaged : (e : Entry) → InRange e → damaged e ≡ false
undamaged e r = rw (entry_holds e, r.mark, r.descriptor, r.state, r.next) (go (is_open e))
  where
    go : (t : Bool) → (t && false) ≡ false
    go true = refl
    go false = refl

-- ---- what becomes of an entry

pub initial_low : (d : Descriptor) → hold (descriptor_fields d) ≡ true → (d.initial.i ≤ 32767) × (d.initial.b ≤ 32767)
unfolding descriptor_fields
initial_low d h = (leb-true d.initial.i 32767 (held (descriptor_fields d) 2 h), leb-true d.initial.b 32767 (held (descriptor_fields d) 3 h))

first_fits : (d : Descriptor) → hold (descriptor_fields d) ≡ true → hold (state_fields (first_state d)) ≡ true
unfolding descriptor_fields state_fields
first_fits d h =
    let low = initial_low d h in
    rw (le-leb (origin + d.initial.i) last (omega arith), le-leb (origin + d.initial.b) last (omega arith), held (descriptor_fields d) 4 h, held (descriptor_fields d) 5 h, held (descriptor_fields d) 6 h, held (descriptor_fields d) 7 h, held (descriptor_fields d) 8 h, held (descriptor_fields d) 9 h)

pub opened_undamaged : (key : ℕ) (d : Descriptor) → hold (descriptor_fields d) ≡ true → damaged (opened key d) ≡ false
opened_undamaged key d h = undamaged (opened key d) (record { mark = refl; descriptor = h; state = first_fits d h; next = refl })

pub gone_on_undamaged : (e : Entry) (s : State) → InRange e → hold (state_fields s) ≡ true → e.next ≤ 65535 → damaged (gone_on e s) ≡ false
gone_on_undamaged e s r h low =
    undamaged (gone_on e s) (record { mark = r.mark; descriptor = r.descriptor; state = h; next = rw (le-leb 1 (e.next + 1) (omega arith)) (le-leb (e.next + 1) 65536 (omega arith)) })

-- the bytes used of a job are no more than an area has
pub used_low : (e : Entry) (key : ℕ) → damaged e ≡ false → is_open_under e key ≡ true → e.state.used ≤ 4096
unfolding state_fields
used_low e key whole under = leb-true e.state.used 4096 (held (state_fields e.state) 11 (in_range e (first_of (is_open e) (eqb e.key key) under) whole).state)

pub drained_undamaged : (e : Entry) (total : ℕ) → InRange e → e.taken ≤ total → damaged (drained e total) ≡ false
unfolding state_fields
drained_undamaged e total r above =
    let low = leb-true e.state.used 4096 (held (state_fields e.state) 11 r.state) in
    let left = all_written e - total in
    undamaged (drained e total) (record { mark = r.mark; descriptor = r.descriptor; state = changed (state_fields e.state) 11 (left within up_to 4096) r.state (le-leb left 4096 (omega arith)); next = r.next })
