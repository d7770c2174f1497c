-- Keys only rise. Under one key a closed job stays closed, and neither its next part nor the total taken ever falls.
-- Assumes nothing.
use Prim.Native.Nat.{ℕ, ◌≤◌}
use mathlib.Core.Path.{◌≡◌, refl}
use mathlib.Core.Bool.{Bool, true, false}
use mathlib.Core.List.{List, [], ◌∷◌}
use native.Mathlib.Omega.{arith}
use lib.Dec.{eqb}
use borrow.Author.Tests.{ltb-true, leb-false, eqb-true, eqb-false}
use Rattle.hub.specs.Entries.{is_open}
use Rattle.hub.specs.Requests.{opening, closing, submitting, taking, Hub, Request, Open, Submit, Take, Close, slot_of, step, steps}
use Rattle.hub.specs.Histories.{entry_of}
use Rattle.hub.specs.declared.jobs.Entry.{Entry}
use Rattle.hub.proofs.Reaching.{other_entry}
use Rattle.hub.proofs.Deciding.{Here, there, Passed, Decision, refused, done, decision}

pub record Later (e f : Entry) : Type 0 where
  pub rises : e.key ≤ f.key
  pub goes_on : f.key ≡ e.key → is_open f ≡ true → (is_open e ≡ true) × (e.next ≤ f.next) × (e.taken ≤ f.taken)

at_once : (e : Entry) → Later e e
at_once e = record { rises = omega arith; goes_on = λ _ is. (is, omega arith, omega arith) }

later-on : {e f g : Entry} → Later e f → Later f g → Later e g
later-on {e} {f} {g} a b =
    let x = a.rises in
    let y = b.rises in
    record {
      rises = omega arith;
      goes_on = λ (same : g.key ≡ e.key) (is : is_open g ≡ true).
          let near = b.goes_on (omega arith) is in
          let far = a.goes_on (omega arith) near.0 in
          let m = near.1 in
          let n = far.1 in
          let t = near.2 in
          let u = far.2 in
          (far.0, omega arith, omega arith);
    }

module _ (widths : List ℕ) where
  passed_later : (h : Hub) (r : Request) → Here widths h r → Passed widths h r → Later (entry_of h (slot_of r)) (entry_of (step widths h r).after (slot_of r))
  unfolding opening closing submitting taking
  passed_later h (Open slot key d) x passed =
      let new = leb-false key (entry_of h slot).key passed.1.new_key in
      rw (there widths h (Open slot key d) x, passed.0) (record { rises = omega arith; goes_on = λ (same : key ≡ (entry_of h slot).key) _. absurd (omega arith) })
  passed_later h (Submit slot key number part) x passed =
      rw (there widths h (Submit slot key number part) x, passed.0, passed.2) (record { rises = omega arith; goes_on = λ _ is. (is, omega arith, omega arith) })
  passed_later h (Take slot key total) x passed =
      let more = ltb-true (entry_of h slot).taken total passed.1.more in
      rw (there widths h (Take slot key total) x, passed.0) (record { rises = omega arith; goes_on = λ _ is. (is, omega arith, omega arith) })
  passed_later h (Close slot key) x passed =
      rw (there widths h (Close slot key) x, passed.0) (record { rises = omega arith; goes_on = λ _ is. absurd (let z : ◌≡◌ {A = ℕ} 0 1 = cc in omega arith) })

  step-later : (h : Hub) (r : Request) (slot : ℕ) → Later (entry_of h slot) (entry_of (step widths h r).after slot)
  step-later h r slot = go (eqb (slot_of r) slot) refl
    where
      own : Decision widths h r → Later (entry_of h (slot_of r)) (entry_of (step widths h r).after (slot_of r))
      own (refused q same) = rw same (at_once _)
      own (done _ x passed) = passed_later h r x passed

      go : (t : Bool) → eqb (slot_of r) slot ≡ t → Later (entry_of h slot) (entry_of (step widths h r).after slot)
      go true e = rw (← (eqb-true (slot_of r) slot e)) (own (decision widths h r))
      go false e = rw (other_entry widths h r slot (eqb-false (slot_of r) slot e)) (at_once _)

  pub steps-later : (h : Hub) (rs : List Request) (slot : ℕ) → Later (entry_of h slot) (entry_of (steps widths h rs) slot)
  unfolding steps
  steps-later h [] slot = at_once _
  steps-later h (r ∷ rs) slot = later-on (step-later h r slot) (steps-later (step widths h r).after rs slot)
