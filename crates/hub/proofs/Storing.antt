-- The stored number of open jobs is the walked count: a request changes both alike, or neither. Where it is, 32 can't come: an open that would be done
-- finds a closed entry among sixteen, and a close an open one.
-- Assumes nothing.
use Rattle.std.specs.Prelude.{if◌then◌else◌}
use Prim.Native.Nat.{ℕ, zero, suc, ◌+◌, ◌≤◌, ◌<◌}
use mathlib.Core.Path.{◌≡◌, refl, sym, ◌∙◌}
use mathlib.Core.Bool.{Bool, true, false, true≢false}
use mathlib.Core.List.{List, [], ◌∷◌}
use native.Mathlib.Omega.{arith}
use lib.ListN.{length, get_or, set, length-set}
use lib.Dec.{ltb, eqb}
use borrow.Author.Tests.{ltb-true, le-leb, eq-eqb, eqb-false}
use Rattle.part.specs.Checks.{Checked}
use Rattle.part.specs.Ranges.{◌∈◌}
use Rattle.part.specs.Part.{answer}
use Rattle.part.specs.declared.shapes.Descriptor.{Descriptor}
use Rattle.part.proofs.Checks.{Gives, value, refusal}
use Rattle.hub.specs.Entries.{is_open, opened, closed, fresh}
use Rattle.hub.specs.Requests.{may_open, may_close, out, decided, opening, closing, one_more, one_less, submitting, taking, area_of, Hub, Request, Open, Submit, Take, Close, slot_of, is_lent, on_entry, on_stored, step, steps, open_jobs, count_open}
use Rattle.hub.specs.Requests as requests
use Rattle.hub.specs.Histories.{entry_of}
use Rattle.hub.specs.Promises.{codes_of, Fresh, IsCount, Stored}
use Rattle.hub.specs.declared.jobs.Entry.{Entry}
use Rattle.hub.proofs.Reaching.{Made, choice, beside, out_then, area_then, seen, same_lent}
use Rattle.hub.proofs.Deciding.{open_gives, close_gives, Here, here, sixteen, Passed, Decision, refused, done, decision}
use Rattle.hub.proofs.Holding.{under_open}
use Rattle.hub.proofs.Answering.{answers}
use Rattle.hub.proofs.Counts.{one, one_le}

-- ---- the count of a table with one entry changed

changed : (es : List Entry) (i : ℕ) (e : Entry) → i < length es → open_jobs (set es i e) + one (get_or es i fresh) ≡ open_jobs es + one e
changed [] i e h = absurd (omega arith)
changed (x ∷ es) zero e h = omega arith
changed (x ∷ es) (suc i) e h = let others = changed es i e (omega arith) in omega arith

at_most : (es : List Entry) → open_jobs es ≤ length es
at_most [] = omega arith
at_most (e ∷ es) = let others = at_most es in let here = one_le (is_open e) in omega arith

none : (es : List Entry) → ((i : ℕ) → is_open (get_or es i fresh) ≡ false) → open_jobs es ≡ 0
none [] shut = refl
none (e ∷ es) shut = rw (shut 0, none es (λ i. shut (suc i)))

walked : (es : List Entry) → length es ≡ 16 → count_open es ≡ open_jobs es
unfolding count_open
walked es sixteen = rw (eq-eqb (length es) 16 sixteen)

-- ---- one of sixteen entries, where the stored number is the count

module _ (h : Hub) (slot : ℕ) (count : IsCount h) (sixteen : length h.table ≡ 16) (low : slot < 16) where
  abbrev e : Entry
  e = entry_of h slot

  -- the count with this entry changed
  counted : (f : Entry) → count_open (set h.table slot f) + one e ≡ h.stored + one f
  counted f =
      let long = length-set h.table slot f in
      rw (walked (set h.table slot f) (long ∙ sixteen), count, walked h.table sixteen) (changed h.table slot f (omega arith))

  most : (f : Entry) → count_open (set h.table slot f) ≤ 16
  most f =
      let long = length-set h.table slot f ∙ sixteen in
      rw (walked (set h.table slot f) long) (let m = at_most (set h.table slot f) in omega arith)

  -- beside a closed one there is room for one more
  room : is_open e ≡ false → h.stored ≤ 15
  room shut =
      let f = opened 1 e.descriptor in
      let c : count_open (set h.table slot f) + 0 ≡ h.stored + 1 = rw shut at (counted f) in
      let m = most f in
      omega arith

  -- an open one is counted
  some : is_open e ≡ true → (1 ≤ h.stored) × (h.stored ≤ 16)
  some is =
      let c : count_open (set h.table slot e) + 1 ≡ h.stored + 1 = rw is at (counted e) in
      let m = most e in
      let c' : count_open (set h.table slot (closed e)) + 1 ≡ h.stored + 0 = rw is at (counted (closed e)) in
      (omega arith, omega arith)

  -- ---- so the number is none that stops a request: its checks go as they would beside a 1

  open_calm : (key : ℕ) (d : Descriptor) → may_open key d h.stored e ≡ may_open key d 1 e
  unfolding may_open
  open_calm key d = go (is_open e) refl
    where
      go : (t : Bool) → is_open e ≡ t → may_open key d h.stored e ≡ may_open key d 1 e
      go true is = rw is
      go false shut = rw (le-leb h.stored 15 (room shut))

  close_calm : (key : ℕ) → may_close key h.stored e ≡ may_close key 1 e
  unfolding may_close
  close_calm key = go (is_open e) refl
    where
      go : (t : Bool) → is_open e ≡ t → may_close key h.stored e ≡ may_close key 1 e
      go true is = rw (le-leb 1 h.stored (some is).0, le-leb h.stored 16 (some is).1)
      go false shut = rw shut

-- ---- and 32 never comes

abbrev Calm : ℕ → ℕ → Type 0
Calm code at = eqb code 32 ≡ false

calm_answer : {P : Unit → Type 0} {m : Checked Unit} (e f : Entry) → Gives P Calm m → (decided e m (out f (answer 0 0 0))).answer.code ≡ 32 → ⊥
calm_answer e f (value _) is = let z : ◌≡◌ {A = ℕ} 0 32 = is in omega arith
calm_answer e f (refusal {code} {at} other) is = eqb-false code 32 other is

module _ (widths : List ℕ) (h : Hub) (count : IsCount h) where
  -- what is made of an entry is what would be made of it beside a 1
  pub out_calm : (r : Request) → is_lent widths h r ≡ true → slot_of r < 16 → (area : List ℕ)
      → out_then widths r (entry_of h (slot_of r)) area h.stored ≡ out_then widths r (entry_of h (slot_of r)) area 1
  unfolding opening closing
  out_calm (Open slot key d) lent low area = rw (open_calm h slot count (sixteen widths h (Open slot key d) lent) low key d)
  out_calm (Submit slot key number part) lent low area = refl
  out_calm (Take slot key total) lent low area = refl
  out_calm (Close slot key) lent low area = rw (close_calm h slot count (sixteen widths h (Close slot key) lent) low key)

  pub seen_calm : (r : Request) → seen widths h r ≡ seen widths (beside h 1) r
  seen_calm r = rw (same_lent widths h (beside h 1) r refl refl) (go (is_lent widths h r) refl (ltb (slot_of r) 16) refl)
    where
      e : Entry
      e = entry_of h (slot_of r)

      area : List ℕ
      area = area_of h.records (slot_of r)

      m : ℕ → Made
      m stored = record { answer = (out_then widths r e area stored).answer; entry = (out_then widths r e area stored).entry; area = area_then widths r e area }

      go : (t : Bool) → is_lent widths h r ≡ t → (u : Bool) → ltb (slot_of r) 16 ≡ u → choice t u (m h.stored) e area ≡ choice t u (m 1) e area
      go true a true b = rw (out_calm r a (ltb-true (slot_of r) 16 b) area)
      go true a false b = refl
      go false a u b = refl

  -- 32 is none of its codes
  not_its : (r : Request) → Here widths h r → (32 ∈ codes_of r) ≡ false → (on_entry widths h r (entry_of h (slot_of r))).answer.code ≡ 32 → ⊥
  not_its r x none is = let its = (answers widths h r).code in true≢false (sym (rw (x.answers, is) at its) ∙ none)

  not_32 : (r : Request) → Here widths h r → (on_entry widths h r (entry_of h (slot_of r))).answer.code ≡ 32 → ⊥
  unfolding opening closing
  not_32 (Open slot key d) x is = calm_answer (entry_of h slot) _ (open_gives key d 1 (entry_of h slot) refl refl refl refl refl (λ no. absurd (true≢false no))) (rw (open_calm h slot count (sixteen widths h (Open slot key d) x.lent) x.low key d) at is)
  not_32 (Submit slot key number part) x is = not_its (Submit slot key number part) x refl is
  not_32 (Take slot key total) x is = not_its (Take slot key total) x refl is
  not_32 (Close slot key) x is = calm_answer (entry_of h slot) _ (close_gives key 1 (entry_of h slot) refl refl refl (λ no. absurd (true≢false no))) (rw (close_calm h slot count (sixteen widths h (Close slot key) x.lent) x.low key) at is)

  never : (r : Request) → (step widths h r).answer.code ≡ 32 → ⊥
  unfolding step
  never r = go (is_lent widths h r) refl (ltb (slot_of r) 16) refl
    where
      go : (t : Bool) → is_lent widths h r ≡ t → (u : Bool) → ltb (slot_of r) 16 ≡ u
          → (if t then (if u then (on_entry widths h r (entry_of h (slot_of r))).answer else requests.refusal 11) else requests.refusal 10).code ≡ 32 → ⊥
      go true a true b is = not_32 r (here widths h r a (ltb-true (slot_of r) 16 b)) is
      go true a false b is = let z : ◌≡◌ {A = ℕ} 11 32 = is in omega arith
      go false a u b is = let z : ◌≡◌ {A = ℕ} 10 32 = is in omega arith

  -- ---- a request that is done changes the number as it changes the count

  -- a job that stays open
  same_count : (r : Request) → Here widths h r → is_open (on_entry widths h r (entry_of h (slot_of r))).entry ≡ is_open (entry_of h (slot_of r)) → on_stored widths h r (entry_of h (slot_of r)) ≡ h.stored → IsCount (step widths h r).after
  same_count r x same number =
      let e = entry_of h (slot_of r) in
      let f = (on_entry widths h r e).entry in
      let c : count_open (set h.table (slot_of r) f) + one e ≡ h.stored + one e = rw same at (counted h (slot_of r) count (sixteen widths h r x.lent) x.low f) in
      rw (x.leaves, number) (omega arith)

  its_count : (r : Request) → Here widths h r → Passed widths h r → IsCount (step widths h r).after
  unfolding opening closing submitting taking one_more one_less
  its_count (Open slot key d) x passed =
      let long = sixteen widths h (Open slot key d) x.lent in
      let c : count_open (set h.table slot (opened key d)) + 0 ≡ h.stored + 1 = rw passed.1.shut at (counted h slot count long x.low (opened key d)) in
      rw (x.leaves, passed.0) (omega arith)
  its_count (Submit slot key number part) x passed = same_count (Submit slot key number part) x (rw (passed.0, passed.2)) refl
  its_count (Take slot key total) x passed = same_count (Take slot key total) x (rw passed.0) refl
  its_count (Close slot key) x passed =
      let long = sixteen widths h (Close slot key) x.lent in
      let e = entry_of h slot in
      let c : count_open (set h.table slot (closed e)) + 1 ≡ h.stored + 0 = rw (under_open e key passed.1.under) at (counted h slot count long x.low (closed e)) in
      rw (x.leaves, passed.0) (omega arith)

  pub stays-count : (r : Request) → IsCount (step widths h r).after
  stays-count r = go (decision widths h r)
    where
      go : Decision widths h r → IsCount (step widths h r).after
      go (refused q same) = rw same count
      go (done _ x passed) = its_count r x passed

pub steps-count : (widths : List ℕ) (h : Hub) → IsCount h → (rs : List Request) → IsCount (steps widths h rs)
unfolding steps
steps-count widths h count [] = count
steps-count widths h count (r ∷ rs) = steps-count widths (step widths h r).after (stays-count widths h count r) rs

-- a fresh start: no job is open, and the number is 0
pub start-count : (h : Hub) → Fresh h → h.stored ≡ 0 → IsCount h
start-count h f nought = nought ∙ sym (walked h.table f.sixteen ∙ none h.table f.all_closed)

pub stored : Stored
stored = record {
  never32 = λ widths h r count. never widths h count r;
  stays = λ widths h r count. stays-count widths h count r;
  ever = λ widths h f nought rs. steps-count widths h (start-count h f nought) rs;
}
