-- A request that was once accepted is refused ever after: its key is not above the last one, its number is below next, its total isn't above the one taken, or its job is closed.
-- Assumes nothing.
use Rattle.std.specs.Prelude.{if◌then◌else◌}
use Prim.Native.Nat.{ℕ, ◌≤◌, ◌<◌}
use mathlib.Core.Path.{◌≡◌, refl, sym, ◌∙◌, ap}
use mathlib.Core.Bool.{Bool, true, false, not, ◌&&◌}
use mathlib.Core.List.{List, [], ◌∷◌, ◌++◌}
use native.Mathlib.Omega.{arith}
use lib.Dec.{ltb, eqb}
use borrow.Author.Tests.{eqb-true, eqb-false, lt-leb, le-leb, le-ltb}
use Rattle.part.specs.Checks.{Checked, fault, require, ◌>>◌}
use Rattle.part.specs.Ranges.{◌to◌, ◌∈◌}
use Rattle.part.specs.declared.shapes.Descriptor.{Descriptor}
use Rattle.part.specs.declared.shapes.Answer.{Answer}
use Rattle.part.proofs.Checks.{second_of}
use Rattle.hub.specs.Entries.{is_open, is_open_under, damaged}
use Rattle.hub.specs.Requests.{may_open, judged, may_submit, may_take, may_close, opening, closing, submitting, taking, area_of, refusal, Hub, Request, Open, Submit, Take, Close, slot_of, is_lent, on_entry, step, steps}
use Rattle.hub.specs.Histories.{entry_of}
use Rattle.hub.specs.Promises.{resent, Fresh, Repeat}
use Rattle.hub.specs.declared.jobs.Entry.{Entry}
use Rattle.hub.proofs.Reaching.{step-lent, steps-lent}
use Rattle.hub.proofs.Deciding.{Here, here, there, Passed, Decision, refused, done, decision}
use Rattle.hub.proofs.Leaving.{refused-stays}
use Rattle.hub.proofs.Holding.{under_open, awaits, holds}
use Rattle.hub.proofs.Rising.{Later, steps-later}

-- ---- what an accepted request leaves in its entry

abbrev Past : Request → Entry → Type 0
Past (Open slot key d) e = e.key ≡ key
Past (Submit slot key number part) e = (e.key ≡ key) × (number < e.next) × (1 ≤ number) × (number ≤ 65535)
Past (Take slot key total) e = (e.key ≡ key) × (total ≤ e.taken)
Past (Close slot key) e = (e.key ≡ key) × (is_open e ≡ false)

-- a part is placed, records are taken, and a job is closed, only under the job's own key
own_key : (e : Entry) (key : ℕ) → is_open_under e key ≡ true → e.key ≡ key
own_key e key under = eqb-true e.key key (second_of (is_open e) (eqb e.key key) under)

passed_past : (widths : List ℕ) (h : Hub) (r : Request) → Here widths h r → Passed widths h r → Past r (entry_of (step widths h r).after (slot_of r))
unfolding opening closing submitting taking
passed_past widths h (Open slot key d) x passed = rw (there widths h (Open slot key d) x, passed.0)
passed_past widths h (Submit slot key number part) x passed =
    let tested = awaits key number (entry_of h slot) passed.1 in
    let next = tested.is_next in
    rw (there widths h (Submit slot key number part) x, passed.0, passed.2) (own_key (entry_of h slot) key passed.1.under, omega arith, tested.least, tested.most)
passed_past widths h (Take slot key total) x passed = rw (there widths h (Take slot key total) x, passed.0) (own_key (entry_of h slot) key passed.1.under, omega arith)
passed_past widths h (Close slot key) x passed = rw (there widths h (Close slot key) x, passed.0) (own_key (entry_of h slot) key passed.1.under, refl)

-- ---- its checks, at any later entry

abbrev check : Request → List ℕ → ℕ → Entry → Checked Unit
check (Open slot key d) area stored e = may_open key d stored e
check (Submit slot key number part) area stored e = may_submit key number e
check (Take slot key total) area stored e = may_take key total area e
check (Close slot key) area stored e = may_close key stored e

damaged-again : (r : Request) (area : List ℕ) (stored : ℕ) (f : Entry) → damaged f ≡ true → check r area stored f ≡ fault 12 0
unfolding may_open may_submit may_take may_close
damaged-again (Open slot key d) area stored f bad = rw bad
damaged-again (Submit slot key number part) area stored f bad = rw bad
damaged-again (Take slot key total) area stored f bad = rw bad
damaged-again (Close slot key) area stored f bad = rw bad

-- each is refused before the stored number is looked at
module _ (stored : ℕ) (e f : Entry) (later : Later e f) (whole : damaged f ≡ false) where
  open_again : (key : ℕ) (d : Descriptor) → e.key ≡ key → may_open key d stored f ≡ fault (if is_open_under f key then 1 else if is_open f then 13 else 14) 0
  unfolding may_open
  open_again key d was = let rises = later.rises in rw (whole, le-leb key f.key (omega arith)) (cases (is_open_under f key) (is_open f))
    where
      cases : (under is : Bool) → ◌≡◌ {A = Checked Unit} (require (not under) 1 >> (require (not is) 13 >> fault 14 0)) (fault (if under then 1 else if is then 13 else 14) 0)
      cases true is = refl
      cases false true = refl
      cases false false = refl

  submit_again : (key number : ℕ) → e.key ≡ key → number < e.next → 1 ≤ number → number ≤ 65535 → may_submit key number f ≡ fault (if is_open_under f key then 1 else 16) 0
  unfolding may_submit judged
  submit_again key number was below least most = rw whole (cases (is_open_under f key) refl)
    where
      cases : (under : Bool) → is_open_under f key ≡ under → (require under 16 >> judged f.next number) ≡ fault (if under then 1 else 16) 0
      cases true under =
          let same = own_key f key under in
          let next = (later.goes_on (omega arith) (under_open f key under)).1 in
          rw (le-leb 1 number least, le-leb number 65535 most, lt-leb f.next number (omega arith))
      cases false under = refl

  take_again : (key total : ℕ) (area : List ℕ) → e.key ≡ key → total ≤ e.taken → may_take key total area f ≡ fault (if is_open_under f key then 1 else 16) 0
  unfolding may_take
  take_again key total area was below = rw whole (cases _ (is_open_under f key) refl)
    where
      cases : (others : Checked Unit) (under : Bool) → is_open_under f key ≡ under → (require under 16 >> (require (ltb f.taken total) 1 >> others)) ≡ fault (if under then 1 else 16) 0
      cases others true under =
          let same = own_key f key under in
          let taken = (later.goes_on (omega arith) (under_open f key under)).2 in
          rw (le-ltb f.taken total (omega arith))
      cases others false under = refl

  close_again : (key : ℕ) → e.key ≡ key → is_open e ≡ false → may_close key stored f ≡ fault (if eqb f.key key && ltb 0 key then 1 else 16) 0
  unfolding may_close
  close_again key was shut = rw whole (cases (is_open f) (eqb f.key key) (ltb 0 key) closed_still)
    where
      closed_still : is_open f ≡ true → eqb f.key key ≡ true → ⊥
      closed_still is under =
          let same = eqb-true f.key key under in
          let yes = (later.goes_on (omega arith) is).0 in
          let z : ◌≡◌ {A = ℕ} 0 1 = cc in
          omega arith

      cases : (is same above : Bool) → (is ≡ true → same ≡ true → ⊥)
          → (require (not (not is && same && above)) 1 >> (require (is && same) 16 >> require (stored ∈ 1 to 16) 32)) ≡ fault (if same && above then 1 else 16) 0
      cases true true above never = absurd (never refl refl)
      cases true false above never = refl
      cases false true true never = refl
      cases false true false never = refl
      cases false false above never = refl

past_check : (r : Request) (area : List ℕ) (stored : ℕ) (e f : Entry) → Past r e → Later e f → damaged f ≡ false → check r area stored f ≡ fault (resent r f) 0
past_check (Open slot key d) area stored e f past later whole = open_again stored e f later whole key d past
past_check (Submit slot key number part) area stored e f past later whole = submit_again stored e f later whole key number past.0 past.1 past.2 past.3
past_check (Take slot key total) area stored e f past later whole = take_again stored e f later whole key total area past.0 past.1
past_check (Close slot key) area stored e f past later whole = close_again stored e f later whole key past.0 past.1

above : (t : Bool) (a b : ℕ) → 0 < a → 0 < b → 0 < (if t then a else b)
above true a b h k = h
above false a b h k = k

never_done : (r : Request) (f : Entry) → 0 < resent r f
never_done (Open slot key d) f = above (is_open_under f key) 1 _ (omega arith) (above (is_open f) 13 14 (omega arith) (omega arith))
never_done (Submit slot key number part) f = above (is_open_under f key) 1 16 (omega arith) (omega arith)
never_done (Take slot key total) f = above (is_open_under f key) 1 16 (omega arith) (omega arith)
never_done (Close slot key) f = above (eqb f.key key && ltb 0 key) 1 16 (omega arith) (omega arith)

-- ---- sent again

steps-join : (widths : List ℕ) (h : Hub) (before later : List Request) → steps widths h (before ++ later) ≡ steps widths (steps widths h before) later
unfolding steps
steps-join widths h [] later = refl
steps-join widths h (r ∷ before) later = steps-join widths (step widths h r).after before later

module _ (widths : List ℕ) where
  -- a check's fault is the answer
  fault-answered : (h : Hub) (r : Request) (f : Entry) {code : ℕ} → check r (area_of h.records (slot_of r)) h.stored f ≡ fault code 0 → (on_entry widths h r f).answer ≡ refusal code
  unfolding opening closing submitting taking
  fault-answered h (Open slot key d) f is = rw is
  fault-answered h (Submit slot key number part) f is = rw is
  fault-answered h (Take slot key total) f is = rw is
  fault-answered h (Close slot key) f is = rw is

  -- from any table, also one with damaged entries
  pub record SentAgain (now : Hub) (r : Request) : Type 0 where
    pub unchanged : (step widths now r).after ≡ now
    pub answered : damaged (entry_of now (slot_of r)) ≡ false → (step widths now r).answer ≡ refusal (resent r (entry_of now (slot_of r)))

  past_again : (now : Hub) (r : Request) (e : Entry) → is_lent widths now r ≡ true → slot_of r < 16 → Past r e → Later e (entry_of now (slot_of r)) → SentAgain now r
  past_again now r e lent low past later = go (damaged f) refl
    where
      f : Entry
      f = entry_of now (slot_of r)

      says : {code : ℕ} → check r (area_of now.records (slot_of r)) now.stored f ≡ fault code 0 → (step widths now r).answer ≡ refusal code
      says is = (here widths now r lent low).answers ∙ fault-answered now r f is

      stays : {code : ℕ} → check r (area_of now.records (slot_of r)) now.stored f ≡ fault code 0 → 0 < code → (step widths now r).after ≡ now
      stays {code} is other = refused-stays widths now r (λ zero. let z : code ≡ 0 = sym (ap (λ (a : Answer). a.code) (says is)) ∙ zero in omega arith)

      go : (t : Bool) → damaged f ≡ t → SentAgain now r
      go true bad = record { unchanged = stays (damaged-again r (area_of now.records (slot_of r)) now.stored f bad) (omega arith); answered = λ whole. absurd (let z : ◌≡◌ {A = ℕ} 0 1 = cc in omega arith) }
      go false whole = let is = past_check r (area_of now.records (slot_of r)) now.stored e f past later whole in record { unchanged = stays is (never_done r f); answered = λ _. says is }

  pub again : (h : Hub) (r : Request) (later : List Request) → (step widths h r).answer.code ≡ 0 → SentAgain (steps widths (step widths h r).after later) r
  again h r later nought = go (decision widths h r)
    where
      go : Decision widths h r → SentAgain (steps widths (step widths h r).after later) r
      go (refused q same) = absurd (eqb-false _ 0 q nought)
      go (done _ x passed) =
          let left = (step widths h r).after in
          past_again (steps widths left later) r (entry_of left (slot_of r)) (steps-lent widths left later r ∙ step-lent widths h r r ∙ x.lent) x.low (passed_past widths h r x passed) (steps-later widths left later (slot_of r))

answered-again : (widths : List ℕ) (h : Hub) → Fresh h → (before : List Request) (r : Request) (later : List Request) → (step widths (steps widths h before) r).answer.code ≡ 0
    → (step widths (steps widths h (before ++ r ∷ later)) r).answer ≡ refusal (resent r (entry_of (steps widths h (before ++ r ∷ later)) (slot_of r)))
unfolding steps
answered-again widths h f before r later nought =
    let undamaged = (holds widths h f (before ++ r ∷ later) (slot_of r)).1 in
    let joined = steps-join widths h before (r ∷ later) in
    rw joined ((again widths (steps widths h before) r later nought).answered (rw joined at undamaged))

pub repeat : Repeat
repeat = record { changes_nothing = λ widths h r later nought. (again widths h r later nought).unchanged; answers = answered-again }
