-- Every request is answered with a code of its own, from any memory, and its two numbers are 0 unless the paper says otherwise.
-- Assumes nothing.
use Rattle.std.specs.Prelude.{if◌then◌else◌}
use Prim.Native.Nat.{ℕ}
use mathlib.Core.Path.{◌≡◌, refl, sym, ◌∙◌}
use mathlib.Core.Bool.{Bool, true, false, true≢false, or-true, not, ◌&&◌}
use mathlib.Core.Logic.{◌⊎◌, inl, inr}
use mathlib.Core.List.{List}
use native.Mathlib.Omega.{arith}
use lib.ListN.{length}
use lib.Dec.{ltb, leb, eqb}
use borrow.Author.Tests.{ltb-true, leb-true, eqb-true, not-true, eq-eqb, le-leb}
use Rattle.part.specs.Checks.{Checked, fine, fault, require, ◌>>◌}
use Rattle.part.specs.Ranges.{up_to, ◌to◌, ◌or◌, ◌∈◌, hold, descriptor_fields, state_fields}
use Rattle.part.specs.Reading.{cut}
use Rattle.part.specs.Place.{Effect}
use Rattle.part.specs.Part.{elements, admitted, outcome, answer, answered, interpreted}
use Rattle.part.specs.declared.shapes.Descriptor.{Descriptor}
use Rattle.part.specs.declared.shapes.State.{State}
use Rattle.part.proofs.Checks.{first_of, second_of, Gives, value, refusal, OfCode, fault_of}
use Rattle.part.proofs.Fits.{Coded}
use Rattle.part.proofs.Kept.{cut_leaves}
use Rattle.part.proofs.Pointing.{points-inside, part-points}
use Rattle.hub.specs.Requests.{may_submit, out, decided, part_placed, opening, closing, submitting, taking, area_of, Hub, Request, Open, Submit, Take, Close, slot_of, is_lent, on_entry, step}
use Rattle.hub.specs.Requests as requests
use Rattle.hub.specs.Histories.{entry_of}
use Rattle.hub.specs.Promises.{codes_of, OfTheTable, Answered}
use Rattle.hub.specs.declared.jobs.Entry.{Entry}
use Rattle.hub.proofs.Slots.{own_length}
use Rattle.hub.proofs.Ranging.{in_range}
use Rattle.hub.proofs.Deciding.{SubmitTests, open_gives, submit_gives, take_gives, close_gives, Here, here, whole, lent-widths}
use Rattle.hub.proofs.Holding.{awaits}

-- one of the request's own codes that is no part's, with no offset
abbrev Its : Request → ℕ → ℕ → Type 0
Its r code at = (code ∈ codes_of r && not (code ∈ 20 to 29) && eqb at 0) ≡ true

-- its numbers are 0
plain : (r : Request) (code at : ℕ) → Its r code at → OfTheTable r (answer code at 0)
plain r code at its =
    let one = code ∈ codes_of r && not (code ∈ 20 to 29) in
    let both = first_of one (eqb at 0) its in
    record {
      code = first_of (code ∈ codes_of r) (not (code ∈ 20 to 29)) both;
      first = λ _. eqb-true at 0 (second_of one (eqb at 0) its);
      second = λ _. refl;
      inside = λ c. absurd (true≢false (sym c ∙ not-true (code ∈ 20 to 29) (second_of (code ∈ codes_of r) (not (code ∈ 20 to 29)) both)));
    }

-- ---- open, take and close

decided-plain : {P : Unit → Type 0} {m : Checked Unit} (r : Request) (e f : Entry) → Its r 0 0 → Gives P (Its r) m → OfTheTable r (decided e m (out f (answer 0 0 0))).answer
decided-plain r e f nought (value _) = plain r 0 0 nought
decided-plain r e f nought (refusal {code} {at} its) = plain r code at its

-- ---- a part: 19 comes before its elements, and has no offset

module _ (widths : List ℕ) (d : Descriptor) (s : State) (part area : List ℕ) (long : length area ≡ 4096) (table : length widths ≡ 1024) (sh : hold (state_fields s) ≡ true) (dh : hold (descriptor_fields d) ≡ true) where
  coded : {code at : ℕ} → outcome widths d s part area ≡ fault code at → ((code ≡ 19) × (at ≡ 0)) ⊎ ((code ∈ 20 to 29) ≡ true)
  unfolding outcome admitted
  coded h = go (leb (length part) 8192) (rw (eq-eqb (length area) 4096 long, eq-eqb (length widths) 1024 table, sh, dh) at h)
    where
      go : {code at : ℕ} (t : Bool) → (require t 19 >> elements widths d s (cut s.chain part)) ≡ fault code at → ((code ≡ 19) × (at ≡ 0)) ⊎ ((code ∈ 20 to 29) ≡ true)
      go true h = inr (fault_of {Q = OfCode Coded} (elements widths d s (cut s.chain part)) (cut_leaves widths d dh s s.chain part) h)
      go false h = inl (cc, cc)

  part-answered : (slot key number : ℕ) → OfTheTable (Submit slot key number part) (interpreted widths d s part area).answer
  unfolding interpreted
  part-answered slot key number = go _ (outcome widths d s part area) refl
    where
      r : Request
      r = Submit slot key number part

      either : {code at : ℕ} → outcome widths d s part area ≡ fault code at → ((code ≡ 19) × (at ≡ 0)) ⊎ ((code ∈ 20 to 29) ≡ true) → OfTheTable r (answer code at 0)
      either {code} {at} e (inl (a, b)) = rw (a, b) (plain r 19 0 refl)
      either {code} {at} e (inr c) =
          let least = leb-true 20 code (first_of (leb 20 code) (leb code 29) c) in
          let most = second_of (leb 20 code) (leb code 29) c in
          record {
            code = rw (le-leb 16 code (omega arith), most) (or-true (code ∈ up_to 1 or 10 to 12));
            first = λ no. absurd (true≢false (sym (or-true (eqb code 0)) ∙ (rw c at no)));
            second = λ _. refl;
            inside = λ _. points-inside (part-points widths d s part area e c);
          }

      go : (count : ℕ) (m : Checked Effect) → outcome widths d s part area ≡ m → OfTheTable r (answered count s m).answer
      go count (fine f) e = record { code = refl; first = λ no. absurd (true≢false no); second = λ no. absurd (true≢false no); inside = λ no. absurd (true≢false (sym no)) }
      go count (fault code at) e = either e (coded e)

-- ---- any request

module _ (widths : List ℕ) (h : Hub) where
  submit_answered : (slot key number : ℕ) (part : List ℕ) → Here widths h (Submit slot key number part) → OfTheTable (Submit slot key number part) (on_entry widths h (Submit slot key number part) (entry_of h slot)).answer
  unfolding submitting
  submit_answered slot key number part x = go (may_submit key number (entry_of h slot)) (submit_gives {Q = Its (Submit slot key number part)} key number (entry_of h slot) refl refl refl refl refl)
    where
      e : Entry
      e = entry_of h slot

      long : length (area_of h.records slot) ≡ 4096
      long = own_length h.records slot (whole widths h slot key number part x) x.low

      go : (m : Checked Unit) → Gives (λ _. SubmitTests key number e) (Its (Submit slot key number part)) m
          → OfTheTable (Submit slot key number part) (decided e m (part_placed e (interpreted widths e.descriptor e.state part (area_of h.records slot)))).answer
      go (fine _) (value tests) =
          let waits = awaits key number e tests in
          let ranges = in_range e waits.is waits.undamaged in
          part-answered widths e.descriptor e.state part (area_of h.records slot) long (lent-widths widths h slot key number part x) ranges.state ranges.descriptor slot key number
      go (fault code at) (refusal its) = plain (Submit slot key number part) code at its

  its_answered : (r : Request) → Here widths h r → OfTheTable r (on_entry widths h r (entry_of h (slot_of r))).answer
  unfolding opening taking closing
  its_answered (Open slot key d) x = decided-plain (Open slot key d) (entry_of h slot) _ refl (open_gives {Q = Its (Open slot key d)} key d h.stored (entry_of h slot) refl refl refl refl refl (λ _. refl))
  its_answered (Submit slot key number part) x = submit_answered slot key number part x
  its_answered (Take slot key total) x = decided-plain (Take slot key total) (entry_of h slot) _ refl (take_gives {Q = Its (Take slot key total)} key total (area_of h.records slot) (entry_of h slot) refl refl refl refl)
  its_answered (Close slot key) x = decided-plain (Close slot key) (entry_of h slot) _ refl (close_gives {Q = Its (Close slot key)} key h.stored (entry_of h slot) refl refl refl (λ _. refl))

  wrong : (r : Request) → OfTheTable r (requests.refusal 10)
  wrong (Open slot key d) = plain _ 10 0 refl
  wrong (Submit slot key number part) = plain _ 10 0 refl
  wrong (Take slot key total) = plain _ 10 0 refl
  wrong (Close slot key) = plain _ 10 0 refl

  above : (r : Request) → OfTheTable r (requests.refusal 11)
  above (Open slot key d) = plain _ 11 0 refl
  above (Submit slot key number part) = plain _ 11 0 refl
  above (Take slot key total) = plain _ 11 0 refl
  above (Close slot key) = plain _ 11 0 refl

pub answers : Answered
unfolding step
answers widths h r = go (is_lent widths h r) refl (ltb (slot_of r) 16) refl
  where
    go : (t : Bool) → is_lent widths h r ≡ t → (u : Bool) → ltb (slot_of r) 16 ≡ u
        → OfTheTable r (if t then (if u then (on_entry widths h r (entry_of h (slot_of r))).answer else requests.refusal 11) else requests.refusal 10)
    go true a true b = its_answered widths h r (here widths h r a (ltb-true (slot_of r) 16 b))
    go true a false b = above widths h r
    go false a u b = wrong widths h r
