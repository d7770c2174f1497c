-- Every answer is what the slot's account tells: the account agrees with the entry, so each test of the one is a test of the other; and the stored
-- number is the count, which stops nothing.
-- Assumes nothing.
use Rattle.std.specs.Prelude.{if◌then◌else◌}
use Prim.Native.Nat.{ℕ, zero, suc, ◌+◌, ◌-◌, ◌≤◌, ◌<◌}
use mathlib.Core.Path.{◌≡◌, refl, sym, ◌∙◌, ap}
use mathlib.Core.Bool.{Bool, true, false, not, ◌&&◌, ◌||◌}
use mathlib.Core.List.{List, map}
use native.Mathlib.Omega.{arith}
use lib.ListN.{length, take, length-take}
use lib.Dec.{ltb, leb, eqb}
use borrow.Author.Tests.{leb-true, leb-false, ltb-true, ltb-false, eqb-true, eqb-false, eq-eqb, le-leb, lt-leb, lt-ltb, le-ltb, ne_eqb}
use Rattle.part.specs.Checks.{Checked, fine, fault, refuse, require, ◌>>=◌, ◌>>◌}
use Rattle.part.specs.States.{with_used}
use Rattle.part.specs.Ranges.{◌to◌, ◌∈◌, hold, descriptor_fields, state_fields}
use Rattle.part.specs.Reading.{cut}
use Rattle.part.specs.Records.{Item, all_bytes, boundaries}
use Rattle.part.specs.Place.{Effect}
use Rattle.part.specs.Part.{elements, admitted, outcome, answer, answered, interpreted}
use Rattle.part.specs.declared.shapes.Descriptor.{Descriptor}
use Rattle.part.specs.declared.shapes.State.{State}
use Rattle.part.specs.declared.shapes.Answer.{Answer}
use Rattle.part.specs.declared.shapes.Interpreted.{Interpreted}
use Rattle.part.proofs.Checks.{first_of, same_value}
use Rattle.hub.specs.Entries.{is_open, damaged, all_written}
use Rattle.hub.specs.Requests.{may_open, judged, may_submit, is_one_of, may_take, may_close, out, decided, part_placed, opening, closing, submitting, taking, area_of, refusal, Hub, Request, Open, Submit, Take, Close, slot_of, is_lent, on_entry, step, steps}
use Rattle.hub.specs.Accounts.{Job, Account, unused, running, ended, last_key, is_running, places_from, to_open, to_close, goes_on, behind, to_part, to_submit, to_total, to_take, tells, is_well_lent, told, as_answer}
use Rattle.hub.specs.Histories.{entry_of, printed, account}
use Rattle.hub.specs.Promises.{counting, Fresh, IsCount, Kept, Agrees, ReadInAll, ReadOf, Tells}
use Rattle.hub.specs.declared.jobs.Entry.{Entry}
use Rattle.hub.specs.declared.jobs.Out.{Out}
use Rattle.hub.proofs.Slots.{own_length}
use Rattle.hub.proofs.Reaching.{out_then, steps-lent}
use Rattle.hub.proofs.Deciding.{here, whole, take_whole, lent-widths}
use Rattle.hub.proofs.Ranging.{in_range}
use Rattle.hub.proofs.Boundaries.{are_places, places_past, places_behind, places_shifted}
use Rattle.hub.proofs.Draining.{its_taken}
use Rattle.hub.proofs.Holding.{sound}
use Rattle.hub.proofs.Storing.{out_calm, steps-count, start-count}

-- a check decides the answer
decided-says : (e f : Entry) (a : Answer) (m : Checked Unit) → (decided e m (out f a)).answer ≡ as_answer (m >> fine a)
decided-says e f a (fine _) = refl
decided-says e f a (fault code at) = refl

above : (a b : ℕ) → not (leb b a) ≡ ltb a b
above a b = go (leb b a) refl
  where
    go : (t : Bool) → leb b a ≡ t → not t ≡ ltb a b
    go true h = let k = leb-true b a h in sym (le-ltb a b k)
    go false h = let k = leb-false b a h in sym (lt-ltb a b (omega arith))

not-below : (a b : ℕ) → not (ltb a b) ≡ leb b a
not-below a b = go (ltb a b) refl
  where
    go : (t : Bool) → ltb a b ≡ t → not t ≡ leb b a
    go true h = sym (lt-leb b a (ltb-true a b h))
    go false h = sym (le-leb b a (ltb-false a b h))

-- not below a number, and not above it
just : (a b : ℕ) → b ≤ a → leb a b ≡ eqb a b
just a b h = go (leb a b) refl
  where
    go : (t : Bool) → leb a b ≡ t → t ≡ eqb a b
    go true k = let l = leb-true a b k in sym (eq-eqb a b (omega arith))
    go false k = let l = leb-false a b k in sym (ne_eqb a b (λ e. omega arith))

-- ---- part numbers

-- the numbers from n on, so many, are those below their end
one_of : (number n many : ℕ) → n ≤ number → is_one_of number (counting n many) ≡ ltb number (n + many)
one_of number n zero h = sym (le-ltb number (n + 0) (omega arith))
one_of number n (suc many) h = go (λ k. one_of number (n + 1) many k) (eqb number n) refl
  where
    more : ltb number (n + 1 + many) ≡ ltb number (n + suc many)
    more = ap (ltb number) (let z : n + 1 + many ≡ n + suc many = omega arith in z)

    go : (n + 1 ≤ number → is_one_of number (counting (n + 1) many) ≡ ltb number (n + 1 + many)) → (t : Bool) → eqb number n ≡ t
        → (t || is_one_of number (counting (n + 1) many)) ≡ ltb number (n + suc many)
    go others true e = let same = eqb-true number n e in sym (lt-ltb number (n + suc many) (omega arith))
    go others false e = others (later (ltb number (n + 1)) refl) ∙ more
      where
        later : (u : Bool) → ltb number (n + 1) ≡ u → n + 1 ≤ number
        later true k = let l = ltb-true number (n + 1) k in absurd (eqb-false number n e (omega arith))
        later false k = ltb-false number (n + 1) k

-- a number by the next one: old, the next, or a gap
numbered : {A : Type 0} (n number : ℕ) (ns : List ℕ) (m : Checked A) → ns ≡ counting 1 n
    → (judged (n + 1) number >> m) ≡ (require (number ∈ 1 to 65535) 17 >> (require (not (is_one_of number ns)) 1 >> (require (eqb number (n + 1)) 18 >> m)))
unfolding judged
numbered n number ns m are = rw are (go (number ∈ 1 to 65535) refl)
  where
    near : (t : Bool) → leb (n + 1) number ≡ t → not (is_one_of number (counting 1 n)) ≡ t
        → ((require t 1 >> require (leb number (n + 1)) 18) >> m) ≡ (require (not (is_one_of number (counting 1 n))) 1 >> (require (eqb number (n + 1)) 18 >> m))
    near true e q = rw (q, just number (n + 1) (leb-true (n + 1) number e))
    near false e q = rw q

    old : 1 ≤ number → not (is_one_of number (counting 1 n)) ≡ leb (n + 1) number
    old least = ap not (one_of number 1 n least) ∙ not-below number (1 + n) ∙ ap (λ (k : ℕ). leb k number) (let z : 1 + n ≡ n + 1 = omega arith in z)

    go : (t : Bool) → (number ∈ 1 to 65535) ≡ t
        → ((require t 17 >> (require (leb (n + 1) number) 1 >> require (leb number (n + 1)) 18)) >> m) ≡ (require t 17 >> (require (not (is_one_of number (counting 1 n))) 1 >> (require (eqb number (n + 1)) 18 >> m)))
    go true e = near (leb (n + 1) number) refl (old (leb-true 1 number (first_of (leb 1 number) (leb number 65535) e)))
    go false e = refl

module _ (widths : List ℕ) where
  -- ---- what an account knows of its entry

  key-is : (a : Account) (e : Entry) (area : List ℕ) → Agrees widths a e area → e.key ≡ last_key a
  key-is unused e area k = k.1
  key-is (running j) e area k = ap (λ (x : Entry). x.key) k.its_entry
  key-is (ended j) e area k = ap (λ (x : Entry). x.key) k.its_entry

  open_is : (a : Account) (e : Entry) (area : List ℕ) → Agrees widths a e area → is_open e ≡ is_running a
  open_is unused e area k = k.0
  open_is (running j) e area k = ap is_open k.its_entry
  open_is (ended j) e area k = ap is_open k.its_entry

  module _ (a : Account) (e : Entry) (area : List ℕ) (agrees : Agrees widths a e area) (undamaged : damaged e ≡ false) where
    open_told : (key : ℕ) (d : Descriptor) → (opening key d 1 e).answer ≡ as_answer (to_open a key d)
    unfolding opening may_open to_open
    open_told key d =
        decided-says e _ (answer 0 0 0) (may_open key d 1 e)
        ∙ rw (undamaged, open_is a e area agrees, key-is a e area agrees, above (last_key a) key) (cases (is_running a && eqb (last_key a) key) (is_running a) (ltb (last_key a) key) (hold (descriptor_fields d)))
      where
        cases : (under is new ranges : Bool)
            → as_answer ((require (not under) 1 >> (require (not is) 13 >> (require new 14 >> (require ranges 15 >> require true 32)))) >> fine (answer 0 0 0))
            ≡ as_answer (require (not under) 1 >> (require (not is) 13 >> (require new 14 >> (require ranges 15 >> fine (answer 0 0 0)))))
        cases true is new ranges = refl
        cases false true new ranges = refl
        cases false false false ranges = refl
        cases false false true false = refl
        cases false false true true = refl

    close_told : (key : ℕ) → (closing key 1 e).answer ≡ as_answer (to_close a key)
    unfolding closing may_close to_close
    close_told key =
        decided-says e _ (answer 0 0 0) (may_close key 1 e)
        ∙ rw (undamaged, open_is a e area agrees, key-is a e area agrees) (cases (is_running a) (eqb (last_key a) key) (ltb 0 key))
      where
        cases : (is same more : Bool)
            → as_answer ((require (not (not is && same && more)) 1 >> (require (is && same) 16 >> require true 32)) >> fine (answer 0 0 0))
            ≡ as_answer (if is && same then fine (answer 0 0 0) else if same && more then refuse 1 else refuse 16)
        cases true true more = refl
        cases true false more = refl
        cases false true true = refl
        cases false true false = refl
        cases false false more = refl

  -- ---- one more part

  -- what is answered is what the outcome says
  answered-says : (count : ℕ) (s : State) (m : Checked Effect) → (answered count s m).answer ≡ as_answer (m >>= λ more. fine (answer 0 count (length (all_bytes more.items))))
  answered-says count s (fine more) = refl
  answered-says count s (fault code at) = refl

  module _ (j : Job) (e : Entry) (area part : List ℕ) (k : Kept widths j 1 e area) where
    its_descriptor : e.descriptor ≡ j.descriptor
    its_descriptor = ap (λ (x : Entry). x.descriptor) k.its_entry

    its_state : e.state ≡ goes_on widths j k.result
    its_state =
        let used = k.its_used in
        ap (λ (x : Entry). x.state) k.its_entry
        ∙ ap (with_used k.result.state) (let z : e.state.used ≡ length (all_bytes k.result.items) - length j.taken = omega arith in z)

    part-told : length area ≡ 4096 → length widths ≡ 1024 → hold (state_fields e.state) ≡ true → hold (descriptor_fields e.descriptor) ≡ true
        → (interpreted widths e.descriptor e.state part area).answer ≡ as_answer (behind widths j part)
    unfolding interpreted outcome admitted behind
    part-told long table sh dh =
        answered-says _ e.state (outcome widths e.descriptor e.state part area)
        ∙ rw (eq-eqb (length area) 4096 long, eq-eqb (length widths) 1024 table, sh, dh, k.by_rules) (go (leb (length part) 8192))
      where
        more : State → Descriptor → Checked Answer
        more s d = elements widths d s (cut s.chain part) >>= λ f. fine (answer 0 (length (cut s.chain part)) (length (all_bytes f.items)))

        same : more e.state e.descriptor ≡ more (goes_on widths j k.result) j.descriptor
        same = ap (λ (s : State). more s e.descriptor) its_state ∙ ap (more (goes_on widths j k.result)) its_descriptor

        go : (t : Bool) → as_answer ((require t 19 >> elements widths e.descriptor e.state (cut e.state.chain part)) >>= λ f. fine (answer 0 (length (cut e.state.chain part)) (length (all_bytes f.items))))
            ≡ as_answer (require t 19 >> more (goes_on widths j k.result) j.descriptor)
        go true = ap as_answer same
        go false = refl

  -- ---- a submit

  module _ (e : Entry) (area : List ℕ) (undamaged : damaged e ≡ false) (key number : ℕ) (part : List ℕ) where
    -- where no job runs
    shut-told : is_open e ≡ false → (submitting widths key number part area e).answer ≡ as_answer (refuse 16)
    unfolding submitting may_submit
    shut-told shut = rw (undamaged, shut)

    -- a check, and then the part's own answer
    taken-says : (m : Checked Unit) (r : Interpreted) (told : Checked Answer) → r.answer ≡ as_answer told → (decided e m (part_placed e r)).answer ≡ as_answer (m >> told)
    taken-says (fine _) r told same = same
    taken-says (fault code at) r told same = refl

    running-told : (j : Job) → Kept widths j 1 e area → length area ≡ 4096 → length widths ≡ 1024 → (submitting widths key number part area e).answer ≡ as_answer (to_submit widths (running j) key number part)
    unfolding submitting may_submit to_part
    running-told j k long table =
        let is = ap is_open k.its_entry in
        let ranges = in_range e is undamaged in
        let n = length j.parts in
        let next = ap (λ (x : Entry). x.next) k.its_entry in
        let its = part-told j e area part k long table ranges.state ranges.descriptor in
        taken-says (may_submit key number e) (interpreted widths e.descriptor e.state part area) (behind widths j part) its
        ∙ rw (undamaged, is, ap (λ (x : Entry). x.key) k.its_entry, next) (go (eqb j.key key) (judged (n + 1) number) (behind widths j part) (to_part widths j number part) (numbered n number (map (λ p. p.number) j.parts) (behind widths j part) k.in_order))
      where
        go : (t : Bool) (c : Checked Unit) (m n : Checked Answer) → (c >> m) ≡ n → as_answer ((require t 16 >> c) >> m) ≡ as_answer (require t 16 >> n)
        go true c m n same = ap as_answer same
        go false c m n same = refl

    submit_told : (a : Account) → Agrees widths a e area → length area ≡ 4096 → length widths ≡ 1024 → (submitting widths key number part area e).answer ≡ as_answer (to_submit widths a key number part)
    submit_told unused k long table = shut-told k.0
    submit_told (running j) k long table = running-told j k long table
    submit_told (ended j) k long table = shut-told (ap is_open k.its_entry)

  -- ---- a take

  module _ (e : Entry) (area : List ℕ) (undamaged : damaged e ≡ false) (key total : ℕ) where
    -- a place between the records that are left is one between all
    module _ (j : Job) (k : Kept widths j 1 e area) (x : ReadInAll widths j (take e.state.used area)) (long : length area ≡ 4096) where
      met-told : e.taken < total → is_one_of (total - e.taken) (boundaries (take e.state.used area)) ≡ is_one_of total (places_from 0 x.result.items)
      met-told above =
          let said = its_taken widths j e area total k x in
          let its = x.its_found in
          let size = ap length x.its_taken in
          let low : length (all_bytes x.unread) < 65536 = let a = length-take e.state.used area in let b = ap length its in omega arith in
          let more = total - e.taken in
          ap (λ (t : List ℕ). is_one_of more (boundaries t)) its
          ∙ ap (is_one_of more) (are_places x.unread low)
          ∙ sym (places_shifted e.taken 0 more x.unread)
          ∙ ap (λ (n : ℕ). is_one_of n (places_from (e.taken + 0) x.unread)) (let z : e.taken + more ≡ total = omega arith in z)
          ∙ ap (λ (n : ℕ). is_one_of total (places_from n x.unread)) (let z : e.taken + 0 ≡ 0 + length (all_bytes x.read) = omega arith in z)
          ∙ sym (places_behind 0 total x.read x.unread (omega arith))
          ∙ ap (λ (t : List Item). is_one_of total (places_from 0 t)) x.in_all

      past_told : all_written e < total → is_one_of total (places_from 0 x.result.items) ≡ false
      past_told above =
          let said = its_taken widths j e area total k x in
          let used = k.its_used in
          let same = ap (λ (f : Effect). length (all_bytes f.items)) (same_value (sym x.by_rules ∙ k.by_rules)) in
          places_past 0 total x.result.items (omega arith)

      total_told : (require (ltb e.taken total) 1 >> (require (leb total 4294967295) 30 >> (require (leb total (all_written e)) 30 >> require (is_one_of (total - e.taken) (boundaries (take e.state.used area))) 30))) >> fine (answer 0 0 0) ≡ to_total widths j total
      unfolding to_total
      total_told = rw (x.by_rules, ← (its_taken widths j e area total k x)) (go (ltb e.taken total) refl)
        where
          within : e.taken < total → (t : Bool) → leb total (all_written e) ≡ t
              → ((require t 30 >> require (is_one_of (total - e.taken) (boundaries (take e.state.used area))) 30) >> fine (answer 0 0 0)) ≡ (require (is_one_of total (places_from 0 x.result.items)) 30 >> fine (answer 0 0 0))
          within above true is = rw (met-told above)
          within above false is = rw (past_told (leb-false total (all_written e) is))

          low : e.taken < total → (t : Bool)
              → ((require t 30 >> (require (leb total (all_written e)) 30 >> require (is_one_of (total - e.taken) (boundaries (take e.state.used area))) 30)) >> fine (answer 0 0 0)) ≡ (require t 30 >> (require (is_one_of total (places_from 0 x.result.items)) 30 >> fine (answer 0 0 0)))
          low above true = within above (leb total (all_written e)) refl
          low above false = refl

          go : (t : Bool) → ltb e.taken total ≡ t
              → ((require t 1 >> (require (leb total 4294967295) 30 >> (require (leb total (all_written e)) 30 >> require (is_one_of (total - e.taken) (boundaries (take e.state.used area))) 30))) >> fine (answer 0 0 0)) ≡ (require t 1 >> (require (leb total 4294967295) 30 >> (require (is_one_of total (places_from 0 x.result.items)) 30 >> fine (answer 0 0 0))))
          go true is = low (ltb-true e.taken total is) (leb total 4294967295)
          go false is = refl

    take-told : (a : Account) → Agrees widths a e area → ReadOf widths a (take e.state.used area) → length area ≡ 4096 → (taking key total area e).answer ≡ as_answer (to_take widths a key total)
    unfolding taking may_take
    take-told unused k x long = rw (undamaged, k.0)
    take-told (running j) k x long =
        decided-says e _ (answer 0 0 0) (may_take key total area e)
        ∙ rw (undamaged, ap is_open k.its_entry, ap (λ (f : Entry). f.key) k.its_entry) (go (eqb j.key key) _ _ (total_told j k x long))
      where
        go : (t : Bool) (c : Checked Unit) (n : Checked Answer) → (c >> fine (answer 0 0 0)) ≡ n → as_answer ((require t 16 >> c) >> fine (answer 0 0 0)) ≡ as_answer (require t 16 >> n)
        go true c n same = ap as_answer same
        go false c n same = refl
    take-told (ended j) k x long = rw (undamaged, ap is_open k.its_entry)

  -- ---- any request, at any time

  module _ (now : Hub) (count : IsCount now) (a : Account) where
    -- the number that is the count may as well be a 1
    calm : (r : Request) → is_lent widths now r ≡ true → slot_of r < 16
        → (out_then widths r (entry_of now (slot_of r)) (area_of now.records (slot_of r)) now.stored).answer ≡ (out_then widths r (entry_of now (slot_of r)) (area_of now.records (slot_of r)) 1).answer
    calm r lent low = ap (λ (o : Out). o.answer) (out_calm widths now count r lent low (area_of now.records (slot_of r)))

    its_told : (r : Request) → is_lent widths now r ≡ true → slot_of r < 16 → Agrees widths a (entry_of now (slot_of r)) (area_of now.records (slot_of r)) → ReadOf widths a (printed now (slot_of r)) → damaged (entry_of now (slot_of r)) ≡ false
        → (on_entry widths now r (entry_of now (slot_of r))).answer ≡ as_answer (tells widths a r)
    its_told (Open slot key d) lent low agrees reads undamaged = calm (Open slot key d) lent low ∙ open_told a (entry_of now slot) (area_of now.records slot) agrees undamaged key d
    its_told (Submit slot key number part) lent low agrees reads undamaged =
        let x = here widths now (Submit slot key number part) lent low in
        let long = own_length now.records slot (whole widths now slot key number part x) low in
        submit_told (entry_of now slot) (area_of now.records slot) undamaged key number part a agrees long (lent-widths widths now slot key number part x)
    its_told (Take slot key total) lent low agrees reads undamaged =
        let x = here widths now (Take slot key total) lent low in
        take-told (entry_of now slot) (area_of now.records slot) undamaged key total a agrees reads (own_length now.records slot (take_whole widths now slot key total x) low)
    its_told (Close slot key) lent low agrees reads undamaged = calm (Close slot key) lent low ∙ close_told a (entry_of now slot) (area_of now.records slot) agrees undamaged key

-- 10 and 11 before it
lent-told : (t u : Bool) (a : Answer) (m : Checked Answer) → (t ≡ true → u ≡ true → a ≡ as_answer m) → (if t then (if u then a else refusal 11) else refusal 10) ≡ as_answer (require t 10 >> (require u 11 >> m))
lent-told true true a m k = k refl refl
lent-told true false a m k = refl
lent-told false u a m k = refl

-- a fresh table has its length
well_lent : (widths : List ℕ) (h : Hub) → Fresh h → (r : Request) → is_lent widths h r ≡ is_well_lent widths h r
well_lent widths h f (Open slot key d) = rw f.sixteen
well_lent widths h f (Submit slot key number part) = rw f.sixteen
well_lent widths h f (Take slot key total) = rw f.sixteen
well_lent widths h f (Close slot key) = rw f.sixteen

pub as_told : Tells
unfolding step told
as_told widths h f nought before r =
    let now = steps widths h before in
    let a = account widths (slot_of r) h unused before in
    let k = sound widths h f before (slot_of r) in
    let count = steps-count widths h (start-count h f nought) before in
    let lent = steps-lent widths h before r ∙ well_lent widths h f r in
    rw lent (lent-told (is_well_lent widths h r) (ltb (slot_of r) 16) (on_entry widths now r (entry_of now (slot_of r))).answer (tells widths a r)
    (λ yes low. its_told widths now count a r (lent ∙ yes) (ltb-true (slot_of r) 16 low) k.agrees k.reads k.undamaged))
