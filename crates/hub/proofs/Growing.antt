-- A job that is kept by the rules is so with one more accepted part: the rules go on from where the parts before it left off.
-- Assumes nothing.
use Prim.Native.Nat.{ℕ, zero, suc, ◌+◌}
use mathlib.Core.Path.{◌≡◌, refl, sym, ◌∙◌, ap}
use mathlib.Core.List.{List, [], ◌∷◌, ◌++◌, append_assoc, append-nil, map, map-append}
use native.Mathlib.Omega.{arith}
use native.Mathlib.Nat.{add-zero}
use lib.ListN.{length, take, length-append}
use Rattle.part.specs.Checks.{Checked, fine, fault}
use Rattle.part.specs.Reading.{cut}
use Rattle.part.specs.Records.{Item, all_bytes, spliced}
use Rattle.part.specs.States.{with_used}
use Rattle.part.specs.Place.{Effect, place}
use Rattle.part.specs.Part.{elements_by}
use Rattle.part.specs.declared.shapes.Descriptor.{Descriptor}
use Rattle.part.specs.declared.shapes.State.{State}
use Rattle.part.proofs.Checks.{same_value}
use Rattle.part.proofs.Parts.{◌then◌, all_bytes-join}
use Rattle.part.proofs.Accepting.{Accepted, then_then}
use Rattle.part.proofs.Rooms.{shifted, elements_free, free_of}
use Rattle.hub.specs.Entries.{entry, first_state, gone_on}
use Rattle.hub.specs.Accounts.{Numbered, Job, with_part, parts_from, by_the_rules}
use Rattle.hub.specs.Promises.{counting, Kept, ReadInAll}
use Rattle.hub.specs.declared.jobs.Entry.{Entry}
use Rattle.hub.proofs.Bytes.{up_to}

-- some numbers, and the next one
count-on : (n many : ℕ) → counting n (suc many) ≡ counting n many ++ (n + many) ∷ []
count-on n zero = rw add-zero
count-on n (suc many) = ap (λ (t : List ℕ). n ∷ t) (count-on (n + 1) many ∙ ap (λ (m : ℕ). counting (n + 1) many ++ m ∷ []) (let z : n + 1 + many ≡ n + suc many = omega arith in z))

module _ (widths : List ℕ) (d : Descriptor) where
  abbrev free : State → List ℕ → Checked Effect
  free s p = elements_by (place widths d) s (cut s.chain p)

  -- some parts, and one more
  parts-on : (s : State) (ps : List (List ℕ)) (p : List ℕ) → parts_from widths d s (ps ++ p ∷ []) ≡ ◌then◌ (parts_from widths d s ps) (λ t. free t p)
  unfolding parts_from
  parts-on s [] p = alone (free s p)
    where
      alone : (m : Checked Effect) → ◌then◌ m (λ t. fine (record { state = t; items = [] })) ≡ ◌then◌ (fine (record { state = s; items = [] })) (λ _. m)
      alone (fine e) = rw append-nil
      alone (fault code at) = refl
  parts-on s (q ∷ ps) p = go (free s q) (λ t. parts-on t ps p)
    where
      go : (m : Checked Effect) → ((t : State) → parts_from widths d t (ps ++ p ∷ []) ≡ ◌then◌ (parts_from widths d t ps) (λ t. free t p))
          → ◌then◌ m (λ t. parts_from widths d t (ps ++ p ∷ [])) ≡ ◌then◌ (◌then◌ m (λ t. parts_from widths d t ps)) (λ t. free t p)
      go (fine e) k = rw (k e.state) (then_then (fine e) (λ t. parts_from widths d t ps) (λ t. free t p))
      go (fault code at) k = refl

module _ (widths : List ℕ) (j : Job) (e : Entry) (area : List ℕ) (number : ℕ) (part : List ℕ) (f : Effect) (taken : Accepted widths e.descriptor e.state part area f) (k : Kept widths j 1 e area) where
  abbrev p : Numbered
  p = record { number = number; part = part }

  abbrev bytes : List ℕ
  bytes = all_bytes f.items

  -- what the rules give for one part more
  abbrev more : Effect
  more = record { state = with_used f.state k.result.state.used; items = k.result.items ++ f.items }

  more_by_rules : by_the_rules widths (with_part j p) ≡ fine more
  more_by_rules =
      let s = k.result.state in
      let its_state = ap (λ (x : Entry). x.state) k.its_entry in
      let its_descriptor = ap (λ (x : Entry). x.descriptor) k.its_entry in
      let passed : free widths j.descriptor s part ≡ fine (shifted s.used f) =
      ap (λ (d : Descriptor). free widths d s part) (sym its_descriptor)
      ∙ ap (λ (x : State). free widths e.descriptor (with_used x s.used) part) (sym its_state)
      ∙ elements_free widths e.descriptor e.state s.used (cut e.state.chain part)
      ∙ rw (free_of widths e.descriptor e.state (cut e.state.chain part) f taken.passed)
      in
      ap (parts_from widths j.descriptor (first_state j.descriptor)) (map-append (λ (x : Numbered). x.part) j.parts (p ∷ []))
      ∙ parts-on widths j.descriptor (first_state j.descriptor) (map (λ x. x.part) j.parts) part
      ∙ rw (k.by_rules, passed)

  -- what a printer finds then: its bytes behind the others
  found_more : take f.state.used (spliced area e.state.used bytes) ≡ take e.state.used area ++ bytes
  found_more = ap (λ (m : ℕ). take m (spliced area e.state.used bytes)) taken.grows ∙ up_to area e.state.used bytes taken.fits

  -- none of it read yet
  pub part-read : ReadInAll widths j (take e.state.used area) → ReadInAll widths (with_part j p) (take f.state.used (spliced area e.state.used bytes))
  part-read x = record {
    result = more;
    by_rules = more_by_rules;
    read = x.read;
    unread = x.unread ++ f.items;
    in_all = sym (append_assoc x.read x.unread f.items) ∙ ap (λ (t : List Item). t ++ f.items) (x.in_all ∙ ap (λ (t : Effect). t.items) (same_value (sym x.by_rules ∙ k.by_rules)));
    its_taken = x.its_taken;
    its_found = found_more ∙ ap (λ (t : List ℕ). t ++ bytes) x.its_found ∙ sym (all_bytes-join x.unread f.items);
  }

  pub part-kept : e.next ≡ number → Kept widths (with_part j p) 1 (gone_on e f.state) (spliced area e.state.used bytes)
  part-kept next =
      let n = length j.parts in
      let long = length-append j.parts (p ∷ []) in
      let was = ap (λ (x : Entry). x.next) k.its_entry in
      let grows = taken.grows in
      let used = k.its_used in
      let join = all_bytes-join k.result.items f.items in
      record {
        in_order =
            map-append (λ (x : Numbered). x.number) j.parts (p ∷ [])
            ∙ ap (λ (t : List ℕ). t ++ number ∷ []) k.in_order
            ∙ ap (λ (m : ℕ). counting 1 n ++ m ∷ []) (let z : number ≡ 1 + n = omega arith in z)
            ∙ sym (count-on 1 n)
            ∙ ap (counting 1) (let z : suc n ≡ length (j.parts ++ p ∷ []) = omega arith in z);
        result = more;
        by_rules = more_by_rules;
        its_entry =
            ap (λ (x : Entry). gone_on x f.state) k.its_entry
            ∙ ap (λ (m : ℕ). entry j.key 1 j.descriptor f.state (m + 1) (length j.taken)) (sym long);
        its_used = let z = ap length join ∙ length-append (all_bytes k.result.items) bytes in omega arith;
        its_records =
            ap (λ (t : List ℕ). j.taken ++ t) found_more
            ∙ sym (append_assoc j.taken (take e.state.used area) bytes)
            ∙ ap (λ (t : List ℕ). t ++ bytes) k.its_records
            ∙ sym join;
      }
