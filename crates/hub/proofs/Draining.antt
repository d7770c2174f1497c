-- A job that is kept by the rules is so when records are taken out of its area: a place between two of them parts them, and those in front of it are read.
-- Assumes nothing.
use Prim.Native.Nat.{ℕ, ◌+◌, ◌-◌, ◌≤◌, ◌<◌}
use mathlib.Core.Path.{◌≡◌, sym, ◌∙◌, ap}
use mathlib.Core.Bool.{true}
use mathlib.Core.List.{List, ◌++◌, append_assoc}
use native.Mathlib.Omega.{arith}
use lib.ListN.{length, take, drop, length-append, length-take}
use lib.Seq.{take-add, take_at, drop_at, length-take-le}
use Rattle.part.specs.Reading.{between}
use Rattle.part.specs.Records.{Item, all_bytes, boundaries}
use Rattle.part.specs.States.{with_used}
use Rattle.part.proofs.Parts.{all_bytes-join}
use Rattle.hub.specs.Entries.{entry, all_written, drained}
use Rattle.hub.specs.Requests.{is_one_of, moved_down}
use Rattle.hub.specs.Accounts.{Job, with_taken}
use Rattle.hub.specs.Promises.{Kept, ReadInAll}
use Rattle.hub.specs.declared.jobs.Entry.{Entry}
use Rattle.hub.proofs.Boundaries.{are_places, Parted, parted}
use Rattle.hub.proofs.Bytes.{moved_front}

module _ (widths : List ℕ) (j : Job) (e : Entry) (area : List ℕ) (total : ℕ) (k : Kept widths j 1 e area) (x : ReadInAll widths j (take e.state.used area)) where
  abbrev used : ℕ
  used = e.state.used

  abbrev found : List ℕ
  found = take used area

  abbrev more : ℕ
  more = total - e.taken

  -- the entry's total is what was taken
  pub its_taken : e.taken ≡ length j.taken
  its_taken = ap (λ (f : Entry). f.taken) k.its_entry

  -- all the bytes used are there
  pub found_long : length found ≡ used
  found_long =
      let a = ap length k.its_records in
      let b = length-append j.taken found in
      let c = k.its_used in
      omega arith

  module _ (long : length area ≡ 4096) (above : e.taken < total) (within : total ≤ all_written e) (met : is_one_of more (boundaries found) ≡ true) where
    used_low : used ≤ 4096
    used_low = let a = found_long in let b = length-take used area in omega arith

    split : Parted 0 more x.unread
    split =
        let f = x.its_found in
        let low : length (all_bytes x.unread) < 65536 = let a = found_long in let b = used_low in let c = ap length f in omega arith in
        parted 0 more x.unread (rw (f, are_places x.unread low) at met)

    abbrev front : List ℕ
    front = all_bytes split.front

    abbrev back : List ℕ
    back = all_bytes split.back

    front_long : length front ≡ more
    front_long = let a = split.place in omega arith

    found_are : found ≡ front ++ back
    found_are = x.its_found ∙ ap all_bytes (sym split.are) ∙ all_bytes-join split.front split.back

    -- what the printer has read, and what it finds then
    read_now : take more found ≡ front
    read_now = ap (take more) found_are ∙ take_at front back more front_long

    found_then : take (all_written e - total) (moved_down area more used) ≡ back
    found_then =
        let low = used_low in
        let first = length-take-le more area (omega arith) in
        ap (λ (n : ℕ). take n (moved_down area more used)) (let z : all_written e - total ≡ used - more = omega arith in z)
        ∙ moved_front area more used (omega arith) (omega arith)
        ∙ sym (drop_at (take more area) (between area more used) more first)
        ∙ ap (drop more) (sym (take-add more (used - more) area) ∙ ap (λ (n : ℕ). take n area) (let z : more + (used - more) ≡ used = omega arith in z) ∙ found_are)
        ∙ drop_at front back more front_long

    taken_now : length (j.taken ++ take more found) ≡ total
    taken_now =
        let a = length-append j.taken (take more found) in
        let b = ap length read_now in
        let c = front_long in
        let d = its_taken in
        omega arith

    pub take-read : ReadInAll widths (with_taken j (take more found)) (take (all_written e - total) (moved_down area more used))
    take-read = record {
      result = x.result;
      by_rules = x.by_rules;
      read = x.read ++ split.front;
      unread = split.back;
      in_all = append_assoc x.read split.front split.back ∙ ap (λ (t : List Item). x.read ++ t) split.are ∙ x.in_all;
      its_taken = ap (λ (t : List ℕ). t ++ take more found) x.its_taken ∙ ap (λ (t : List ℕ). all_bytes x.read ++ t) read_now ∙ sym (all_bytes-join x.read split.front);
      its_found = found_then;
    }

    pub take-kept : Kept widths (with_taken j (take more found)) 1 (drained e total) (moved_down area more used)
    take-kept = record {
      in_order = k.in_order;
      result = k.result;
      by_rules = k.by_rules;
      its_entry =
          ap (λ (f : Entry). entry f.key f.mark f.descriptor (with_used f.state (all_written e - total)) f.next total) k.its_entry
          ∙ ap (entry j.key 1 j.descriptor (with_used k.result.state (all_written e - total)) (length j.parts + 1)) (sym taken_now);
      its_used = let a = taken_now in let b = k.its_used in let c = its_taken in omega arith;
      its_records =
          ap (λ (t : List ℕ). (j.taken ++ take more found) ++ t) found_then
          ∙ append_assoc j.taken (take more found) back
          ∙ ap (λ (t : List ℕ). j.taken ++ (t ++ back)) read_now
          ∙ ap (λ (t : List ℕ). j.taken ++ t) (sym found_are)
          ∙ k.its_records;
    }
