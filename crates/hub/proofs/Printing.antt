-- What the rules give is whole records, one behind the other, none of them empty, each on the sheet: each begins with its own length and its kind. So is what a job holds.
-- Assumes nothing.
use Prim.Native.Nat.{ℕ, ◌+◌, ◌-◌, ◌*◌, ◌<◌}
use mathlib.Core.Path.{◌≡◌, refl, ◌∙◌, ap}
use mathlib.Core.Bool.{true, false}
use mathlib.Core.List.{List, [], ◌∷◌, ◌++◌, map}
use native.Mathlib.Omega.{arith}
use borrow.Author.Tests.{ne_eqb}
use lib.ListN.{length, take, drop, get_or, length-append, length-take}
use Rattle.part.specs.Reading.{cut}
use Rattle.part.specs.Records.{Item, text_item, rule_item, bytes_of, all_bytes, little_at, is_empty}
use Rattle.part.specs.Place.{place}
use Rattle.part.specs.Part.{elements_by}
use Rattle.part.specs.Ranges.{hold, descriptor_fields}
use Rattle.part.specs.declared.shapes.Descriptor.{Descriptor}
use Rattle.part.specs.declared.shapes.State.{State}
use Rattle.hub.specs.declared.jobs.Entry.{Entry}
use Rattle.part.proofs.Checks.{Gives, value, gives_then, value_of}
use Rattle.part.proofs.Every.{Every, none, ◌also◌, every_so, every_join}
use Rattle.part.proofs.Inside.{Filled, Drawable, Shown, rule_low, all-on, elements-on}
use Rattle.hub.specs.Entries.{first_state}
use Rattle.hub.specs.Requests.{area_of, Hub, Request, steps}
use Rattle.hub.specs.Accounts.{Job, Account, unused, running, ended, parts_from}
use Rattle.hub.specs.Histories.{entry_of, printed, account}
use Rattle.hub.specs.Promises.{Fresh, Kept, Agrees, ReadInAll, ReadOf, WholeRecords, Printable, Prints, OnTheSheet}
use Rattle.hub.proofs.Boundaries.{read_back, begins, rest_behind, are_places, places_many, places_end}
use Rattle.hub.proofs.Holding.{Described, sound}

-- neither empty by its numbers nor by their bytes: a rule's length and width are read back as they are
abbrev Solid : Item → Type 0
Solid (text_item t) = Filled (text_item t)
Solid (rule_item r) = Filled (rule_item r) × (r.len < 65536) × (r.width < 65536)

not-empty : (x : Item) (behind : List ℕ) → length (bytes_of x) < 65536 → Solid x → is_empty (bytes_of x ++ behind) ≡ false
unfolding bytes_of
not-empty (text_item t) behind h solid =
    let is = (begins (text_item t) behind h).length-is in
    ne_eqb (little_at (bytes_of (text_item t) ++ behind) 0) 16 (omega arith)
not-empty (rule_item r) behind h solid = rw (read_back r.len solid.1, read_back r.width solid.2, solid.0)

all_whole : (xs : List Item) → length (all_bytes xs) < 65536 → Every Solid xs → WholeRecords (length xs) (all_bytes xs)
all_whole [] h none = refl
all_whole (x ∷ xs) h (solid also others) =
    let l = length-append (bytes_of x) (all_bytes xs) in
    let b = begins x (all_bytes xs) (omega arith) in
    (b.whole, not-empty x (all_bytes xs) (omega arith) solid, rw (rest_behind x (all_bytes xs) b.length-is) (all_whole xs (omega arith) others))

items_print : (xs : List Item) → length (all_bytes xs) < 65536 → Every Solid xs → Printable (all_bytes xs)
items_print xs h solid = record {
  count = length xs;
  records = all_whole xs h solid;
  met = ap length (are_places xs h) ∙ places_many 0 xs;
  end = ap (λ (t : List ℕ). get_or t (length xs) 0) (are_places xs h) ∙ places_end 0 xs ∙ (omega arith);
}

-- ---- what a job holds

area_low : (records : List ℕ) (slot used : ℕ) → length (take used (area_of records slot)) < 65536
area_low records slot used =
    let a = length-take used (area_of records slot) in
    let b = length-take (4096 * slot + 4096 - 4096 * slot) (drop (4096 * slot) records) in
    omega arith

-- all that the rules give for some parts can be drawn
parts-shown : (widths : List ℕ) (d : Descriptor) (s : State) (ps : List (List ℕ)) → Gives (Shown widths d) (λ _ _. Unit) (parts_from widths d s ps)
unfolding parts_from
parts-shown widths d s [] = value none
parts-shown widths d s (p ∷ ps) =
    gives_then (elements_by (place widths d) s (cut s.chain p)) _ (elements-on widths d s (cut s.chain p)) λ f one.
    gives_then (parts_from widths d f.state ps) _ (parts-shown widths d f.state ps) λ g others.
    value (every_join one others)

solid : (widths : List ℕ) (d : Descriptor) → hold (descriptor_fields d) ≡ true → (x : Item) → Drawable widths d x → Solid x
solid widths d ranges (text_item t) x = x.filled
solid widths d ranges (rule_item r) x = let low = rule_low widths d r ranges x.on_sheet in let len = low.0 in let width = low.1 in (x.filled, omega arith, omega arith)

-- what holds of all holds of those behind some
behind : {P : Item → Type 0} (xs : List Item) {ys : List Item} → Every P (xs ++ ys) → Every P ys
behind [] every = every
behind (x ∷ xs) (_ also others) = behind xs others

-- some bytes as items that can be drawn under a descriptor in range
record Drawn (widths : List ℕ) (d : Descriptor) (bytes : List ℕ) : Type 0 where
  items : List Item
  its_bytes : bytes ≡ all_bytes items
  drawable : Every (Drawable widths d) items
  ranges : hold (descriptor_fields d) ≡ true

-- those of a slot that has had a job, under its descriptor
module _ (widths : List ℕ) (h : Hub) (f : Fresh h) (rs : List Request) (slot : ℕ) where
  abbrev now : Hub
  now = steps widths h rs

  abbrev Slot : Type 0
  Slot = Drawn widths (entry_of now slot).descriptor (printed now slot)

  kept-items : (j : Job) (mark : ℕ) → hold (descriptor_fields j.descriptor) ≡ true → ReadInAll widths j (printed now slot) → Kept widths j mark (entry_of now slot) (area_of now.records slot) → Slot
  kept-items j mark ranges x k =
      let shown = value_of (parts_from widths j.descriptor (first_state j.descriptor) (map (λ p. p.part) j.parts)) (parts-shown widths j.descriptor _ _) x.by_rules in
      let same = ap (λ (e : Entry). e.descriptor) k.its_entry in
      rw same (record { items = x.unread; its_bytes = x.its_found; drawable = behind x.read (rw (← x.in_all) at shown); ranges = ranges })

  its_items : 0 < (entry_of now slot).key → Slot
  its_items had = let s = sound widths h f rs slot in go (account widths slot h unused rs) s.described s.reads s.agrees
    where
      go : (a : Account) → Described a → ReadOf widths a (printed now slot) → Agrees widths a (entry_of now slot) (area_of now.records slot) → Slot
      go unused ranges x k = let keyless = k.1 in absurd (omega arith)
      go (running j) ranges x k = kept-items j 1 ranges x k
      go (ended j) ranges x k = kept-items j 0 ranges x k

pub on_the_sheet : OnTheSheet
on_the_sheet widths h f rs slot had =
    let x = its_items widths h f rs slot had in
    record { items = x.items; its_bytes = x.its_bytes; on_sheet = all-on widths _ x.drawable }

pub prints : Prints
prints widths h f rs slot had =
    let x = its_items widths h f rs slot had in
    let its = x.its_bytes in
    let low = area_low (steps widths h rs).records slot (entry_of (steps widths h rs) slot).state.used in
    rw its (items_print x.items (rw its at low) (every_so (solid widths _ x.ranges) x.drawable))
