-- Bytes spliced into some others, byte by byte: outside of them all are as they were. So it is for a record put into a slot's area, and for bytes moved down in it.
-- Assumes nothing.
use Prim.Native.Nat.{ℕ, ◌+◌, ◌-◌, ◌*◌, ◌≤◌, ◌<◌}
use mathlib.Core.Path.{◌≡◌, refl, sym, ◌∙◌, ap}
use mathlib.Core.Bool.{Bool, true, false}
use mathlib.Core.Logic.{◌⊎◌, inl, inr}
use mathlib.Core.List.{List, ◌++◌, append_assoc}
use native.Mathlib.Omega.{arith}
use lib.ListN.{length, get_or, take, drop, length-append, length-take, length-drop, get_or-append}
use lib.Seq.{length-take-le, take_at, get_or-append-add, get_or-take, get_or-drop}
use lib.Dec.{ltb}
use borrow.Author.Tests.{ltb-true, ltb-false}
use Rattle.part.specs.Reading.{between}
use Rattle.part.specs.Records.{spliced}
use Rattle.part.proofs.Areas.{spliced-length}
use Rattle.hub.specs.Requests.{moved_down, area_of, with_area}
use Rattle.hub.proofs.Slots.{own_length}

-- below a number, or from it on: so many past it
reach : (i n : ℕ) → (i < n) ⊎ ((j : ℕ) × (i ≡ n + j))
reach i n = go (ltb i n) refl
  where
    go : (t : Bool) → ltb i n ≡ t → (i < n) ⊎ ((j : ℕ) × (i ≡ n + j))
    go true e = inl (ltb-true i n e)
    go false e = inr (i - n, omega (arith, ltb-false i n e))

module _ (l : List ℕ) (at : ℕ) (x : List ℕ) (fits : at + length x ≤ length l) where
  abbrev Was : ℕ → Type 0
  Was i = get_or (spliced l at x) i 0 ≡ get_or l i 0

  before : (i : ℕ) → i < at → Was i
  before i h =
      let n = length-take-le at l (omega arith) in
      ap (λ (t : List ℕ). get_or t i 0) (append_assoc (take at l) x (drop (at + length x) l))
      ∙ get_or-append (take at l) (x ++ drop (at + length x) l) 0 i (omega arith)
      ∙ get_or-take at l i 0 h

  within : (j : ℕ) → j < length x → get_or (spliced l at x) (at + j) 0 ≡ get_or x j 0
  within j h =
      let n = length-take-le at l (omega arith) in
      ap (λ (t : List ℕ). get_or t (at + j) 0) (append_assoc (take at l) x (drop (at + length x) l))
      ∙ ap (λ (k : ℕ). get_or (take at l ++ (x ++ drop (at + length x) l)) (k + j) 0) (sym n)
      ∙ get_or-append-add (take at l) (x ++ drop (at + length x) l) j 0
      ∙ get_or-append x (drop (at + length x) l) 0 j h

  past : (j : ℕ) → Was (at + length x + j)
  past j =
      let n = length-take-le at l (omega arith) in
      let m = length-append (take at l) x in
      ap (λ (k : ℕ). get_or (spliced l at x) (k + j) 0) (let z : at + length x ≡ length (take at l ++ x) = omega arith in z)
      ∙ get_or-append-add (take at l ++ x) (drop (at + length x) l) j 0
      ∙ get_or-drop (at + length x) l j 0

  pub outside : (i : ℕ) → (at ≤ i → i < at + length x → ⊥) → Was i
  outside i apart = go (reach i at) (reach i (at + length x))
    where
      go : (i < at) ⊎ ((j : ℕ) × (i ≡ at + j)) → (i < at + length x) ⊎ ((j : ℕ) × (i ≡ at + length x + j)) → Was i
      go (inl h) s = before i h
      go (inr (j, e)) (inl h) = absurd (apart (omega arith) h)
      go (inr k) (inr (j, e)) = rw e (past j)

  -- the bytes up to the end of what was put in
  pub up_to : take (at + length x) (spliced l at x) ≡ take at l ++ x
  up_to =
      let n = length-take-le at l (omega arith) in
      let m = length-append (take at l) x in
      take_at (take at l ++ x) (drop (at + length x) l) (at + length x) (omega arith)

-- ---- bytes moved down to the start

-- some of the bytes are no more than all
pub between-fits : (l : List ℕ) (first past : ℕ) → 0 + length (between l first past) ≤ length l
between-fits l first past = let a = length-take (past - first) (drop first l) in let b = length-drop first l in omega arith

pub moved_length : (l : List ℕ) (first past : ℕ) → length (moved_down l first past) ≡ length l
moved_length l first past = spliced-length l 0 (between l first past) (between-fits l first past)

-- where they stand, now at the start
pub moved_front : (l : List ℕ) (first past : ℕ) → first ≤ past → past ≤ length l → take (past - first) (moved_down l first past) ≡ between l first past
moved_front l first past h k =
    let a = length-take (past - first) (drop first l) in
    let b = length-drop first l in
    ap (λ (n : ℕ). take n (moved_down l first past)) (let z : past - first ≡ 0 + length (between l first past) = omega arith in z)
    ∙ up_to l 0 (between l first past) (between-fits l first past)

-- ---- some bytes put into a slot's area

module _ (l : List ℕ) (slot : ℕ) (whole : length l ≡ 65536) (low : slot < 16) (used : ℕ) (x : List ℕ) (fits : used + length x ≤ length (area_of l slot)) where
  pub area_outside : (i : ℕ) → (4096 * slot + used ≤ i → i < 4096 * slot + used + length x → ⊥) → get_or (with_area l slot (spliced (area_of l slot) used x)) i 0 ≡ get_or l i 0
  area_outside i apart = go (reach i (4096 * slot)) (reach i (4096 * slot + 4096))
    where
      own : length (area_of l slot) ≡ 4096
      own = own_length l slot whole low

      area : List ℕ
      area = spliced (area_of l slot) used x

      long : length area ≡ 4096
      long = spliced-length (area_of l slot) used x fits ∙ own

      go : (i < 4096 * slot) ⊎ ((j : ℕ) × (i ≡ 4096 * slot + j)) → (i < 4096 * slot + 4096) ⊎ ((j : ℕ) × (i ≡ 4096 * slot + 4096 + j)) → get_or (with_area l slot area) i 0 ≡ get_or l i 0
      go (inl h) s = outside l (4096 * slot) area (omega (arith, long)) i (λ a b. omega arith)
      go (inr k) (inr (j, e)) = outside l (4096 * slot) area (omega (arith, long)) i (λ a b. omega (arith, long))
      go (inr (j, e)) (inl h) =
          rw e (within l (4096 * slot) area (omega (arith, long)) j (omega (arith, long))
          ∙ outside (area_of l slot) used x fits j (λ a b. apart (omega arith) (omega arith))
          ∙ get_or-take (4096 * slot + 4096 - 4096 * slot) (drop (4096 * slot) l) j 0 (omega arith)
          ∙ get_or-drop (4096 * slot) l j 0)
