-- Bytes moved down to the start of an area, some after the others: those that are still to be read were not stored over.
-- Assumes nothing.
use Rattle.std.proofs.Common.{ℕ, ◌≡◌, ◌+◌, ◌-◌, ◌≤◌, List, ◌++◌, length, take, drop, sym, ap, ◌∙◌, arith, length-drop}
use Rattle.std.proofs.lemmas.Slice.{put_mid-paste}
use borrow.Rule.Slice.PartMut.{put_mid}
use lib.Seq.{paste, take-take, take-add, take_at, drop_at, drop-drop, length-take-le}
use native.Mathlib.Nat.{le_refl}
use Rattle.hub.specs.Requests.{moved_down}

-- some bytes read behind a place, and stored at another
pub stored : (area new : List ℕ) (to at n : ℕ) → at + n ≤ length area → new ≡ take (at + n - at) (drop at area) → put_mid to (to + n - to) area new ≡ paste area to (drop at area) n
stored area new to at n fits is =
    let read = drop at area in
    put_mid-paste to (to + n - to) area new (take n read) n (is ∙ ap (λ (m : ℕ). take m read) (let z : at + n - at ≡ n = omega arith in z)) (omega arith)
    (sym (length-take-le n read (omega (arith, length-drop at area))))
    ∙ ap (λ (t : List ℕ). take to area ++ t ++ drop (to + n) area) (take-take n n read (le_refl n))

module _ (area : List ℕ) (from : ℕ) where
  abbrev unread : List ℕ
  unread = drop from area

  -- the first k of them at the start
  abbrev moved : ℕ → List ℕ
  moved k = take k unread ++ drop k area

  all_moved : (k : ℕ) → from + k ≤ length area → moved_down area from (from + k) ≡ moved k
  all_moved k fits =
      let past = from + k - from in
      ap (λ (m : ℕ). take past unread ++ drop m area)
      (let z : 0 + length (take past unread) ≡ past = omega (arith, length-take-le past unread (omega (arith, length-drop from area))) in z)
      ∙ ap moved (let z : past ≡ k = omega arith in z)

  pub none_moved : from ≤ length area → moved_down area from (from + 0) ≡ area
  none_moved fits = all_moved 0 (omega arith)

  module _ (k n : ℕ) (fits : from + k + n ≤ length area) where
    long : length (take k unread) ≡ k
    long = length-take-le k unread (omega (arith, length-drop from area))

    -- what lies behind them is as it was
    behind : (i : ℕ) → drop (k + i) (moved k) ≡ drop (k + i) area
    behind i = sym (drop-drop i k (moved k)) ∙ ap (drop i) (drop_at (take k unread) (drop k area) k long) ∙ drop-drop i k area

    others : drop (from + k) (moved k) ≡ drop k unread
    others =
        ap (λ (j : ℕ). drop j (moved k)) (let z : from + k ≡ k + from = omega arith in z)
        ∙ behind from
        ∙ ap (λ (j : ℕ). drop j area) (let z : k + from ≡ from + k = omega arith in z)
        ∙ sym (drop-drop k from area)

    -- some more
    pub moved_more : (was : List ℕ) → was ≡ moved_down area from (from + k) → paste was k (drop (from + k) was) n ≡ moved_down area from (from + (k + n))
    moved_more was before =
        rw (before, all_moved k (omega arith), all_moved (k + n) (omega arith))
        (ap (λ (t : List ℕ). t ++ take n (drop (from + k) (moved k)) ++ drop (k + n) (moved k)) (take_at (take k unread) (drop k area) k long)
        ∙ ap (λ (t : List ℕ). take k unread ++ take n t ++ drop (k + n) (moved k)) others
        ∙ ap (λ (t : List ℕ). take k unread ++ take n (drop k unread) ++ t) (behind n)
        ∙ ap (λ (t : List ℕ). t ++ drop (k + n) area) (sym (take-add k n unread)))
