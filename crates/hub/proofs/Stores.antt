-- Bytes moved down in an area by stores, some after the others: those that are still to be read were not stored over.
-- Assumes nothing.
use Prim.Native.Nat.{ℕ, suc, ◌+◌, ◌≤◌}
use mathlib.Core.Path.{◌≡◌, refl, sym, ◌∙◌, ap}
use mathlib.Core.List.{List, [], ◌∷◌}
use native.Mathlib.Omega.{arith}
use lib.ListN.{length, take, drop, set, length-drop, length-take}
use lib.Seq.{sets, drop-set-lt, drop-drop}
use Rattle.part.proofs.Stores.{some_more}

-- what lies behind some stores
behind : (l xs : List ℕ) (i n : ℕ) → i + length xs ≤ n → drop n (sets l i xs) ≡ drop n l
behind l [] i n h = refl
behind l (x ∷ xs) i n h = behind (set l i x) xs (suc i) n (omega arith) ∙ drop-set-lt n l i x (omega arith)

module _ (area : List ℕ) (onto first : ℕ) (down : onto ≤ first) where
  abbrev unread : List ℕ
  unread = drop first area

  -- the first k of them
  abbrev moved : ℕ → List ℕ
  moved k = sets area onto (take k unread)

  -- the others are there
  others : (k : ℕ) → drop (first + k) (moved k) ≡ drop k unread
  others k =
      let a = length-take k unread in
      behind area (take k unread) onto (first + k) (omega arith) ∙ sym (drop-drop k first area)

  -- some more
  pub move_some : (k n : ℕ) (was now : List ℕ) → first + k ≤ length area → was ≡ moved k → now ≡ sets was (onto + k) (take n (drop (first + k) was)) → now ≡ moved (k + n)
  move_some k n was now h before is =
      let long = length-drop first area in
      some_more area onto unread k n was now (omega arith) before
      (is ∙ ap (λ (t : List ℕ). sets was (onto + k) (take n (drop (first + k) t))) before ∙ ap (λ (t : List ℕ). sets was (onto + k) (take n t)) (others k))
