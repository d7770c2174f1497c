-- The slots' areas lie apart in the record buffer: bytes put into one are there, and are not seen in another. Putting bytes is a row of stores.
-- Assumes nothing.
use Prim.Native.Nat.{ℕ, zero, suc, ◌+◌, ◌-◌, ◌*◌, ◌≤◌, ◌<◌}
use mathlib.Core.Path.{◌≡◌, refl, sym, ◌∙◌, ap}
use mathlib.Core.Bool.{Bool, true, false}
use mathlib.Core.Logic.{◌⊎◌, inl, inr}
use mathlib.Core.List.{List, [], ◌∷◌, ◌++◌, append_assoc, append-nil}
use native.Mathlib.Omega.{arith}
use native.Mathlib.Nat.{add-zero}
use lib.ListN.{length, take, drop, set, length-take, length-drop, take-append-drop}
use lib.Seq.{sets, sets-eq, length-sets, set_comm, take-set-le, drop-set-lt, drop-drop, take_at, drop_at, length-take-le}
use lib.Dec.{ltb}
use borrow.Author.Tests.{ltb-true, ltb-false}
use borrow.Rule.Slice.PartMut.{put_mid, Post-is}
use Rattle.hub.specs.Requests.{area_of, with_area}

-- ---- stores to places that lie apart

-- one store, and some that begin after it or end before it
apart_set : (l vs : List ℕ) (i j b : ℕ) → (j < i) ⊎ (i + length vs ≤ j) → sets (set l j b) i vs ≡ set (sets l i vs) j b
apart_set l [] i j b h = refl
apart_set l (v ∷ vs) i j b (inl h) = rw (set_comm l j i b v (λ e. let z : j ≡ i = e in absurd (omega arith))) (apart_set (set l i v) vs (suc i) j b (inl (omega arith)))
apart_set l (v ∷ vs) i j b (inr h) = rw (set_comm l j i b v (λ e. let z : j ≡ i = e in absurd (omega arith))) (apart_set (set l i v) vs (suc i) j b (inr (omega arith)))

apart_sets : (l vs ws : List ℕ) (i j : ℕ) → (j + length ws ≤ i) ⊎ (i + length vs ≤ j) → sets (sets l i vs) j ws ≡ sets (sets l j ws) i vs
apart_sets l vs [] i j h = refl
apart_sets l vs (w ∷ ws) i j (inl h) = rw (sym (apart_set l vs i j w (inl (omega arith)))) (apart_sets (set l j w) vs ws i (suc j) (inl (omega arith)))
apart_sets l vs (w ∷ ws) i j (inr h) = rw (sym (apart_set l vs i j w (inr (omega arith)))) (apart_sets (set l j w) vs ws i (suc j) (inr (omega arith)))

-- what lies apart from a store is as it was
unseen_set : (n b : ℕ) (l : List ℕ) (i v : ℕ) → b + n ≤ i → take n (drop b (set l i v)) ≡ take n (drop b l)
unseen_set n zero l i v h = take-set-le n l i v (omega arith)
unseen_set n (suc b) [] i v h = refl
unseen_set n (suc b) (x ∷ xs) zero v h = absurd (omega arith)
unseen_set n (suc b) (x ∷ xs) (suc i) v h = unseen_set n b xs i v (omega arith)

unseen : (n b : ℕ) (l vs : List ℕ) (i : ℕ) → (b + n ≤ i) ⊎ (i + length vs ≤ b) → take n (drop b (sets l i vs)) ≡ take n (drop b l)
unseen n b l [] i h = refl
unseen n b l (v ∷ vs) i (inl h) = unseen n b (set l i v) vs (suc i) (inl (omega arith)) ∙ unseen_set n b l i v h
unseen n b l (v ∷ vs) i (inr h) = unseen n b (set l i v) vs (suc i) (inr (omega arith)) ∙ ap (take n) (drop-set-lt b l i v (omega arith))

-- ---- areas

-- as many bytes as the slot has: 4,096, or fewer at the end of a short buffer
abbrev pub Fits : List ℕ → ℕ → List ℕ → Type 0
Fits l slot area = length area ≡ length (area_of l slot)

area-size : (l : List ℕ) (slot : ℕ) → (length (area_of l slot) ≤ 4096) × (0 < length (area_of l slot) → 4096 * slot + length (area_of l slot) ≤ length l)
area-size l slot =
    let n = 4096 * slot + 4096 - 4096 * slot in
    let t = length-take n (drop (4096 * slot) l) in
    let d = length-drop (4096 * slot) l in
    (omega arith, omega arith)

apart : (a b : ℕ) → (a ≡ b → ⊥) → (a < b) ⊎ (b < a)
apart a b h = go (ltb a b) refl (ltb b a) refl
  where
    go : (t : Bool) → ltb a b ≡ t → (u : Bool) → ltb b a ≡ u → (a < b) ⊎ (b < a)
    go true e u f = inl (ltb-true a b e)
    go false e true f = inr (ltb-true b a f)
    go false e false f = absurd (h (let x = ltb-false a b e in let y = ltb-false b a f in omega arith))

as_sets : (l : List ℕ) (slot : ℕ) (area : List ℕ) → Fits l slot area → with_area l slot area ≡ sets l (4096 * slot) area
as_sets l slot [] f = rw (add-zero, append-nil) (take-append-drop (4096 * slot) l)
as_sets l slot (x ∷ xs) f = let s = area-size l slot in let within = s.1 (omega arith) in sym (sets-eq (x ∷ xs) l (4096 * slot) (omega arith))

pub with_length : (l : List ℕ) (slot : ℕ) (area : List ℕ) → Fits l slot area → length (with_area l slot area) ≡ length l
with_length l slot area f = rw (as_sets l slot area f) (length-sets l (4096 * slot) area)

-- an area put back
pub with_same : (l : List ℕ) (slot : ℕ) → with_area l slot (area_of l slot) ≡ l
with_same l slot =
    let n = 4096 * slot + 4096 - 4096 * slot in
    let rest = drop (4096 * slot) l in
    append_assoc (take (4096 * slot) l) (take n rest) (drop (4096 * slot + length (take n rest)) l)
    ∙ ap (λ (t : List ℕ). take (4096 * slot) l ++ (take n rest ++ t)) (sym (drop-drop (length (take n rest)) (4096 * slot) l))
    ∙ ap (λ (t : List ℕ). take (4096 * slot) l ++ t) (whole n rest)
    ∙ take-append-drop (4096 * slot) l
  where
    whole : (n : ℕ) (l : List ℕ) → take n l ++ drop (length (take n l)) l ≡ l
    whole zero l = refl
    whole (suc n) [] = refl
    whole (suc n) (x ∷ xs) = ap (λ (t : List ℕ). x ∷ t) (whole n xs)

-- what is put into one slot's area is not seen in another's
pub with_unseen : (l : List ℕ) (a b : ℕ) (area : List ℕ) → (a ≡ b → ⊥) → Fits l a area → area_of (with_area l a area) b ≡ area_of l b
with_unseen l a b area n f = rw (as_sets l a area f) (unseen (4096 * b + 4096 - 4096 * b) (4096 * b) l area (4096 * a) (side (apart a b n)))
  where
    side : (a < b) ⊎ (b < a) → (4096 * b + (4096 * b + 4096 - 4096 * b) ≤ 4096 * a) ⊎ (4096 * a + length area ≤ 4096 * b)
    side (inl h) = inr (let s = area-size l a in omega arith)
    side (inr h) = inl (omega arith)

pub with_swap : (l : List ℕ) (a b : ℕ) (v w : List ℕ) → (a ≡ b → ⊥) → Fits l a v → Fits l b w → with_area (with_area l a v) b w ≡ with_area (with_area l b w) a v
with_swap l a b v w n f g =
    as_sets (with_area l a v) b w (g ∙ ap length (sym (with_unseen l a b v n f)))
    ∙ ap (λ (t : List ℕ). sets t (4096 * b) w) (as_sets l a v f)
    ∙ apart_sets l v w (4096 * a) (4096 * b) (side (apart a b n))
    ∙ ap (λ (t : List ℕ). sets t (4096 * a) v) (sym (as_sets l b w g))
    ∙ sym (as_sets (with_area l b w) a v (f ∙ ap length (sym (with_unseen l b a w (λ e. n (sym e)) g))))
  where
    side : (a < b) ⊎ (b < a) → (4096 * b + length w ≤ 4096 * a) ⊎ (4096 * a + length v ≤ 4096 * b)
    side (inl h) = inr (let s = area-size l a in omega arith)
    side (inr h) = inl (let s = area-size l b in omega arith)

-- ---- one of the sixteen areas of a whole buffer

module _ (l : List ℕ) (slot : ℕ) (whole : length l ≡ 65536) (low : slot < 16) where
  pub own_length : length (area_of l slot) ≡ 4096
  own_length =
      let n = 4096 * slot + 4096 - 4096 * slot in
      let t = length-take n (drop (4096 * slot) l) in
      let d = length-drop (4096 * slot) l in
      omega arith

  pub with_own : (area : List ℕ) → length area ≡ 4096 → area_of (with_area l slot area) slot ≡ area
  with_own area f =
      let n = 4096 * slot + 4096 - 4096 * slot in
      ap (λ (t : List ℕ). take n (drop (4096 * slot) t)) (append_assoc (take (4096 * slot) l) area (drop (4096 * slot + length area) l))
      ∙ ap (take n) (drop_at (take (4096 * slot) l) (area ++ drop (4096 * slot + length area) l) (4096 * slot) (length-take-le (4096 * slot) l (omega arith)))
      ∙ take_at area (drop (4096 * slot + length area) l) (4096 * slot + 4096 - 4096 * slot) (omega arith)

  -- an area that was lent, and came back as some other bytes
  pub put_back : (area : List ℕ) → length area ≡ length (area_of l slot) → put_mid (4096 * slot) (4096 * slot + 4096 - 4096 * slot) l area ≡ with_area l slot area
  put_back area f =
      ap (λ (t : List ℕ). take (4096 * slot) l ++ (area ++ t)) (Post-is (4096 * slot) (4096 * slot + 4096) l (omega arith))
      ∙ sym (append_assoc (take (4096 * slot) l) area (drop (4096 * slot + 4096) l))
      ∙ ap (λ (n : ℕ). take (4096 * slot) l ++ area ++ drop (4096 * slot + n) l) (sym (f ∙ own_length))
