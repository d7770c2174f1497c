-- A run of stores: two runs one after the other are one, and one store more. Bytes stored at their place are spliced in.
-- Assumes nothing.
use Prim.Native.Nat.{ℕ, suc, ◌+◌, ◌-◌, ◌%◌, ◌<◌, ◌≤◌}
use mathlib.Core.Path.{◌≡◌, refl, ◌∙◌, ap, sym}
use mathlib.Core.List.{List, [], ◌∷◌, ◌++◌, append_assoc}
use native.Mathlib.Omega.{arith}
use native.Mathlib.Numerals.{add-one}
use native.Mathlib.Nat.{add-zero, add-suc, suc-add, le_of_lt, zero-add, zero-mod, mod-add-mod}
use lib.ListN.{length, get_or, take, drop, set, length-drop}
use lib.Seq.{set-set, set_comm, sets, length-sets, sets-eq, paste, take-suc, take_all, take-add, take_at, drop_at, take-append-le, length-take-le}
use Rattle.std.specs.List.{copy_within}
use Rattle.std.proofs.lemmas.Slice.{put_mid-paste}
use borrow.Rule.Slice.PartMut.{put_mid}
use Rattle.part.specs.Text.{cycle}
use Rattle.part.proofs.Cycles.{length-cycle, cycle_then, cycle-from}

pub joined : (a : List ℕ) (i : ℕ) (xs ys : List ℕ) → sets (sets a i xs) (i + length xs) ys ≡ sets a i (xs ++ ys)
joined a i [] ys = rw add-zero
joined a i (x ∷ xs) ys = rw (add-suc, ← suc-add i (length xs)) (joined (set a i x) (suc i) xs ys)

module _ (a : List ℕ) (at : ℕ) (bytes : List ℕ) (k : ℕ) where
  pub one_more : k < length bytes → set (sets a at (take k bytes)) (at + k) (get_or bytes k 0) ≡ sets a at (take (k + 1) bytes)
  one_more h =
      ap (λ (n : ℕ). set (sets a at (take k bytes)) (at + n) (get_or bytes k 0)) (sym (length-take-le k bytes (le_of_lt h)))
      ∙ joined a at (take k bytes) (get_or bytes k 0 ∷ [])
      ∙ ap (sets a at) (sym (take-suc bytes k 0 h) ∙ ap (λ (n : ℕ). take n bytes) (sym (add-one k)))

-- one run more, behind those before it
pub more : (a b c : List ℕ) (i : ℕ) (xs ys : List ℕ) → b ≡ sets a i xs → c ≡ sets b (i + length xs) ys → c ≡ sets a i (xs ++ ys)
more a b c i xs ys e f = rw (f, e) (joined a i xs ys)

-- ---- as the library says it

-- a copy
pub pasted : (area : List ℕ) (at : ℕ) (bytes : List ℕ) (n : ℕ) → n ≤ length bytes → at + n ≤ length area → paste area at bytes n ≡ sets area at (take n bytes)
pasted area at bytes n h k =
    let long : length (take n bytes) ≡ n = length-take-le n bytes h in
    sym (sets-eq (take n bytes) area at (omega arith) ∙ ap (λ (m : ℕ). take at area ++ take n bytes ++ drop (at + m) area) long)

-- bytes put in the place of as many
pub put : (area : List ℕ) (at k : ℕ) (ys bytes : List ℕ) → ys ≡ bytes → k ≡ length bytes → at + length bytes ≤ length area → put_mid at k area ys ≡ sets area at bytes
put area at k ys bytes e n h = put_mid-paste at k area ys bytes (length bytes) e (sym n) refl ∙ pasted area at bytes (length bytes) (omega arith) h ∙ ap (sets area at) (take_all (length bytes) bytes (omega arith))

-- ---- stores over earlier ones

early : (a : List ℕ) (i j y : ℕ) (xs : List ℕ) → i < j → set (sets a j xs) i y ≡ sets (set a i y) j xs
early a i j y [] h = refl
early a i j y (x ∷ xs) h = early (set a j x) i (suc j) y xs (omega arith) ∙ ap (λ l. sets l (suc j) xs) (set_comm a j i x y (λ e. omega arith))

overwritten : (a : List ℕ) (i : ℕ) (xs ys : List ℕ) → length xs ≤ length ys → sets (sets a i xs) i ys ≡ sets a i ys
overwritten a i [] ys h = refl
overwritten a i (x ∷ xs) [] h = absurd (omega arith)
overwritten a i (x ∷ xs) (y ∷ ys) h =
    ap (λ l. sets l (suc i) ys) (early (set a i x) i (suc i) y xs (omega arith) ∙ ap (λ l. sets l (suc i) xs) (set-set a i x y)) ∙ overwritten (set a i y) (suc i) xs ys (omega arith)

-- ---- bytes of a list stored where they belong: behind those before them, or over some of these
module _ (a : List ℕ) (at : ℕ) (bytes : List ℕ) where
  behind : (k n : ℕ) → k ≤ length bytes → sets (sets a at (take k bytes)) (at + k) (take n (drop k bytes)) ≡ sets a at (take (k + n) bytes)
  behind k n h =
      ap (λ (m : ℕ). sets (sets a at (take k bytes)) (at + m) (take n (drop k bytes))) (sym (length-take-le k bytes h))
      ∙ joined a at (take k bytes) (take n (drop k bytes))
      ∙ ap (sets a at) (sym (take-add k n bytes))

  -- some more
  pub some_more : (k n : ℕ) (b c : List ℕ) → k ≤ length bytes → b ≡ sets a at (take k bytes) → c ≡ sets b (at + k) (take n (drop k bytes)) → c ≡ sets a at (take (k + n) bytes)
  some_more k n b c h e f = f ∙ ap (λ l. sets l (at + k) (take n (drop k bytes))) e ∙ behind k n h

  -- the last ones, some of them for the second time
  pub all_more : (k n : ℕ) (b c : List ℕ) → n ≤ length bytes → k ≤ length bytes → length bytes ≤ k + n → b ≡ sets a at (take k bytes) → c ≡ sets b (at + (length bytes - n)) (take n (drop (length bytes - n) bytes)) → c ≡ sets a at bytes
  all_more k n b c h g f e d =
      let j = length bytes - n in
      let last = drop j bytes in
      let long = length-drop j bytes in
      let less : length (take (k - j) last) ≡ k - j = length-take-le (k - j) last (omega arith) in
      let most : length (take n last) ≡ n = length-take-le n last (omega arith) in
      let split : j + (k - j) ≡ k = omega arith in
      let whole : j + n ≡ length bytes = omega arith in
      let before : b ≡ sets (sets a at (take j bytes)) (at + j) (take (k - j) last) =
      e ∙ ap (λ (m : ℕ). sets a at (take m bytes)) (sym split) ∙ sym (behind j (k - j) (omega arith)) in
      d
      ∙ ap (λ l. sets l (at + j) (take n last)) before
      ∙ overwritten (sets a at (take j bytes)) (at + j) (take (k - j) last) (take n last) (omega arith)
      ∙ behind j n (omega arith)
      ∙ ap (λ (m : ℕ). sets a at (take m bytes)) whole
      ∙ ap (sets a at) (take_all (length bytes) bytes (omega arith))

-- ---- what stands in an area, once more behind it

-- bytes that were stored are there
pub there : (area : List ℕ) (at : ℕ) (bytes : List ℕ) (n : ℕ) → at + length bytes ≤ length area → n ≤ length bytes → take n (drop at (sets area at bytes)) ≡ take n bytes
there area at bytes n h k =
    let front : length (take at area) ≡ at = length-take-le at area (omega arith) in
    rw (sets-eq bytes area at h, append_assoc (take at area) bytes (drop (at + length bytes) area), drop_at (take at area) (bytes ++ drop (at + length bytes) area) at front) (take-append-le n bytes (drop (at + length bytes) area) k)

-- ---- the characters of a text that begins again: what is there goes on with itself from a whole number of rounds
pub cycle_more : (t : List ℕ) (done more : ℕ) → done % length t ≡ 0 → more ≤ done → cycle t 0 done ++ take more (cycle t 0 done) ≡ cycle t 0 (done + more)
cycle_more t done more e h =
    let split : more + (done - more) ≡ done = omega arith in
    let front : take more (cycle t 0 done) ≡ cycle t 0 more = ap (λ n. take more (cycle t 0 n)) (sym split) ∙ rw (cycle_then t 0 more (done - more)) (take_at (cycle t 0 more) (cycle t (0 + more) (done - more)) more (length-cycle t 0 more)) in
    let from : cycle t (0 + done) more ≡ cycle t 0 more = rw zero-add (cycle-from t done 0 more (e ∙ sym (zero-mod (length t)))) in
    rw (front, cycle_then t 0 done more, from)

pub doubled : (n m : ℕ) → n % m ≡ 0 → (n + n) % m ≡ 0
doubled n m e = sym (mod-add-mod n m n) ∙ rw e (rw zero-add e)

pub rounds_step : (area : List ℕ) (at : ℕ) (t : List ℕ) (done more : ℕ) → at + done + more ≤ length area → done % length t ≡ 0 → more ≤ done
    → copy_within (sets area at (cycle t 0 done)) at (at + more) (at + done) ≡ sets area at (cycle t 0 (done + more))
rounds_step area at t done more h e k =
    let cs = cycle t 0 done in
    let before = sets area at cs in
    let long : length cs ≡ done = length-cycle t 0 done in
    let kept : length before ≡ length area = length-sets area at cs in
    let many : at + more - at ≡ more = omega arith in
    ap (paste before (at + done) (drop at before)) many
    ∙ pasted before (at + done) (drop at before) more (omega (arith, length-drop at before)) (omega arith)
    ∙ ap (sets before (at + done)) (there area at cs more (omega arith) (omega arith))
    ∙ ap (λ n. sets before (at + n) (take more cs)) (sym long)
    ∙ joined area at cs (take more cs)
    ∙ ap (sets area at) (cycle_more t done more e k)
