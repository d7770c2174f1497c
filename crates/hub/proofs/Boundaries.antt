-- The boundaries of records that stand one behind the other are the places between them, since each begins with its own length. A place between them parts them.
-- Assumes nothing.
use Prim.Native.Nat.{ℕ, zero, suc, ◌+◌, ◌-◌, ◌*◌, ◌/◌, ◌%◌, ◌≤◌, ◌<◌}
use mathlib.Core.Path.{◌≡◌, refl, sym, ◌∙◌, ap}
use mathlib.Core.Bool.{Bool, true, false, true≢false, ◌&&◌, ◌||◌}
use mathlib.Core.List.{List, [], ◌∷◌, ◌++◌}
use native.Mathlib.Omega.{arith}
use borrow.Author.Tests.{ltb-true, ltb-false, leb-true, le-leb, lt-leb, ne_eqb, eqb-true, eqb-false, eq-eqb}
use lib.ListN.{length, drop, get_or, length-append, length-drop}
use lib.Dec.{ltb, leb, eqb}
use lib.Seq.{drop-append_seam, drop-drop, get_or-drop}
use Rattle.part.specs.Records.{Item, text_item, rule_item, bytes_of, all_bytes, little_at, is_whole, boundaries_from, boundaries}
use Rattle.part.proofs.Checks.{first_of, second_of}
use Rattle.hub.specs.Requests.{is_one_of}
use Rattle.hub.specs.Accounts.{places_from}

-- a number below 65,536 is read back from its two bytes
pub read_back : (n : ℕ) → n < 65536 → n % 256 + 256 * (n / 256 % 256) ≡ n
read_back n h = omega arith

pub record Begins (x : Item) (behind : List ℕ) : Type 0 where
  pub length-is : little_at (bytes_of x ++ behind) 0 ≡ length (bytes_of x)
  pub whole : is_whole (bytes_of x ++ behind) ≡ true

-- every record has 16 bytes or more
at_least : (x : Item) → 16 ≤ length (bytes_of x)
unfolding bytes_of
at_least (text_item t) = omega arith
at_least (rule_item r) = omega arith

pub begins : (x : Item) (behind : List ℕ) → length (bytes_of x) < 65536 → Begins x behind
unfolding bytes_of
begins (text_item t) behind h =
    let l = length-append (bytes_of (text_item t)) behind in
    let n = little_at (bytes_of (text_item t) ++ behind) 0 in
    let is : n ≡ length (bytes_of (text_item t)) = read_back (16 + length t.characters) (omega arith) ∙ (omega arith) in
    let a : leb 16 n ≡ true = le-leb 16 n (omega arith) in
    let b : leb n (length (bytes_of (text_item t) ++ behind)) ≡ true = le-leb n (length (bytes_of (text_item t) ++ behind)) (omega arith) in
    record { length-is = is; whole = rw (a, b) }
begins (rule_item r) behind h =
    let l = length-append (bytes_of (rule_item r)) behind in
    let b : leb 16 (length (bytes_of (rule_item r) ++ behind)) ≡ true = le-leb 16 (length (bytes_of (rule_item r) ++ behind)) (omega arith) in
    record { length-is = refl; whole = rw b }

-- the rest of them behind the first
pub rest_behind : (x : Item) (behind : List ℕ) → little_at (bytes_of x ++ behind) 0 ≡ length (bytes_of x) → drop (little_at (bytes_of x ++ behind) 0) (bytes_of x ++ behind) ≡ behind
rest_behind x behind is = rw is (drop-append_seam (bytes_of x) behind)

-- ---- stepping over them meets the places between them, and no other

-- a step over the first of them: it ends within the bytes, at the second
record StepsOn (x : Item) (xs : List Item) : Type 0 where
  is : little_at (all_bytes (x ∷ xs)) 0 ≡ length (bytes_of x)
  goes : (leb 16 (little_at (all_bytes (x ∷ xs)) 0) && leb (little_at (all_bytes (x ∷ xs)) 0) (length (all_bytes (x ∷ xs)))) ≡ true
  rest : drop (little_at (all_bytes (x ∷ xs)) 0) (all_bytes (x ∷ xs)) ≡ all_bytes xs

step-on : (x : Item) (xs : List Item) → length (all_bytes (x ∷ xs)) < 65536 → StepsOn x xs
step-on x xs h =
    let l = length-append (bytes_of x) (all_bytes xs) in
    let n = little_at (all_bytes (x ∷ xs)) 0 in
    let is = (begins x (all_bytes xs) (omega arith)).length-is in
    let long = at_least x in
    let p : leb 16 n ≡ true = le-leb 16 n (omega arith) in
    let q : leb n (length (all_bytes (x ∷ xs))) ≡ true = le-leb n (length (all_bytes (x ∷ xs))) (omega arith) in
    record { is = is; goes = rw (p, q); rest = rest_behind x (all_bytes xs) is }

from_places : (most at : ℕ) (xs : List Item) → length (all_bytes xs) < 65536 → length xs ≤ most → boundaries_from most at (all_bytes xs) ≡ places_from at xs
from_places zero at [] h k = refl
from_places zero at (x ∷ xs) h k = absurd (omega arith)
from_places (suc most) at [] h k = refl
from_places (suc most) at (x ∷ xs) h k =
    let l = length-append (bytes_of x) (all_bytes xs) in
    let s = step-on x xs h in
    rw (s.goes, s.rest) (ap (λ (t : List ℕ). at ∷ t) (from_places most (at + little_at (all_bytes (x ∷ xs)) 0) xs (omega arith) (omega arith) ∙ ap (λ (n : ℕ). places_from (at + n) xs) s.is))

as_many : (xs : List Item) → length xs ≤ length (all_bytes xs)
as_many [] = omega arith
as_many (x ∷ xs) =
    let l = length-append (bytes_of x) (all_bytes xs) in
    let b = at_least x in
    let m = as_many xs in
    omega arith

pub are_places : (xs : List Item) → length (all_bytes xs) < 65536 → boundaries (all_bytes xs) ≡ places_from 0 xs
unfolding boundaries
are_places xs h = from_places (length (all_bytes xs)) 0 xs h (as_many xs)

-- ---- any bytes, step by step, towards a place further on

module _ (bytes : List ℕ) (place at : ℕ) (inside : at ≤ length bytes) (far : at < place) where
  -- the length that a record here would have
  abbrev its : ℕ
  its = get_or bytes at 0 + 256 * get_or bytes (at + 1) 0

  its_length : its ≡ little_at (drop at bytes) 0
  its_length =
      ap (λ (k : ℕ). get_or bytes k 0 + 256 * get_or bytes (at + 1) 0) (let z : at ≡ at + 0 = omega arith in z)
      ∙ ap (λ (k : ℕ). k + 256 * get_or bytes (at + 1) 0) (sym (get_or-drop at bytes 0 0))
      ∙ ap (λ (k : ℕ). get_or (drop at bytes) 0 0 + 256 * k) (sym (get_or-drop at bytes 1 0))

  -- whether it is one
  abbrev is_step : ℕ → Bool
  is_step n = leb 16 n && leb n (length bytes - at)

  goes : (t : Bool) → is_step its ≡ t → (leb 16 (little_at (drop at bytes) 0) && leb (little_at (drop at bytes) 0) (length (drop at bytes))) ≡ t
  goes t said = ap (λ (m : ℕ). leb 16 m && leb m (length (drop at bytes))) (sym its_length) ∙ ap (λ (m : ℕ). leb 16 its && leb its m) (length-drop at bytes) ∙ said

  -- where no step is left, the place is not met
  pub no_step : (most : ℕ) → is_step its ≡ false → is_one_of place (boundaries_from most at (drop at bytes)) ≡ false
  no_step zero said = rw (ne_eqb place at (λ e. omega arith))
  no_step (suc most) said = rw (goes false said, ne_eqb place at (λ e. omega arith))

  -- so it is near the end
  pub near_end : (most : ℕ) → length bytes - at < 16 → is_one_of place (boundaries_from most at (drop at bytes)) ≡ false
  near_end most near = no_step most (go (leb 16 its) refl)
    where
      go : (t : Bool) → leb 16 its ≡ t → (t && leb its (length bytes - at)) ≡ false
      go true k = let long = leb-true 16 its k in lt-leb its (length bytes - at) (omega arith)
      go false k = refl

  -- else the step is within the bytes, and the place is met where it is from there on
  pub a_step : is_step its ≡ true → (16 ≤ its) × (at + its ≤ length bytes)
  a_step said =
      let least = leb-true 16 its (first_of (leb 16 its) (leb its (length bytes - at)) said) in
      let most = leb-true its (length bytes - at) (second_of (leb 16 its) (leb its (length bytes - at)) said) in
      (least, omega arith)

  pub one_step : (most : ℕ) → length bytes - at ≤ most → is_step its ≡ true
      → (later : ℕ) × (length bytes - (at + its) ≤ later) × (is_one_of place (boundaries_from most at (drop at bytes)) ≡ is_one_of place (boundaries_from later (at + its) (drop (at + its) bytes)))
  one_step zero k said = let s = a_step said in absurd (omega (arith, s.0, s.1))
  one_step (suc most) k said =
      let s = a_step said in
      (most, omega (arith, s.0, s.1), rw (goes true said, ne_eqb place at (λ e. omega arith), ← its_length) (ap (λ (t : List ℕ). is_one_of place (boundaries_from most (at + its) t)) (drop-drop its at bytes)))

-- a place in front of them is not met
before : (most place at : ℕ) (rest : List ℕ) → place < at → is_one_of place (boundaries_from most at rest) ≡ false
before zero place at rest h = rw (ne_eqb place at (λ e. omega arith))
before (suc most) place at rest h = rw (ne_eqb place at (λ e. omega arith)) (go (leb 16 (little_at rest 0) && leb (little_at rest 0) (length rest)) (before most place (at + little_at rest 0) (drop (little_at rest 0) rest) (omega arith)))
  where
    go : (t : Bool) → is_one_of place (boundaries_from most (at + little_at rest 0) (drop (little_at rest 0) rest)) ≡ false
        → is_one_of place (elim t [ true ↦ boundaries_from most (at + little_at rest 0) (drop (little_at rest 0) rest) | false ↦ [] ]) ≡ false
    go true k = k
    go false k = refl

-- and here is one
pub at_place : (most place at : ℕ) (rest : List ℕ) → place ≤ at → is_one_of place (boundaries_from most at rest) ≡ eqb at place
at_place most place at rest h = go (eqb at place) refl
  where
    first : (most : ℕ) → at ≡ place → is_one_of place (boundaries_from most at rest) ≡ true
    first zero e = rw (eq-eqb place at (sym e))
    first (suc most) e = rw (eq-eqb place at (sym e))

    go : (t : Bool) → eqb at place ≡ t → is_one_of place (boundaries_from most at rest) ≡ t
    go true e = first most (eqb-true at place e)
    go false e = before most place at rest (let n = eqb-false at place e in below (ltb place at) refl n)
      where
        below : (t : Bool) → ltb place at ≡ t → (at ≡ place → ⊥) → place < at
        below true k n = ltb-true place at k
        below false k n = let l = ltb-false place at k in absurd (n (omega arith))

-- ---- the places

-- one more than there are records, and the last of them is the end
pub places_many : (at : ℕ) (xs : List Item) → length (places_from at xs) ≡ length xs + 1
places_many at [] = refl
places_many at (x ∷ xs) = let m = places_many (at + length (bytes_of x)) xs in omega arith

pub places_end : (at : ℕ) (xs : List Item) → get_or (places_from at xs) (length xs) 0 ≡ at + length (all_bytes xs)
places_end at [] = omega arith
places_end at (x ∷ xs) =
    let l = length-append (bytes_of x) (all_bytes xs) in
    let m = places_end (at + length (bytes_of x)) xs in
    omega arith

-- beyond the end there is none
pub places_past : (at n : ℕ) (xs : List Item) → at + length (all_bytes xs) < n → is_one_of n (places_from at xs) ≡ false
places_past at n [] h = rw (ne_eqb n at (λ e. omega arith))
places_past at n (x ∷ xs) h =
    let l = length-append (bytes_of x) (all_bytes xs) in
    rw (ne_eqb n at (λ e. omega arith)) (places_past (at + length (bytes_of x)) n xs (omega arith))

-- behind the first ones they are those of the others
pub places_behind : (at n : ℕ) (xs ys : List Item) → at + length (all_bytes xs) ≤ n → is_one_of n (places_from at (xs ++ ys)) ≡ is_one_of n (places_from (at + length (all_bytes xs)) ys)
places_behind at n [] ys h = ap (λ (k : ℕ). is_one_of n (places_from k ys)) (let z : at ≡ at + 0 = omega arith in z)
places_behind at n (x ∷ xs) ys h =
    let l = length-append (bytes_of x) (all_bytes xs) in
    let long = at_least x in
    rw (ne_eqb n at (λ e. omega arith))
    (places_behind (at + length (bytes_of x)) n xs ys (omega arith)
    ∙ ap (λ (k : ℕ). is_one_of n (places_from k ys)) (let z : at + length (bytes_of x) + length (all_bytes xs) ≡ at + length (all_bytes (x ∷ xs)) = omega arith in z))

same_from : (by n m : ℕ) → eqb (by + n) (by + m) ≡ eqb n m
same_from by n m = go (eqb n m) refl
  where
    go : (t : Bool) → eqb n m ≡ t → eqb (by + n) (by + m) ≡ t
    go true e = let s = eqb-true n m e in eq-eqb (by + n) (by + m) (omega arith)
    go false e = ne_eqb (by + n) (by + m) (λ s. eqb-false n m e (omega arith))

-- counted from further on, they are as many bytes less
pub places_shifted : (by at n : ℕ) (xs : List Item) → is_one_of (by + n) (places_from (by + at) xs) ≡ is_one_of n (places_from at xs)
places_shifted by at n [] = ap (λ (t : Bool). t || false) (same_from by n at)
places_shifted by at n (x ∷ xs) =
    rw (same_from by n at, ← (places_shifted by (at + length (bytes_of x)) n xs))
    (ap (λ (k : ℕ). eqb n at || is_one_of (by + n) (places_from k xs)) (let z : by + at + length (bytes_of x) ≡ by + (at + length (bytes_of x)) = omega arith in z))

-- ---- a place parts them: those in front of it, and those behind

pub record Parted (at n : ℕ) (xs : List Item) : Type 0 where
  pub front : List Item
  pub back : List Item
  pub are : front ++ back ≡ xs
  pub place : at + length (all_bytes front) ≡ n

pub parted : (at n : ℕ) (xs : List Item) → is_one_of n (places_from at xs) ≡ true → Parted at n xs
parted at n [] h = go (eqb n at) refl h
  where
    go : (t : Bool) → eqb n at ≡ t → (t || false) ≡ true → Parted at n []
    go true e h = let s = eqb-true n at e in record { front = []; back = []; are = refl; place = omega arith }
    go false e h = absurd (true≢false (sym h))
parted at n (x ∷ xs) h = go (λ m. parted (at + length (bytes_of x)) n xs m) (eqb n at) refl h
  where
    go : (is_one_of n (places_from (at + length (bytes_of x)) xs) ≡ true → Parted (at + length (bytes_of x)) n xs) → (t : Bool) → eqb n at ≡ t
        → (t || is_one_of n (places_from (at + length (bytes_of x)) xs)) ≡ true → Parted at n (x ∷ xs)
    go others true e h = let s = eqb-true n at e in record { front = []; back = x ∷ xs; are = refl; place = omega arith }
    go others false e h =
        let p = others h in
        let place = p.place in
        let joined = length-append (bytes_of x) (all_bytes p.front) in
        record { front = x ∷ p.front; back = p.back; are = ap (λ (t : List Item). x ∷ t) p.are; place = omega arith }
