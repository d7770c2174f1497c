-- A stretch is where the first 2B stands, or the length; and it goes on past blocks of sixteen without one.
-- Assumes nothing.
use Rattle.std.specs.Prelude.{Some, None, if◌then◌else◌}
use Rattle.std.specs.List.{list_any, prefix_len, position_or_len}
use Rattle.std.specs.Simd.{first_chunks}
use Rattle.std.specs.Option.{unwrap_or}
use Rattle.std.proofs.lemmas.List.Recursion.{is_position_or_len}
use Rattle.std.proofs.lemmas.List.Sums.{prefix_len-le-length}
use Prim.Native.Nat.{ℕ, zero, suc, ◌+◌, ◌*◌, ◌≤◌}
use mathlib.Core.Path.{◌≡◌, refl, ap}
use mathlib.Core.Bool.{Bool, true, false, not, ◌||◌, cond}
use mathlib.Core.List.{List, [], ◌∷◌, ◌++◌}
use native.Mathlib.Nat.{zero-add}
use native.Mathlib.Omega.{arith}
use lib.ListN.{length, take, drop, length-drop, take-append-drop}
use lib.Seq.{drop-drop, length-take-le}
use lib.Dec.{eqb, ltb}
use borrow.Author.Tests.{ltb-false}
use Rattle.part.specs.Reading.{stretch}
use Rattle.part.proofs.Reading.{stretch_through}

abbrev pub is_class : ℕ → Bool
is_class c = eqb c 0x2B

-- no byte of a block is 2B
abbrev pub clear : List ℕ → Bool
clear block = not (list_any is_class block)

clear-through : (xs : List ℕ) → clear xs ≡ true → stretch xs ≡ length xs
clear-through [] h = refl
clear-through (x ∷ xs) h =
    (elim (eqb x 0x2B) as (λ t. not (t || list_any is_class xs) ≡ true → (if t then 0 else suc (stretch xs)) ≡ suc (length xs))
    [ true ↦ λ k. cc | false ↦ λ k. ap suc (clear-through xs k) ]) h

-- the blocks in front that are clear, and the stretch from there on
pub past-blocks : (k : ℕ) (xs : List ℕ) (n : ℕ) → 16 * k ≤ length xs → n ≡ prefix_len clear (first_chunks 16 k xs) → 16 * n + stretch (drop (16 * n) xs) ≡ stretch xs
past-blocks zero xs n h e = rw e (zero-add (stretch xs))
past-blocks (suc k) xs n h e = go (prefix_len clear (first_chunks 16 k (drop 16 xs))) (clear (take 16 xs)) refl e (past-blocks k (drop 16 xs) (prefix_len clear (first_chunks 16 k (drop 16 xs))) (omega (arith, length-drop 16 xs)) refl)
  where
    go : (p : ℕ) (t : Bool) → clear (take 16 xs) ≡ t → n ≡ cond t (1 + p) 0 → 16 * p + stretch (drop (16 * p) (drop 16 xs)) ≡ stretch (drop 16 xs) → 16 * n + stretch (drop (16 * n) xs) ≡ stretch xs
    go p false c e rest = rw e (zero-add (stretch xs))
    go p true c e rest =
        let long = length-take-le 16 xs (omega arith) in
        let on = stretch_through (take 16 xs) (drop 16 xs) (clear-through (take 16 xs) c) in
        let whole : take 16 xs ++ drop 16 xs ≡ xs = take-append-drop 16 xs in
        let next : 16 * n ≡ 16 + 16 * p = omega arith in
        rw (next, ← drop-drop (16 * p) 16 xs) (omega (arith, rw whole at on))

-- where the first 2B stands, or else the length
pub first-class : (xs : List ℕ) (n : ℕ) → n ≡ length xs → unwrap_or (cond (ltb (position_or_len is_class xs) (length xs)) (Some (position_or_len is_class xs)) None) n ≡ stretch xs
first-class xs n e = rw (is_position_or_len stretch is_class refl (λ x xs. step (is_class x) xs) xs) (go (ltb (position_or_len is_class xs) (length xs)) refl)
  where
    step : (t : Bool) (xs : List ℕ) → (if t then 0 else suc (stretch xs)) ≡ cond t 0 (1 + stretch xs)
    step true xs = refl
    step false xs = omega arith

    go : (t : Bool) → ltb (position_or_len is_class xs) (length xs) ≡ t → unwrap_or (cond t (Some (position_or_len is_class xs)) None) n ≡ position_or_len is_class xs
    go true h = refl
    go false h = let most = prefix_len-le-length (λ c. not (is_class c)) xs in omega (arith, ltb-false _ _ h)
