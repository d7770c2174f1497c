-- The characters of a text that begins again at its end: they come in rounds, each of them the whole text, and a last part of one.
-- Assumes nothing.
use Prim.Native.Nat.{ℕ, zero, suc, ◌+◌, ◌*◌, ◌/◌, ◌%◌, ◌<◌, ◌≤◌}
use mathlib.Core.Path.{◌≡◌, refl, sym, ◌∙◌, ap}
use mathlib.Core.List.{List, [], ◌++◌, append_assoc}
use native.Mathlib.Nat.{mod-lt, div-add-mod', mod-eq_of_lt, add-zero, mod-add-mod, add-mod_right, zero-add, suc-add, zero-mul, suc-mul}
use native.Mathlib.Numerals.{add-one}
use native.Mathlib.Omega.{arith}
use lib.ListN.{length, take, drop}
use lib.Seq.{drop-cons, take-length}
use Rattle.part.specs.Text.{cycle}

module _ (t : List ℕ) where
  pub length-cycle : (i m : ℕ) → length (cycle t i m) ≡ m
  unfolding cycle
  length-cycle i zero = refl
  length-cycle i (suc m) = ap suc (length-cycle (i + 1) m)

  -- some, and then those from where they end
  pub cycle_then : (i m n : ℕ) → cycle t i (m + n) ≡ cycle t i m ++ cycle t (i + m) n
  unfolding cycle
  cycle_then i zero n = rw (zero-add, add-zero)
  cycle_then i (suc m) n =
      let e : i + 1 + m ≡ i + suc m = omega arith in
      rw (suc-add, cycle, cycle_then (i + 1) m n, e)

  -- only where they begin modulo the length matters
  pub cycle-from : (i j m : ℕ) → i % length t ≡ j % length t → cycle t i m ≡ cycle t j m
  unfolding cycle
  cycle-from i j zero e = refl
  cycle-from i j (suc m) e =
      let next : (i + 1) % length t ≡ (j + 1) % length t = sym (mod-add-mod i (length t) 1) ∙ rw e (mod-add-mod j (length t) 1) in
      rw (cycle, e, cycle-from (i + 1) (j + 1) m next)

  -- those before the text's end
  pub cycle_within : (i m : ℕ) → i + m ≤ length t → cycle t i m ≡ take m (drop i t)
  unfolding cycle
  cycle_within i zero h = refl
  cycle_within i (suc m) h =
      let k : i < length t = omega arith in
      rw (cycle, drop-cons t i 0 k, mod-eq_of_lt k, cycle_within (i + 1) m (omega arith), add-one)

  pub cycle-take : (m : ℕ) → m ≤ length t → cycle t 0 m ≡ take m t
  cycle-take m h = cycle_within 0 m (omega arith)

  -- as many characters as the text has are the text
  pub once : cycle t 0 (length t) ≡ t
  once = cycle-take (length t) (omega arith) ∙ take-length t

  -- the same from a round later on
  pub cycle-later : (i m : ℕ) → cycle t (i + length t) m ≡ cycle t i m
  cycle-later i m = cycle-from (i + length t) i m (add-mod_right i (length t))

  -- a whole round first
  pub round : (m : ℕ) → cycle t 0 (length t + m) ≡ t ++ cycle t 0 m
  round m = rw (cycle_then 0 (length t) m, cycle-later 0 m, once)

  -- the text, so many times
  abbrev pub times : ℕ → List ℕ
  times zero = []
  times (suc q) = t ++ times q

  -- whole rounds, and a last part of one
  pub rounds : (q r : ℕ) → r ≤ length t → cycle t 0 (q * length t + r) ≡ times q ++ take r t
  rounds zero r h = rw (zero-mul, zero-add) (cycle-take r h)
  rounds (suc q) r h =
      let e : suc q * length t + r ≡ length t + (q * length t + r) = rw suc-mul (omega arith) in
      rw (e, round (q * length t + r), rounds q r h) (sym (append_assoc t (times q) (take r t)))

  -- the same of any count
  pub split : (count : ℕ) → 0 < length t → cycle t 0 count ≡ times (count / length t) ++ take (count % length t) t
  split count h =
      let part : count % length t < length t = mod-lt count h in
      ap (cycle t 0) (sym (div-add-mod' count (length t))) ∙ rounds (count / length t) (count % length t) (omega arith)
