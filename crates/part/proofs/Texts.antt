-- The rule book's characters, as a fold, and as the code walks them: along a line whose numbers are taken from the state once.
-- Assumes nothing.
use Prim.Native.Nat.{ℕ, zero, suc, ◌+◌, ◌*◌, ◌%◌, ◌<◌}
use mathlib.Core.Path.{◌≡◌, refl, sym, ◌∙◌}
use mathlib.Core.Bool.{Bool, true, false, not, ◌&&◌, ◌||◌, and_assoc, and-true, and-false}
use mathlib.Core.List.{List, [], ◌∷◌, ◌++◌}
use native.Mathlib.Omega.{arith}
use borrow.Author.Tests.{eqb-true}
use lib.ListN.{length, drop, get_or}
use lib.Seq.{get_or-take, get_or-drop}
use lib.Dec.{leb, eqb}
use Rattle.part.specs.Numbers.{origin}
use Rattle.part.specs.Checks.{fault, ◌>>=◌}
use Rattle.part.specs.States.{with_inline}
use Rattle.part.specs.Presenting.{hides}
use Rattle.part.specs.Text.{width_of, character, characters, cycle}
use Rattle.part.specs.Code.{baseline, row_in, line_in, width_in, stepped, walked}
use Rattle.part.specs.declared.shapes.Descriptor.{Descriptor}
use Rattle.part.specs.declared.shapes.State.{State}
use Rattle.part.specs.declared.text.Line.{Line}
use Rattle.part.proofs.Checks.{after, regrouped}

module _ (widths : List ℕ) (d : Descriptor) (s : State) where
  -- a then b
  pub text_then : (a b : List ℕ) (i : ℕ) → characters widths d s i (a ++ b) ≡ (characters widths d s i a >>= λ j. characters widths d s j b)
  unfolding characters
  text_then [] b i = refl
  text_then (c ∷ a) b i =
      let m = character widths d s i c in
      after m (λ j. characters widths d s j (a ++ b)) (λ j. characters widths d s j a >>= λ k. characters widths d s k b) (λ j. text_then a b j)
      ∙ sym (regrouped m (λ j. characters widths d s j a) (λ j. characters widths d s j b))

  -- where the state stands along the line does not matter: the characters begin at i
  pub inline_free : (k i : ℕ) (cs : List ℕ) → characters widths d (with_inline s k) i cs ≡ characters widths d s i cs
  unfolding characters character
  inline_free k i [] = refl
  inline_free k i (c ∷ cs) =
      after (character widths d s i c) (λ j. characters widths d (with_inline s k) j cs) (λ j. characters widths d s j cs) (λ j. inline_free k j cs)

-- ---- the line that a state stands on

-- every character is a byte
abbrev pub Bytes : List ℕ → Type 0
Bytes cs = (k : ℕ) → get_or cs k 0 < 256

-- the characters of a text that begins again are its own
pub bytes-cycle : (t : List ℕ) (i m : ℕ) → Bytes t → Bytes (cycle t i m)
unfolding cycle
bytes-cycle t i zero h k = omega arith
bytes-cycle t i (suc m) h zero = h (i % length t)
bytes-cycle t i (suc m) h (suc k) = bytes-cycle t (i + 1) m h k

-- the tests along I, where that along B is known
seen : (h p q r u : Bool) → (h || (r && u)) ≡ true → (h || p && q && r && u) ≡ (not (not h) || p && q)
seen true p q r u e = refl
seen false p q r u e = rw (and_assoc (p && q) r u, e) (and-true (p && q))

unseen : (h p q r u : Bool) → (h || (r && u)) ≡ false → (h || p && q && r && u) ≡ false
unseen true p q r u e = e
unseen false p q r u e = rw (and_assoc (p && q) r u, e) (and-false (p && q))

-- the line of a state
abbrev pub own_line : List ℕ → Descriptor → State → Line
own_line widths d s = line_in d s (get_or (row_in widths s) 0x40 0) (hides d s)

-- Where B is on the sheet or nothing is shown, the characters go along it.
module _ (widths : List ℕ) (d : Descriptor) (s : State) (e : baseline d s ≡ true) where
  table : (c : ℕ) → c < 256 → get_or widths (256 * s.font + c) 0 ≡ get_or (row_in widths s) c 0
  table c h = rw (get_or-take 256 (drop (256 * s.font) widths) c 0 h, get_or-drop (256 * s.font) widths c 0)

  same_width : (c : ℕ) → c < 256 → width_of widths s c ≡ width_in (row_in widths s) (own_line widths d s).space c
  same_width c h = own (eqb c 0x40) refl
    where
      own : (t : Bool) → eqb c 0x40 ≡ t → width_of widths s c ≡ width_in (row_in widths s) (own_line widths d s).space c
      own true q = rw (q, eqb-true c 0x40 q, table 0x40 (omega arith))
      own false q = rw (q, table c h)

  same_step : (i c : ℕ) → c < 256 → character widths d s i c ≡ stepped (own_line widths d s) i (width_in (row_in widths s) (own_line widths d s).space c)
  unfolding character
  same_step i c h =
      let w = width_in (row_in widths s) (own_line widths d s).space c in
      let tests = seen (hides d s) (leb origin i) (leb (i + w) (origin + d.size.i)) (leb origin s.at.b) (leb (s.at.b + 0) (origin + d.size.b)) e in
      rw (same_width c h, tests)

  pub characters-along : (i : ℕ) (cs : List ℕ) → Bytes cs → characters widths d s i cs ≡ walked (row_in widths s) (own_line widths d s) i cs
  unfolding characters walked
  characters-along i [] h = refl
  characters-along i (c ∷ cs) h =
      let m = stepped (own_line widths d s) i (width_in (row_in widths s) (own_line widths d s).space c) in
      rw (characters, walked, same_step i c (h 0)) (after m (λ j. characters widths d s j cs) (λ j. walked (row_in widths s) (own_line widths d s) j cs) (λ j. characters-along j cs (λ k. h (suc k))))

-- Where it is not, the first character is refused.
pub characters_off : (widths : List ℕ) (d : Descriptor) (s : State) (i : ℕ) (cs : List ℕ) → baseline d s ≡ false → 0 < length cs → characters widths d s i cs ≡ fault 27 0
unfolding characters character
characters_off widths d s i [] e h = absurd (omega arith)
characters_off widths d s i (c ∷ cs) e h =
    let tests = unseen (hides d s) (leb origin i) (leb (i + width_of widths s c) (origin + d.size.i)) (leb origin s.at.b) (leb (s.at.b + 0) (origin + d.size.b)) e in
    rw (characters, character, tests)
