-- Text placed, by where its characters leave I: nothing for none, the refusal, I alone while hidden, else I and the record.
-- Assumes nothing.
use Prim.Native.Nat.{ℕ, ◌<◌}
use mathlib.Core.Path.{◌≡◌, refl}
use mathlib.Core.Bool.{true, false}
use mathlib.Core.List.{List, [], ◌∷◌}
use native.Mathlib.Omega.{arith}
use lib.ListN.{length}
use Rattle.part.specs.Checks.{fine}
use Rattle.part.specs.States.{with_inline}
use Rattle.part.specs.Presenting.{hides}
use Rattle.part.specs.Text.{characters}
use Rattle.part.specs.Place.{effect, place_text}
use Rattle.part.specs.Code.{refused_from, state_after, inked, roomed_in, advanced}
use Rattle.part.specs.declared.shapes.Descriptor.{Descriptor}
use Rattle.part.specs.declared.shapes.State.{State}
use Rattle.part.specs.declared.faults.Fault.{Fault}
use Rattle.part.proofs.Bounds.{font-fits}
use Rattle.part.proofs.Cycles.{length-cycle, once}

pub text_none : (most : ℕ) (widths : List ℕ) (d : Descriptor) (s : State) (cs : List ℕ) → length cs ≡ 0 → roomed_in most s (place_text widths d s cs) ≡ effect s []
unfolding place_text characters
text_none most widths d s [] h = refl
text_none most widths d s (c ∷ cs) h = absurd (omega arith)

module _ (most : ℕ) (widths : List ℕ) (d : Descriptor) (s : State) where
  pub text_refused : (cs : List ℕ) (why : Fault) (area : List ℕ) (used : ℕ) → refused_from 4 why ≡ characters widths d s s.at.i cs
      → (refused_from 4 why ≡ state_after (roomed_in most s (place_text widths d s cs))) × (area ≡ inked area used (roomed_in most s (place_text widths d s cs)))
  unfolding place_text
  text_refused cs why area used e = rw (← e) (refl, refl)

  pub text_hidden : (cs : List ℕ) (i : ℕ) → 0 < length cs → hides d s ≡ true → characters widths d s s.at.i cs ≡ fine i → roomed_in most s (place_text widths d s cs) ≡ effect (with_inline s i) []
  unfolding place_text
  text_hidden [] i some h e = absurd (omega arith)
  text_hidden (c ∷ cs) i some h e = rw (e, h)

  pub text_shown : (cs : List ℕ) (i : ℕ) → 0 < length cs → hides d s ≡ false → characters widths d s s.at.i cs ≡ fine i → roomed_in most s (place_text widths d s cs) ≡ advanced most s i cs
  unfolding place_text
  text_shown [] i some h e = absurd (omega arith)
  text_shown (c ∷ cs) i some h e = rw (e, h)

-- for `show_text` and `show_plain`
pub ruleset shown = (text_none, text_hidden, text_shown, length-cycle, once, font-fits)
