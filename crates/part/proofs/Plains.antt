-- Plain text: where it leaves I, from the sum of its widths.
-- Assumes nothing.
use Prim.Native.Nat.{ℕ, ◌+◌, ◌*◌}
use mathlib.Core.Path.{◌≡◌, sym, ◌∙◌}
use mathlib.Core.Bool.{true, false}
use mathlib.Core.List.{List}
use mathlib.Core.Logic.{inr}
use native.Mathlib.Nat.{add-zero}
use lib.ListN.{length, get_or}
use Rattle.part.specs.Numbers.{ones}
use Rattle.part.specs.Checks.{fine}
use Rattle.part.specs.Presenting.{default, hides}
use Rattle.part.specs.Text.{characters, plus, minus}
use Rattle.part.specs.Code.{row_in, widths_of, baseline, Plain, AtOnce}
use Rattle.part.specs.declared.shapes.Descriptor.{Descriptor}
use Rattle.part.specs.declared.shapes.State.{State}
use Rattle.part.proofs.Lines.{level}
use Rattle.part.proofs.Texts.{Bytes, own_line, characters-along}

module _ (widths : List ℕ) (d : Descriptor) (s : State) (end : ℕ) (plain : Plain s d.size.i d.size.b end) where
  pub unhidden : hides d s ≡ false
  unhidden = rw plain.shown

  -- its last character's end decides for all
  pub reaches : (t : List ℕ) → Bytes t → end ≡ s.at.i + widths_of (row_in widths s) (default ones s.space (get_or (row_in widths s) 0x40 0)) t + length t * s.adjustment → characters widths d s s.at.i t ≡ fine end
  reaches t bytes sum =
      let on : baseline d s ≡ true = rw plain.shown plain.down in
      let adds : plus s ≡ s.adjustment = rw plain.added in
      let leaves : minus s ≡ 0 = rw plain.added in
      let once : AtOnce (own_line widths d s) s.at.i end = record { range = plain.range; ends = inr (plain.begins, rw (adds, leaves, add-zero) plain.ends) } in
      characters-along widths d s on s.at.i t bytes ∙ level (row_in widths s) (own_line widths d s) s.at.i end t leaves (rw adds (sym sum)) once
