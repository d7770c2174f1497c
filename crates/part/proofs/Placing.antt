-- Placing an element: the bytes used stay, all numbers stay in range, and a fault is from 26 to 29 and keeps the element's start.
-- Assumes nothing.
use Rattle.std.specs.Prelude.{if◌then◌else◌}
use Prim.Native.Nat.{ℕ, ◌+◌, ◌-◌, ◌≤◌}
use mathlib.Core.Path.{◌≡◌, refl}
use mathlib.Core.Bool.{Bool, true, false, ◌&&◌, ◌||◌}
use mathlib.Core.List.{List, [], ◌∷◌}
use native.Mathlib.Omega.{arith}
use lib.ListN.{set}
use lib.Dec.{leb, eqb}
use borrow.Author.Tests.{leb-true, le-leb}
use Rattle.part.specs.Numbers.{origin, last, ones, signed}
use Rattle.part.specs.Checks.{fine}
use Rattle.part.specs.States.{point}
use Rattle.part.specs.Ranges.{Range, Field, up_to, only, colours, ◌to◌, ◌or◌, ◌∈◌, ◌within◌, hold, descriptor_fields, state_fields}
use Rattle.part.specs.Elements.{Element, Text, RepeatString, AbsoluteMoveInline, AbsoluteMoveBaseline, RelativeMoveInline, RelativeMoveBaseline, BeginLine, SetInlineMargin, SetBaselineIncrement, SetIntercharacterAdjustment, SetVariableSpace, SetCodedFont, SetTextColor, SetTextOrientation, BeginSuppression, EndSuppression, DrawRule, NoOperation}
use Rattle.part.specs.Presenting.{default, moved, on_sheet, hides}
use Rattle.part.specs.Text.{width_of, plus, minus, character, characters, cycle}
use Rattle.part.specs.Place.{Effect, along, to_inline, to_baseline, place_text, place_rule, place}
use Rattle.part.specs.declared.shapes.Descriptor.{Descriptor}
use Rattle.part.specs.declared.shapes.State.{State}
use Rattle.part.proofs.Checks.{Gives, value, gives_then, gives_where, gives_so, first_of, second_of}
use Rattle.part.proofs.Fields.{held, changed}
use Rattle.part.proofs.Fits.{Fits}

-- all numbers stay in range if the descriptor's are, and where the element's are
abbrev pub Kept : Descriptor → State → Type 0 → Effect → Type 0
Kept d s Ok f = hold (descriptor_fields d) ≡ true → Ok → hold (state_fields s) ≡ true → hold (state_fields f.state) ≡ true

-- a fault of placing: its code, at the element's start
abbrev pub Unplaced : ℕ → ℕ → Type 0
Unplaced code at = (code ∈ 26 to 29 && eqb at 0) ≡ true

pub record Leaves (d : Descriptor) (s : State) (e : Element) (f : Effect) : Type 0 where
  pub used : f.state.used ≡ s.used
  pub kept : Kept d s (Fits e) f

-- ---- positions

abbrev pub Position : ℕ → Type 0
Position n = (n ∈ up_to last) ≡ true

pub moved-fits : (n forth back : ℕ) → Gives Position Unplaced (moved n forth back)
unfolding moved
moved-fits n forth back =
    gives_where (leb back (n + forth) && leb (n + forth) (last + back)) 28 (fine (n + forth - back)) refl λ t.
    let most : n + forth ≤ last + back = leb-true _ _ (second_of (leb back (n + forth)) (leb (n + forth) (last + back)) t) in
    value (le-leb (n + forth - back) last (omega arith))

module _ (widths : List ℕ) (d : Descriptor) (s : State) where
  pub characters_fit : (i : ℕ) (cs : List ℕ) → Gives (λ j. Position i → Position j) Unplaced (characters widths d s i cs)
  unfolding character characters
  characters_fit i [] = value (λ ok. ok)
  characters_fit i (c ∷ cs) =
      gives_then (character widths d s i c) (λ j. characters widths d s j cs)
      (gives_where (hides d s || on_sheet d (point i s.at.b) (width_of widths s c) 0) 27 _ refl (λ _. moved-fits i (width_of widths s c + plus s) (minus s)))
      (λ j ok. gives_so (λ k on _. on ok) (λ _ _ q. q) (characters_fit j cs))

-- all ones, or a number in range: then the descriptor's, or that number, is in range
pub default-fits : (range : Range) (all v other : ℕ) → (v ∈ range or only all) ≡ true → (other ∈ range) ≡ true → (default all v other ∈ range) ≡ true
default-fits range all v other h ok = go (eqb v all) (range v) refl h
  where
    go : (t r : Bool) → range v ≡ r → (r || t) ≡ true → ((if t then other else v) ∈ range) ≡ true
    go true r e k = ok
    go false true e k = e
    go false false e k = cc

defaulted : (fs : List Field) (k : ℕ) (range : Range) (all v other : ℕ) → hold fs ≡ true → (v ∈ range or only all) ≡ true → (other ∈ range) ≡ true → hold (set fs k (default all v other within range)) ≡ true
defaulted fs k range all v other h ok there = changed fs k (default all v other within range) h (default-fits range all v other ok there)

-- ---- elements

module _ (widths : List ℕ) (d : Descriptor) (s : State) where
  leaves : {e : Element} {f : Effect} → f.state.used ≡ s.used → Kept d s (Fits e) f → Gives (Leaves d s e) Unplaced (fine f)
  leaves used kept = value (record { used = used; kept = kept })

  text_leaves : (e : Element) (cs : List ℕ) → Gives (Leaves d s e) Unplaced (place_text widths d s cs)
  unfolding place_text state_fields
  text_leaves e cs =
      gives_then (characters widths d s s.at.i cs) _ (characters_fit widths d s s.at.i cs) λ i ok.
      leaves refl (λ _ _ h. changed (state_fields s) 0 (i within up_to last) h (ok (held (state_fields s) 0 h)))

  inline_leaves : (e : Element) (n forth back : ℕ) → Gives (Leaves d s e) Unplaced (to_inline s (moved n forth back))
  unfolding state_fields
  inline_leaves e n forth back =
      gives_then (moved n forth back) _ (moved-fits n forth back) λ i ok.
      leaves refl (λ _ _ h. changed (state_fields s) 0 (i within up_to last) h ok)

  baseline_leaves : (e : Element) (n forth back : ℕ) → Gives (Leaves d s e) Unplaced (to_baseline s (moved n forth back))
  unfolding state_fields
  baseline_leaves e n forth back =
      gives_then (moved n forth back) _ (moved-fits n forth back) λ b ok.
      leaves refl (λ _ _ h. changed (state_fields s) 1 (b within up_to last) h ok)

  pub place_leaves : (e : Element) → Gives (Leaves d s e) Unplaced (place widths d s e)
  unfolding place place_rule state_fields descriptor_fields
  place_leaves (Text cs) = text_leaves _ cs
  place_leaves (RepeatString cs count) = text_leaves _ (cycle cs 0 count)
  place_leaves (AbsoluteMoveInline v) = inline_leaves _ origin v 0
  place_leaves (AbsoluteMoveBaseline v) = baseline_leaves _ origin v 0
  place_leaves (RelativeMoveInline v) = inline_leaves _ s.at.i (signed v) origin
  place_leaves (RelativeMoveBaseline v) = baseline_leaves _ s.at.b (signed v) origin
  place_leaves BeginLine =
      gives_then (moved origin s.margin 0) _ (moved-fits _ _ _) λ i i-fits.
      gives_then (moved s.at.b s.increment 0) _ (moved-fits _ _ _) λ b b-fits.
      leaves refl (λ _ _ h. changed (set (state_fields s) 0 (i within up_to last)) 1 (b within up_to last) (changed (state_fields s) 0 (i within up_to last) h i-fits) b-fits)
  place_leaves (SetInlineMargin v) = leaves refl (λ dh ok h. defaulted (state_fields s) 2 (up_to 32767) ones v d.margin h ok (held (descriptor_fields d) 4 dh))
  place_leaves (SetBaselineIncrement v) = leaves refl (λ dh ok h. defaulted (state_fields s) 3 (up_to 32767) ones v d.increment h ok (held (descriptor_fields d) 5 dh))
  place_leaves (SetIntercharacterAdjustment v direction) = leaves refl λ dh ok h.
      let one = v ∈ up_to 4095 or only ones in
      let other = direction ∈ up_to 1 or only 0xFF in
      let first = default ones v d.adjustment within up_to 4095 in
      let h' = defaulted (state_fields s) 4 (up_to 4095) ones v d.adjustment h (first_of one other ok) (held (descriptor_fields d) 6 dh) in
      defaulted (set (state_fields s) 4 first) 5 (up_to 1) 0xFF direction d.direction h' (second_of one other ok) (held (descriptor_fields d) 7 dh)
  place_leaves (SetVariableSpace v) = leaves refl (λ _ ok h. changed (state_fields s) 8 (v within up_to 4095 or only ones) h ok)
  place_leaves (SetCodedFont f) = leaves refl (λ dh ok h. defaulted (state_fields s) 6 (up_to 3) 0xFF f d.font h ok (held (descriptor_fields d) 8 dh))
  place_leaves (SetTextColor v) = leaves refl (λ dh ok h. defaulted (state_fields s) 7 colours ones v d.colour h ok (held (descriptor_fields d) 9 dh))
  place_leaves SetTextOrientation = leaves refl (λ _ _ h. h)
  place_leaves (BeginSuppression id) =
      gives_where (eqb s.suppression 0) 26 _ refl λ _.
      leaves refl (λ _ ok h. changed (state_fields s) 9 (id within up_to 127) h (second_of (leb 1 id) (leb id 127) ok))
  place_leaves (EndSuppression id) =
      gives_where (eqb s.suppression id) 26 _ refl λ _.
      leaves refl (λ _ _ h. changed (state_fields s) 9 (0 within up_to 127) h refl)
  place_leaves (DrawRule mark len width) =
      let w = default ones width d.rule in
      gives_where (hides d s || on_sheet d s.at (along mark len w) (along mark w len)) 27 _ refl λ _.
      leaves refl (λ _ _ h. h)
  place_leaves NoOperation = leaves refl (λ _ _ h. h)
