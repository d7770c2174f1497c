-- What an element shows lies on the sheet: its characters passed 27 one by one, and so did a rule's two corners. And none of it is empty.
-- Assumes nothing.
use Rattle.std.specs.Prelude.{if◌then◌else◌}
use Prim.Native.Nat.{ℕ, ◌+◌, ◌-◌, ◌<◌, ◌≤◌}
use mathlib.Core.Path.{◌≡◌, refl}
use mathlib.Core.Bool.{Bool, true, false, not, ◌&&◌, ◌||◌}
use mathlib.Core.List.{List, [], ◌∷◌}
use native.Mathlib.Omega.{arith}
use lib.ListN.{length}
use lib.Dec.{leb, eqb}
use borrow.Author.Tests.{leb-true}
use Rattle.part.specs.Numbers.{origin, last, ones, signed}
use Rattle.part.specs.Checks.{Checked, fine}
use Rattle.part.specs.States.{point}
use Rattle.part.specs.Ranges.{hold, descriptor_fields}
use Rattle.part.specs.Elements.{Element, Text, RepeatString, AbsoluteMoveInline, AbsoluteMoveBaseline, RelativeMoveInline, RelativeMoveBaseline, BeginLine, SetInlineMargin, SetBaselineIncrement, SetIntercharacterAdjustment, SetVariableSpace, SetCodedFont, SetTextColor, SetTextOrientation, BeginSuppression, EndSuppression, DrawRule, NoOperation}
use Rattle.part.specs.Reading.{Piece}
use Rattle.part.specs.Records.{ShownText, ShownRule, ink, Item, text_item, rule_item}
use Rattle.part.specs.Presenting.{default, moved, on_sheet, hides}
use Rattle.part.specs.Text.{width_of, plus, minus, character, characters, cycle}
use Rattle.part.specs.Place.{Effect, along, shown_text, shown_rule, place_text, place_rule, place}
use Rattle.part.specs.Part.{passed_by, elements_by}
use Rattle.part.specs.Drawing.{drawn, are_on_sheet, is_on_sheet, all_on_sheet}
use Rattle.part.specs.declared.shapes.Descriptor.{Descriptor}
use Rattle.part.specs.declared.shapes.State.{State}
use Rattle.part.proofs.Checks.{Gives, value, gives_any, gives_then, gives_where, gives_so, first_of, second_of}
use Rattle.part.proofs.Fields.{held}
use Rattle.part.proofs.Every.{Every, none, ◌also◌, every, every_join}
use Rattle.part.proofs.Parts.{elements_give}

-- a text has a character at least, and a rule has ink
abbrev pub Filled : Item → Type 0
Filled (text_item t) = 0 < length t.characters
Filled (rule_item r) = ink r.len r.width ≡ true

-- what begins on the sheet and ends within a size in range reaches no further than that
reach_low : (start reach size : ℕ) → leb origin start ≡ true → leb (start + reach) (origin + size) ≡ true → (leb 1 size && leb size 32767) ≡ true → reach ≤ 32767
reach_low start reach size begins ends range =
    let a = leb-true origin start begins in
    let b = leb-true (start + reach) (origin + size) ends in
    let c = leb-true size 32767 (second_of (leb 1 size) (leb size 32767) range) in
    omega arith

-- so a rule's length and width are in range where it lies on the sheet of a descriptor in range
pub rule_low : (widths : List ℕ) (d : Descriptor) (r : ShownRule) → hold (descriptor_fields d) ≡ true → is_on_sheet widths d (rule_item r) ≡ true → (r.len ≤ 32767) × (r.width ≤ 32767)
unfolding descriptor_fields
rule_low widths d r ranges on =
    let across = along r.mark r.len r.width in
    let down = along r.mark r.width r.len in
    let left = leb origin r.at.i in
    let right = leb (r.at.i + across) (origin + d.size.i) in
    let top = leb origin r.at.b in
    let bottom = leb (r.at.b + down) (origin + d.size.b) in
    let three = first_of (left && right && top) bottom on in
    let two = first_of (left && right) top three in
    either_way
    (eqb r.mark 1)
    (reach_low r.at.i across d.size.i (first_of left right two) (second_of left right two) (held (descriptor_fields d) 0 ranges))
    (reach_low r.at.b down d.size.b (second_of (left && right) top three) (second_of (left && right && top) bottom on) (held (descriptor_fields d) 1 ranges))
  where
    either_way : (t : Bool) → (if t then r.width else r.len) ≤ 32767 → (if t then r.len else r.width) ≤ 32767 → (r.len ≤ 32767) × (r.width ≤ 32767)
    either_way true h k = (k, h)
    either_way false h k = (h, k)

module _ (widths : List ℕ) (d : Descriptor) where
  pub record Drawable (x : Item) : Type 0 where
    pub on_sheet : is_on_sheet widths d x ≡ true
    pub filled : Filled x

  abbrev pub Shown : Effect → Type 0
  Shown f = Every Drawable f.items

  abbrev Shows : Checked Effect → Type 0
  Shows m = Gives Shown (λ _ _. Unit) m

  -- a text's own numbers are the state's
  abbrev its_text : State → List ℕ → ShownText
  its_text s cs = record { at = s.at; font = s.font; colour = s.colour; adjustment = s.adjustment; direction = s.direction; space = s.space; characters = cs }

  -- one character that is shown lies on the sheet, and the next one begins behind its advance
  character-on : (s : State) (i c : ℕ) → hides d s ≡ false
      → Gives (λ j. (on_sheet d (point i s.at.b) (width_of widths s c) 0 ≡ true) × (j ≡ i + (width_of widths s c + plus s) - minus s)) (λ _ _. Unit) (character widths d s i c)
  unfolding character moved
  character-on s i c shown =
      let on = on_sheet d (point i s.at.b) (width_of widths s c) 0 in
      let to = i + (width_of widths s c + plus s) in
      gives_where (hides d s || on) 27 _ tt λ a.
      gives_where (leb (minus s) to && leb to (last + minus s)) 28 (fine (to - minus s)) tt (λ _. value (rw shown at a, refl))

  characters-on : (s : State) (all : List ℕ) (i : ℕ) (cs : List ℕ) → hides d s ≡ false → Gives (λ _. are_on_sheet widths d (drawn (its_text s all)) i cs ≡ true) (λ _ _. Unit) (characters widths d s i cs)
  unfolding characters
  characters-on s all i [] shown = value refl
  characters-on s all i (c ∷ cs) shown =
      gives_then (character widths d s i c) _ (character-on s i c shown) λ j here.
      gives_so (λ _ rest. rw (here.0, ← here.1) rest) (λ _ _ _. tt) (characters-on s all j cs shown)

  text_on : (s : State) (cs : List ℕ) → Shows (place_text widths d s cs)
  unfolding place_text
  text_on s [] = gives_then (characters widths d s s.at.i []) _ (gives_any _) (λ _ _. value none)
  text_on s (c ∷ cs) = go (hides d s) refl
    where
      go : (t : Bool) → hides d s ≡ t → Shows (place_text widths d s (c ∷ cs))
      go true h = gives_then (characters widths d s s.at.i (c ∷ cs)) _ (gives_any _) (λ _ _. value (rw h none))
      go false h =
          gives_then (characters widths d s s.at.i (c ∷ cs)) _ (characters-on s (c ∷ cs) s.at.i (c ∷ cs) h) λ _ on.
          value (rw h (◌also◌ {x = shown_text s (c ∷ cs)} (record { on_sheet = on; filled = omega arith }) none))

  rule_on : (s : State) (mark len width : ℕ) → Shows (place_rule d s mark len width)
  unfolding place_rule
  rule_on s mark len width = gives_where (hides d s || on) 27 _ tt (λ a. value (go (hides d s) (ink len width) refl a))
    where
      on : Bool
      on = on_sheet d s.at (along mark len width) (along mark width len)

      go : (hidden inked : Bool) → ink len width ≡ inked → (hidden || on) ≡ true → Every Drawable (if hidden || not inked then [] else shown_rule s mark len width ∷ [])
      go true inked e a = none
      go false true e a = record { on_sheet = a; filled = e } also none
      go false false e a = none

  place-on : (s : State) (e : Element) → Shows (place widths d s e)
  unfolding place
  place-on s (Text cs) = text_on s cs
  place-on s (RepeatString cs count) = text_on s (cycle cs 0 count)
  place-on s (AbsoluteMoveInline v) = gives_then (moved origin v 0) _ (gives_any _) (λ _ _. value none)
  place-on s (AbsoluteMoveBaseline v) = gives_then (moved origin v 0) _ (gives_any _) (λ _ _. value none)
  place-on s (RelativeMoveInline v) = gives_then (moved s.at.i (signed v) origin) _ (gives_any _) (λ _ _. value none)
  place-on s (RelativeMoveBaseline v) = gives_then (moved s.at.b (signed v) origin) _ (gives_any _) (λ _ _. value none)
  place-on s BeginLine =
      gives_then (moved origin s.margin 0) _ (gives_any _) λ _ _.
      gives_then (moved s.at.b s.increment 0) _ (gives_any _) (λ _ _. value none)
  place-on s (SetInlineMargin v) = value none
  place-on s (SetBaselineIncrement v) = value none
  place-on s (SetIntercharacterAdjustment v direction) = value none
  place-on s (SetVariableSpace v) = value none
  place-on s (SetCodedFont f) = value none
  place-on s (SetTextColor v) = value none
  place-on s SetTextOrientation = value none
  place-on s (BeginSuppression id) = gives_where (eqb s.suppression 0) 26 _ tt (λ _. value none)
  place-on s (EndSuppression id) = gives_where (eqb s.suppression id) 26 _ tt (λ _. value none)
  place-on s (DrawRule mark len width) = rule_on s mark len (default ones width d.rule)
  place-on s NoOperation = value none

  -- all of them lie on the sheet
  pub all-on : {xs : List Item} → Every Drawable xs → all_on_sheet widths d xs ≡ true
  all-on none = refl
  all-on (x also xs) = rw x.on_sheet (all-on xs)

  -- all that the elements of a part show
  pub elements-on : (s : State) (ps : List Piece) → Shows (elements_by (place widths d) s ps)
  unfolding passed_by
  elements-on s ps =
      elements_give (place widths d) (λ _. Shown) (λ _. Unit) (λ _. none) (λ s e f one two. every_join one two) s ps
      (every (λ p s. gives_then p.what _ (gives_any p.what) (λ f _. gives_then (place widths d s f.element) _ (place-on s f.element) (λ g on. value on))) ps)
