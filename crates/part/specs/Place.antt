-- What an element does: the state after it and the items that it shows, or its fault.
use Rattle.std.specs.Prelude.{ℕ, Bool, not, ◌||◌, List, [], ◌∷◌, eqb, if◌then◌else◌}
use Rattle.part.specs.Numbers.{origin, ones, signed}
use Rattle.part.specs.Checks.{Checked, fine, require, ◌>>=◌, ◌>>◌}
use Rattle.part.specs.States.{point, with_at, with_inline, with_baseline, with_margin, with_increment, with_adjustment, with_font, with_colour, with_space, with_suppression}
use Rattle.part.specs.Elements.{Element, Text, RepeatString, AbsoluteMoveInline, AbsoluteMoveBaseline, RelativeMoveInline, RelativeMoveBaseline, BeginLine, SetInlineMargin, SetBaselineIncrement, SetIntercharacterAdjustment, SetVariableSpace, SetCodedFont, SetTextColor, SetTextOrientation, BeginSuppression, EndSuppression, DrawRule, NoOperation}
use Rattle.part.specs.Records.{ink, Item, text_item, rule_item}
use Rattle.part.specs.Presenting.{default, moved, on_sheet, hides}
use Rattle.part.specs.Text.{characters, cycle}
use Rattle.part.specs.declared.shapes.Descriptor.{Descriptor}
use Rattle.part.specs.declared.shapes.State.{State}

pub record Effect : Type 0 where
  pub state : State
  pub items : List Item

abbrev pub effect : State → List Item → Checked Effect
effect s items = fine record { state = s; items = items }

abbrev pub becomes : State → Checked Effect
becomes s = effect s []

-- ---- text

abbrev pub shown_text : State → List ℕ → Item
shown_text s cs = text_item record { at = s.at; font = s.font; colour = s.colour; adjustment = s.adjustment; direction = s.direction; space = s.space; characters = cs }

-- one for each free run, TRN or RPS of at least one shown character
abbrev pub text_items : Bool → State → List ℕ → List Item
text_items hidden s [] = []
text_items hidden s (c ∷ cs) = if hidden then [] else shown_text s (c ∷ cs) ∷ []

unfoldable pub place_text : List ℕ → Descriptor → State → List ℕ → Checked Effect
place_text widths d s cs = do
  i ← characters widths d s s.at.i cs
  effect (with_inline s i) (text_items (hides d s) s cs)

-- ---- rules

-- how far along I: DIR's length, DBR's width; and the other way along B
abbrev pub along : ℕ → ℕ → ℕ → ℕ
along mark len width = if eqb mark 1 then width else len

abbrev pub shown_rule : State → ℕ → ℕ → ℕ → Item
shown_rule s mark len width = rule_item record { at = s.at; mark = mark; colour = s.colour; len = len; width = width }

-- one for each shown rule with ink; one with no ink has no record and needs no room
abbrev pub rule_items : Bool → State → ℕ → ℕ → ℕ → List Item
rule_items hidden s mark len width = if hidden || not (ink len width) then [] else shown_rule s mark len width ∷ []

-- its start and its opposite corner must lie on the sheet, or 27; rules move nothing
unfoldable pub place_rule : Descriptor → State → ℕ → ℕ → ℕ → Checked Effect
place_rule d s mark len width = do
  require (hides d s || on_sheet d s.at (along mark len width) (along mark width len)) 27
  effect s (rule_items (hides d s) s mark len width)

-- ---- moves

abbrev pub to_inline : State → Checked ℕ → Checked Effect
to_inline s i = i >>= λ i. becomes (with_inline s i)

abbrev pub to_baseline : State → Checked ℕ → Checked Effect
to_baseline s b = b >>= λ b. becomes (with_baseline s b)

-- I becomes the margin, B grows by the increment.
abbrev pub begin_line : State → Checked Effect
begin_line s = do
  i ← moved origin s.margin 0
  b ← moved s.at.b s.increment 0
  becomes (with_at s (point i b))

-- ---- suppression: a BSU while one is open, or an ESU whose id isn't the open one, is 26

abbrev pub begin_suppression : State → ℕ → Checked Effect
begin_suppression s id = do
  require (eqb s.suppression 0) 26
  becomes (with_suppression s id)

abbrev pub end_suppression : State → ℕ → Checked Effect
end_suppression s id = do
  require (eqb s.suppression id) 26
  becomes (with_suppression s 0)

-- ---- any element

module _ (widths : List ℕ) (d : Descriptor) where
  unfoldable pub place : State → Element → Checked Effect
  place s (Text cs) = place_text widths d s cs
  place s (RepeatString cs count) = place_text widths d s (cycle cs 0 count)
  place s (AbsoluteMoveInline v) = to_inline s (moved origin v 0)
  place s (AbsoluteMoveBaseline v) = to_baseline s (moved origin v 0)
  place s (RelativeMoveInline v) = to_inline s (moved s.at.i (signed v) origin)
  place s (RelativeMoveBaseline v) = to_baseline s (moved s.at.b (signed v) origin)
  place s BeginLine = begin_line s
  place s (SetInlineMargin v) = becomes (with_margin s (default ones v d.margin))
  place s (SetBaselineIncrement v) = becomes (with_increment s (default ones v d.increment))
  place s (SetIntercharacterAdjustment v direction) =
      becomes (with_adjustment s (default ones v d.adjustment) (default 0xFF direction d.direction))
  place s (SetVariableSpace v) = becomes (with_space s v)
  place s (SetCodedFont f) = becomes (with_font s (default 0xFF f d.font))
  place s (SetTextColor v) = becomes (with_colour s (default ones v d.colour))
  place s SetTextOrientation = becomes s
  place s (BeginSuppression id) = begin_suppression s id
  place s (EndSuppression id) = end_suppression s id
  place s (DrawRule mark len width) = place_rule d s mark len (default ones width d.rule)
  place s NoOperation = becomes s
