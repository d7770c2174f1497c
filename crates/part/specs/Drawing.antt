-- "Presenting", for what was recorded: an item as a printer draws it, by its own numbers, and whether it lies on the sheet.
use Rattle.std.specs.Prelude.{ℕ, ◌+◌, ◌-◌, Bool, true, ◌&&◌, List, [], ◌∷◌}
use Rattle.part.specs.States.{point, state}
use Rattle.part.specs.Records.{ShownText, Item, text_item, rule_item}
use Rattle.part.specs.Presenting.{on_sheet}
use Rattle.part.specs.Text.{width_of, plus, minus}
use Rattle.part.specs.Place.{along}
use Rattle.part.specs.declared.shapes.Descriptor.{Descriptor}
use Rattle.part.specs.declared.shapes.State.{State}

-- where a text record's characters begin, and the values that they go by
abbrev pub drawn : ShownText → State
drawn t = state t.at 0 0 t.adjustment t.direction t.font t.colour t.space 0 0 0

module _ (widths : List ℕ) (d : Descriptor) where
  -- characters from I on: each has 0 <= I, I + width <= size I, 0 <= B <= size B, and the next one begins behind its advance
  abbrev pub are_on_sheet : State → ℕ → List ℕ → Bool
  are_on_sheet s i [] = true
  are_on_sheet s i (c ∷ cs) =
      on_sheet d (point i s.at.b) (width_of widths s c) 0 && are_on_sheet s (i + (width_of widths s c + plus s) - minus s) cs

  -- every character of a text; of a rule its start and its opposite corner
  abbrev pub is_on_sheet : Item → Bool
  is_on_sheet (text_item t) = are_on_sheet (drawn t) t.at.i t.characters
  is_on_sheet (rule_item r) = on_sheet d r.at (along r.mark r.len r.width) (along r.mark r.width r.len)

  abbrev pub all_on_sheet : List Item → Bool
  all_on_sheet [] = true
  all_on_sheet (x ∷ xs) = is_on_sheet x && all_on_sheet xs
