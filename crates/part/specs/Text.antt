-- "Text": each character's width, its advance, and the characters that RPS presents.
use Rattle.std.specs.Prelude.{ℕ, zero, suc, ◌+◌, ◌*◌, ◌%◌, ◌||◌, List, [], ◌∷◌, length, get_or, eqb, if◌then◌else◌}
use Rattle.part.specs.Numbers.{ones}
use Rattle.part.specs.Checks.{Checked, fine, require, ◌>>=◌, ◌>>◌}
use Rattle.part.specs.Presenting.{default, moved, on_sheet, hides}
use Rattle.part.specs.States.{point}
use Rattle.part.specs.declared.shapes.Descriptor.{Descriptor}
use Rattle.part.specs.declared.shapes.State.{State}

-- Font f's code point c is at 256 f + c. The width of X'40' is the variable space if present, else the table's.
abbrev pub width_of : List ℕ → State → ℕ → ℕ
width_of widths s c =
    let table = get_or widths (256 * s.font + c) 0 in
    if eqb c 0x40 then default ones s.space table else table

-- the adjustment: plus (direction 0) or minus (1)
abbrev pub plus : State → ℕ
plus s = if eqb s.direction 1 then 0 else s.adjustment

abbrev pub minus : State → ℕ
minus s = if eqb s.direction 1 then s.adjustment else 0

module _ (widths : List ℕ) (d : Descriptor) (s : State) where
  -- one character at I: unless it is hidden, 0 <= I, I + width <= size I, 0 <= B <= size B or 27; then the advance
  unfoldable pub character : ℕ → ℕ → Checked ℕ
  character i c = do
    require (hides d s || on_sheet d (point i s.at.b) (width_of widths s c) 0) 27
    moved i (width_of widths s c + plus s) (minus s)

  -- where characters that begin at I leave it
  unfoldable pub characters : ℕ → List ℕ → Checked ℕ
  characters i [] = fine i
  characters i (c ∷ cs) = character i c >>= λ j. characters j cs

-- RPS presents count bytes, byte i being text byte i modulo the text's length: those from byte i on
unfoldable pub cycle : List ℕ → ℕ → ℕ → List ℕ
cycle text i zero = []
cycle text i (suc count) = get_or text (i % length text) 0 ∷ cycle text (i + 1) count
