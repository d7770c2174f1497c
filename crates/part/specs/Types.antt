-- The table of the nineteen types, a row each: TYPE without its low bit, the LENGTHs that it takes, its parameters.
use Rattle.std.specs.Prelude.{ℕ, ◌*◌, ◌/◌, ◌%◌, Bool, not, ◌&&◌, List, [], ◌∷◌, eqb, if◌then◌else◌}
use Rattle.part.specs.Numbers.{ones}
use Rattle.part.specs.Checks.{Checked, fine, refuse, ◌>>=◌}
use Rattle.part.specs.Ranges.{up_to, only, colours, everything, ◌to◌, ◌or◌, ◌∈◌}
use Rattle.part.specs.Elements.{Element, AbsoluteMoveInline, AbsoluteMoveBaseline, RelativeMoveInline, RelativeMoveBaseline, BeginLine, SetInlineMargin, SetBaselineIncrement, SetVariableSpace, SetTextColor, BeginSuppression, EndSuppression, NoOperation, number, adjustment, font, orientation, suppression, drawn_rule, transparent, repeated_string, ignored}

-- The low bit of TYPE chains the next sequence and is otherwise ignored.
abbrev pub function : ℕ → ℕ
function type = type / 2 * 2

abbrev pub chaining : ℕ → ℕ
chaining type = type % 2

-- the LENGTHs of a type: the least, the greatest, and the first and the last of a hole between them
pub record Lengths : Type 0 where
  pub least : ℕ
  pub greatest : ℕ
  pub hole_from : ℕ
  pub hole_to : ℕ

-- all LENGTHs from the least to the greatest; or all of them but those of a hole
abbrev pub all : ℕ → ℕ → Lengths
all least greatest = record { least = least; greatest = greatest; hole_from = 0; hole_to = 0 }

abbrev pub all_but : ℕ → ℕ → ℕ → ℕ → Lengths
all_but least greatest first final = record { least = least; greatest = greatest; hole_from = first; hole_to = final }

infix 40 ◌takes◌
abbrev pub ◌takes◌ : Lengths → ℕ → Bool
ns takes n = n ∈ ns.least to ns.greatest && not (n ∈ ns.hole_from to ns.hole_to)

pub record Row : Type 0 where
  pub function : ℕ
  pub lengths : Lengths
  pub values : List ℕ → Checked Element

abbrev pub row : ℕ → Lengths → (List ℕ → Checked Element) → Row
row code lengths values = record { function = code; lengths = lengths; values = values }

unfoldable pub types : List Row
types =
    row 0xC6 (all 4 4) (number (up_to 0x7FFF) AbsoluteMoveInline)  -- AMI
    ∷ row 0xD2 (all 4 4) (number (up_to 0x7FFF) AbsoluteMoveBaseline)  -- AMB
    ∷ row 0xC8 (all 4 4) (number everything RelativeMoveInline)  -- RMI
    ∷ row 0xD4 (all 4 4) (number everything RelativeMoveBaseline)  -- RMB
    ∷ row 0xD8 (all 2 2) (ignored BeginLine)  -- BLN
    ∷ row 0xC0 (all 4 4) (number (up_to 0x7FFF or only ones) SetInlineMargin)  -- SIM
    ∷ row 0xD0 (all 4 4) (number (up_to 0x7FFF or only ones) SetBaselineIncrement)  -- SBI
    ∷ row 0xC2 (all 4 5) adjustment  -- SIA
    ∷ row 0xC4 (all 4 4) (number (up_to 0x0FFF or only ones) SetVariableSpace)  -- SVI
    ∷ row 0xF0 (all 3 3) font  -- SCFL
    ∷ row 0x74 (all 4 5) (number (colours or only ones) SetTextColor)  -- STC
    ∷ row 0xF6 (all 6 6) orientation  -- STO
    ∷ row 0xF2 (all 3 3) (suppression BeginSuppression)  -- BSU
    ∷ row 0xF4 (all 3 3) (suppression EndSuppression)  -- ESU
    ∷ row 0xE4 (all_but 4 7 5 6) (drawn_rule 0)  -- DIR
    ∷ row 0xE6 (all_but 4 7 5 6) (drawn_rule 1)  -- DBR
    ∷ row 0xDA (all 2 255) transparent  -- TRN
    ∷ row 0xEE (all 4 255) repeated_string  -- RPS
    ∷ row 0xF8 (all 2 255) (ignored NoOperation)  -- NOP
    ∷ []

-- 23: type unknown
abbrev pub row_of : List Row → ℕ → Checked Row
row_of [] code = refuse 23
row_of (r ∷ rs) code = if eqb r.function code then fine r else row_of rs code

-- a type's parameters, read
abbrev pub values_of : ℕ → List ℕ → Checked Element
values_of code p = row_of types code >>= λ r. r.values p
