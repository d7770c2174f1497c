-- The elements of a part, with their parameters as they stand in it, and each parameter's range: the table's last column.
use Rattle.std.specs.Prelude.{ℕ, Bool, ◌&&◌, ◌||◌, List, length, drop, ltb, if◌then◌else◌}
use Rattle.part.specs.Numbers.{ones, byte, word}
use Rattle.part.specs.Checks.{Checked, fine, require_at, ◌>>◌}
use Rattle.part.specs.Ranges.{Range, up_to, only, ◌to◌, ◌or◌, ◌∈◌}

pub data Element : Type 0 where
  -- a free run, or TRN; and RPS with its count
  Text : List ℕ → Element
  RepeatString : List ℕ → ℕ → Element
  -- AMI, AMB, RMI, RMB, BLN
  AbsoluteMoveInline : ℕ → Element
  AbsoluteMoveBaseline : ℕ → Element
  RelativeMoveInline : ℕ → Element
  RelativeMoveBaseline : ℕ → Element
  BeginLine : Element
  -- SIM, SBI, SIA with its direction, SVI, SCFL, STC, STO
  SetInlineMargin : ℕ → Element
  SetBaselineIncrement : ℕ → Element
  SetIntercharacterAdjustment : ℕ → ℕ → Element
  SetVariableSpace : ℕ → Element
  SetCodedFont : ℕ → Element
  SetTextColor : ℕ → Element
  SetTextOrientation : Element
  -- BSU, ESU
  BeginSuppression : ℕ → Element
  EndSuppression : ℕ → Element
  -- DIR (mark 0) and DBR (mark 1): length and width
  DrawRule : ℕ → ℕ → ℕ → Element
  -- NOP
  NoOperation : Element

-- the parameter that begins at an offset is in its range; else 24, at its first byte. The first one at fault gives the answer.
abbrev pub parameter : ℕ → Bool → Checked Unit
parameter at ok = require_at at ok 24

-- a number of two bytes in its range
abbrev pub number : Range → (ℕ → Element) → List ℕ → Checked Element
number range e p = do
  parameter 0 (word 0 p 0 ∈ range)
  fine (e (word 0 p 0))

-- SIA: 0..0FFF or FFFF; direction 00, 01, FF; absent is 00
abbrev pub adjustment : List ℕ → Checked Element
adjustment p = do
  parameter 0 (word 0 p 0 ∈ up_to 0x0FFF or only ones)
  parameter 2 (byte 0 p 2 ∈ up_to 0x01 or only 0xFF)
  fine (SetIntercharacterAdjustment (word 0 p 0) (byte 0 p 2))

-- SCFL: font 00..03, FF; else 25
abbrev pub font : List ℕ → Checked Element
font p = do
  require_at 0 (byte 0 p 0 ∈ up_to 0x03 or only 0xFF) 25
  fine (SetCodedFont (byte 0 p 0))

-- STO: 0000 or FFFF, then 2D00 or FFFF
abbrev pub orientation : List ℕ → Checked Element
orientation p = do
  parameter 0 (word 0 p 0 ∈ only 0x0000 or only ones)
  parameter 2 (word 0 p 2 ∈ only 0x2D00 or only ones)
  fine SetTextOrientation

-- BSU, ESU: 01..7F
abbrev pub suppression : (ℕ → Element) → List ℕ → Checked Element
suppression e p = do
  parameter 0 (byte 0 p 0 ∈ 0x01 to 0x7F)
  fine (e (byte 0 p 0))

-- DIR, DBR: length 0..7FFF; width 0..00C0 then 00, or FFFFFF; an absent width reads as all ones
abbrev pub rule_width : ℕ → ℕ → Bool
rule_width width fraction = width ∈ up_to 0x00C0 && fraction ∈ only 0x00 || width ∈ only ones && fraction ∈ only 0xFF

abbrev pub drawn_rule : ℕ → List ℕ → Checked Element
drawn_rule mark p = do
  parameter 0 (word 0 p 0 ∈ up_to 0x7FFF)
  parameter 2 (rule_width (word 0xFF p 2) (byte 0xFF p 4))
  fine (DrawRule mark (word 0 p 0) (word 0xFF p 2))

-- RPS: count 0..7FFF, then text; count above 0 with no text is 24, at the count too
abbrev pub repeated_string : List ℕ → Checked Element
repeated_string p = do
  parameter 0 (word 0 p 0 ∈ up_to (if ltb 2 (length p) then 0x7FFF else 0))
  fine (RepeatString (drop 2 p) (word 0 p 0))

-- TRN: text
abbrev pub transparent : List ℕ → Checked Element
transparent p = fine (Text p)

-- BLN: no parameters; NOP: ignored
abbrev pub ignored : Element → List ℕ → Checked Element
ignored e p = fine e
