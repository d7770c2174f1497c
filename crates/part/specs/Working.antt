-- What the elements without a record make of the numbers that they change.
-- Offsets count as behind 2B D3, LENGTH and TYPE: the first parameter begins at 4, the one behind two bytes at 6.
use Rattle.std.specs.Prelude.{ℕ, ◌+◌, List, eqb}
use Rattle.part.specs.Numbers.{origin, ones, byte, word}
use Rattle.part.specs.Checks.{Checked, fine, require, require_at, ◌>>=◌, ◌>>◌}
use Rattle.part.specs.States.{point, with_at, with_adjustment}
use Rattle.part.specs.Ranges.{Range, up_to, only, ◌to◌, ◌or◌, ◌∈◌}
use Rattle.part.specs.Presenting.{default, moved}
use Rattle.part.specs.declared.shapes.Descriptor.{Descriptor}
use Rattle.part.specs.declared.shapes.State.{State}

-- AMI, AMB
abbrev pub absolute : List ℕ → Checked ℕ
absolute p = do
  require_at 4 (word 0 p 0 ∈ up_to 0x7FFF) 24
  fine (origin + word 0 p 0)

-- BLN
abbrev pub line : State → Checked State
line s = do
  i ← moved origin s.margin 0
  b ← moved s.at.b s.increment 0
  fine (with_at s (point i b))

-- SIM, SBI, SVI, STC: a number of two bytes in its range, or all ones for the other value
abbrev pub setting : List ℕ → Range → ℕ → Checked ℕ
setting p range other = do
  require_at 4 (word 0 p 0 ∈ range or only ones) 24
  fine (default ones (word 0 p 0) other)

-- SCFL
abbrev pub font_setting : List ℕ → ℕ → Checked ℕ
font_setting p other = do
  require_at 4 (byte 0 p 0 ∈ up_to 0x03 or only 0xFF) 25
  fine (default 0xFF (byte 0 p 0) other)

-- SIA
abbrev pub adjusting : Descriptor → State → List ℕ → Checked State
adjusting d s p = do
  require_at 4 (word 0 p 0 ∈ up_to 0x0FFF or only ones) 24
  require_at 6 (byte 0 p 2 ∈ up_to 0x01 or only 0xFF) 24
  fine (with_adjustment s (default ones (word 0 p 0) d.adjustment) (default 0xFF (byte 0 p 2) d.direction))

-- STO
abbrev pub oriented : List ℕ → Checked Unit
oriented p = do
  require_at 4 (word 0 p 0 ∈ only 0x0000 or only ones) 24
  require_at 6 (word 0 p 2 ∈ only 0x2D00 or only ones) 24

-- BSU, ESU, from the suppression that is open
abbrev pub identified : List ℕ → Checked ℕ
identified p = do
  require_at 4 (byte 0 p 0 ∈ 0x01 to 0x7F) 24
  fine (byte 0 p 0)

abbrev pub beginning : ℕ → List ℕ → Checked ℕ
beginning current p = do
  id ← identified p
  require (eqb current 0) 26
  fine id

abbrev pub ending : ℕ → List ℕ → Checked ℕ
ending current p = do
  id ← identified p
  require (eqb current id) 26
  fine 0
