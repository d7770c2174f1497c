-- "Increments to try": document 01's rows of one part alone through `checked_at` at 240, as wish 1 asks, and more rows, for what those do not show.
use Rattle.std.specs.Prelude.{ℕ, zero, suc, ◌≡◌, refl, Bool, ◌&&◌, List, [], ◌∷◌, ◌++◌, map, replicate, length, eqb, if◌then◌else◌}
use Rattle.part.specs.Ranges.{descriptor_fields, state_fields}
use Rattle.part.specs.Types.{types}
use Rattle.part.specs.Reading.{sequence, element, cut_from, cut}
use Rattle.part.specs.Records.{bytes_of}
use Rattle.part.specs.Presenting.{moved}
use Rattle.part.specs.Text.{character, characters, cycle}
use Rattle.part.specs.Place.{place_text, place_rule, place}
use Rattle.part.specs.Part.{placed, passed_by, elements_by, admitted, outcome, interpreted, area_after}
use Rattle.part.specs.Sheets.{Sheet, sheets, hex}
use Rattle.host.specs.Checked.{checked_at, checked}

-- ---- document 01's rows

-- one part alone, with every character 144 wide
abbrev pub is_alone : Sheet → Bool
is_alone s = eqb (length s.earlier) 0 && eqb s.width 144

unfoldable pub parts_alone : List Sheet → List Sheet
parts_alone [] = []
parts_alone (s ∷ ss) = if is_alone s then s ∷ parts_alone ss else parts_alone ss

abbrev pub row_code : Sheet → ℕ
row_code s = s.answer.code

abbrev pub check_code : Sheet → ℕ
check_code s = checked_at 240 s.part

pub sheets_check : map check_code (parts_alone sheets) ≡ map row_code (parts_alone sheets)
unfolding sheets parts_alone descriptor_fields state_fields types sequence element cut_from cut bytes_of moved character characters cycle place_text place_rule place placed passed_by elements_by admitted outcome interpreted area_after
sheets_check = refl

-- ---- more rows

-- an increment, a part and its code; or a part and its code at the increment of the first entry
pub data Checking : Type 0 where
  at : ℕ → List ℕ → ℕ → Checking
  plainly : List ℕ → ℕ → Checking

abbrev pub repeated : ℕ → List ℕ → List ℕ
repeated zero bytes = []
repeated (suc times) bytes = bytes ++ repeated times bytes

-- some lines down, and a character there
abbrev pub below : ℕ → List ℕ
below lines = repeated lines (hex 0x2BD302D8) ++ hex 0xC1

unfoldable pub increments : List Checking
increments =
    -- eight lines to the inch: 88 of them are as far down as the sheet goes, and of six 66
    plainly (below 88) 0
    ∷ plainly (below 89) 27
    ∷ at 180 (below 88) 0
    ∷ at 180 (below 89) 27
    ∷ at 240 (below 66) 0
    ∷ at 240 (below 67) 27
    -- and 182 are as far down as positions go
    ∷ plainly (repeated 182 (hex 0x2BD302D8)) 0
    ∷ plainly (repeated 183 (hex 0x2BD302D8)) 28
    -- SBI of all ones goes back to it
    ∷ plainly (hex 0x2BD304D015362BD304D0FFFF ++ below 88) 0
    ∷ plainly (hex 0x2BD304D015362BD304D0FFFF ++ below 89) 27
    -- characters are 144 wide, and there is room for 256 rules
    ∷ plainly (hex 0x2BD304C62F40C1) 0
    ∷ plainly (hex 0x2BD304C62F41C1) 27
    ∷ plainly (repeated 256 (hex 0x2BD304E405A0)) 0
    ∷ plainly (repeated 257 (hex 0x2BD304E405A0)) 29
    -- 0 and 32,767 are increments
    ∷ at 0 (below 300) 0
    ∷ at 32767 (hex 0x2BD302D8) 0
    ∷ at 32767 (below 1) 27
    ∷ at 32767 (repeated 2 (hex 0x2BD302D8)) 28
    -- above it, whatever the part
    ∷ at 32768 (hex 0x2BD302D8) 15
    ∷ at 32768 [] 15
    ∷ at 65716 (below 1) 15
    ∷ at 4294967295 (hex 0x2B) 15
    -- 15 before 19
    ∷ at 32768 (replicate 8193 0x40) 15
    ∷ at 32767 (replicate 8193 0x40) 19
    ∷ plainly (replicate 8193 0x40) 19
    ∷ []

-- a row as the definitions have it
abbrev pub checked_again : Checking → Checking
checked_again (at increment part code) = at increment part (checked_at increment part)
checked_again (plainly part code) = plainly part (checked part)

pub increments-hold : map checked_again increments ≡ increments
unfolding increments descriptor_fields state_fields types sequence element cut_from cut bytes_of moved character characters cycle place_text place_rule place placed passed_by elements_by admitted outcome interpreted area_after
increments-hold = refl
