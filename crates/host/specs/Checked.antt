-- "The C host checks one part alone with the same descriptor and widths, by numbers and byte slices, and gets the code."
use Rattle.std.specs.Prelude.{ℕ, List, replicate, ltb, if◌then◌else◌}
use Rattle.part.specs.Part.{interpreted}
use Rattle.part.specs.Sheets.{lined, begun}

-- "a second host entry that takes the increment": "Above 32,767 the entry answers 15."
abbrev pub checked_at : ℕ → List ℕ → ℕ
checked_at increment part =
    if ltb 32767 increment then 15
    else (interpreted (replicate 1024 144) (lined increment) (begun increment) part (replicate 4096 0)).answer.code

-- "180 units a line"
abbrev pub checked : List ℕ → ℕ
checked = checked_at 180
