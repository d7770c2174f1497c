-- "The listing program": what it prints for the bytes that it has read.
use Rattle.std.specs.Prelude.{ℕ, zero, suc, ◌+◌, ◌≡◌, refl, List, [], ◌∷◌, ◌++◌, true, false, length, take, drop, replicate, if◌then◌else◌, ltb, eqb}
use Rattle.part.specs.Numbers.{origin}
use Rattle.part.specs.Records.{bytes_of, little_at, is_whole}
use Rattle.part.specs.Part.{placed, passed_by, elements_by, admitted, outcome, interpreted, area_after}
use Rattle.part.specs.Ranges.{descriptor_fields, state_fields}
use Rattle.part.specs.Types.{types}
use Rattle.part.specs.Reading.{sequence, element, cut_from, cut}
use Rattle.part.specs.Presenting.{moved}
use Rattle.part.specs.Text.{character, characters, cycle}
use Rattle.part.specs.Place.{place_text, place_rule, place}
use Rattle.part.specs.Sheets.{lined, begun, hex}
use Rattle.part.specs.declared.shapes.Interpreted.{Interpreted}
use Rattle.lister.specs.Lines.{digits, middle, each, numbers, line_of, characters_in_hex}

-- ---- the words, in ASCII

abbrev pub «PART» : List ℕ
«PART» = 0x50 ∷ 0x41 ∷ 0x52 ∷ 0x54 ∷ []

abbrev pub «T» : List ℕ
«T» = 0x54 ∷ []

abbrev pub «R» : List ℕ
«R» = 0x52 ∷ []

abbrev pub «END» : List ℕ
«END» = 0x45 ∷ 0x4E ∷ 0x44 ∷ []

abbrev pub «REFUSED» : List ℕ
«REFUSED» = 0x52 ∷ 0x45 ∷ 0x46 ∷ 0x55 ∷ 0x53 ∷ 0x45 ∷ 0x44 ∷ []

-- ---- numbers, kept plus `middle`

abbrev pub plain : ℕ → ℕ
plain n = n + middle

-- a position of a state, which is kept plus `origin`
abbrev pub position : ℕ → ℕ
position p = p + origin

-- two bytes of a record, without and with a sign
abbrev pub plain_at : List ℕ → ℕ → ℕ
plain_at r k = plain (little_at r k)

abbrev pub signed_at : List ℕ → ℕ → ℕ
signed_at r k = let v = little_at r k in if ltb v 32768 then plain v else v

-- ---- a record's line

-- T: I, B, font, colour, adjustment, variable space, characters in capital hex.
abbrev pub text_numbers : List ℕ → List ℕ
text_numbers r = signed_at r 4 ∷ signed_at r 6 ∷ plain_at r 8 ∷ plain_at r 10 ∷ signed_at r 12 ∷ plain_at r 14 ∷ []

abbrev pub text_line : List ℕ → List ℕ
text_line r = («T» ++ numbers (text_numbers r)) ++ characters_in_hex (drop 16 r)

-- R, for a rule: I, B, 0 or 1, colour, length, width.
abbrev pub rule_numbers : List ℕ → List ℕ
rule_numbers r = signed_at r 4 ∷ signed_at r 6 ∷ plain_at r 8 ∷ plain_at r 10 ∷ plain_at r 12 ∷ plain_at r 14 ∷ []

abbrev pub rule_line : List ℕ → List ℕ
rule_line r = line_of «R» (rule_numbers r)

abbrev pub record_line : List ℕ → List ℕ
record_line r = if eqb (little_at r 2) 1 then text_line r else rule_line r

-- The lines of some records, one after the other, as long as they are whole. A record has 16 bytes at least, so an area has 256 at most.
unfoldable pub record_lines : ℕ → List ℕ → List ℕ
record_lines zero bytes = []
record_lines (suc most) bytes =
    elim (is_whole bytes) [
      | true ↦ record_line (take (little_at bytes 0) bytes) ++ record_lines most (drop (little_at bytes 0) bytes)
      | false ↦ []
    ]

-- ---- the listing

-- END: final I and B, elements, record bytes.
abbrev pub end_line : Interpreted → List ℕ
end_line r = line_of «END» (position r.state.at.i ∷ position r.state.at.b ∷ plain r.answer.first ∷ plain r.answer.second ∷ [])

-- A refusal prints after PART only REFUSED, code, offset (0 for 19).
abbrev pub refused_line : Interpreted → List ℕ
refused_line r = line_of «REFUSED» (plain r.answer.code ∷ plain r.answer.first ∷ [])

-- PART gives bytes read.
abbrev pub part_line : ℕ → List ℕ
part_line n = line_of «PART» (plain n ∷ [])

unfoldable pub outcome_lines : Interpreted → List ℕ → List ℕ
outcome_lines r area = if eqb r.answer.code 0 then record_lines 256 (take r.state.used area) ++ end_line r else refused_line r

-- with the descriptor and widths of "Sheets to try", but for the increment, a fresh job and a zeroed area
unfoldable pub listing : ℕ → List ℕ → List ℕ
listing increment part =
    let widths : List ℕ = replicate 1024 144 in
    let area : List ℕ = replicate 4096 0 in
    part_line (length part)
    ++ outcome_lines (interpreted widths (lined increment) (begun increment) part area) (area_after widths (lined increment) (begun increment) part area)

-- ---- the paper's example, at 240: 2BD304C702D004D201E0C1C2

-- PART 12 / T 720 480 0 65287 0 65535 C1C2 / END 1008 480 3 18
abbrev pub example : List ℕ
example =
    hex 0x504152542031320A
    ++ hex 0x5420373230203438302030 ++ hex 0x2036353238372030203635353335 ++ hex 0x20433143320A
    ++ hex 0x454E44203130303820343830 ++ hex 0x20332031380A

pub example_holds : listing 240 (hex 0x2BD304C702D004D201E0C1C2) ≡ example
unfolding listing outcome_lines record_lines each digits descriptor_fields state_fields types sequence element cut_from cut bytes_of moved character characters cycle place_text place_rule place placed passed_by elements_by admitted outcome interpreted area_after
example_holds = refl

-- ---- eight lines to the inch: the second line of C12BD302D8C2 is 180 below the first

-- PART 6 / T 0 0 0 65287 0 65535 C1 / T 0 180 0 65287 0 65535 C2 / END 144 180 3 34
abbrev pub two_lines : List ℕ
two_lines =
    hex 0x5041525420360A
    ++ hex 0x5420302030203020363532383720302036353533352043310A
    ++ hex 0x54203020313830203020363532383720302036353533352043320A
    ++ hex 0x454E442031343420313830203320 ++ hex 0x33340A

pub two_lines_hold : listing 180 (hex 0xC12BD302D8C2) ≡ two_lines
unfolding listing outcome_lines record_lines each digits descriptor_fields state_fields types sequence element cut_from cut bytes_of moved character characters cycle place_text place_rule place placed passed_by elements_by admitted outcome interpreted area_after
two_lines_hold = refl
