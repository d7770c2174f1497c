-- The rows of `specs/Sheets.antt` hold: computed by the rule book, each is what it says.
use Rattle.std.proofs.Common.{◌≡◌, refl, map}
use Rattle.part.specs.Ranges.{descriptor_fields, state_fields}
use Rattle.part.specs.Types.{types}
use Rattle.part.specs.Reading.{sequence, element, cut_from, cut}
use Rattle.part.specs.Records.{bytes_of, boundaries}
use Rattle.part.specs.Presenting.{moved}
use Rattle.part.specs.Text.{character, characters, cycle}
use Rattle.part.specs.Place.{place_text, place_rule, place}
use Rattle.part.specs.Part.{placed, passed_by, elements_by, admitted, outcome, interpreted, area_after}
use Rattle.part.specs.Sheets.{computed, further, kept, lain, lyings, read_again, read_back, sheets, tried, wholly}

pub sheets-hold : map computed sheets ≡ map kept sheets
unfolding sheets computed descriptor_fields state_fields types sequence element cut_from cut bytes_of moved character characters cycle place_text place_rule place placed passed_by elements_by admitted outcome interpreted area_after
sheets-hold = refl

pub further-hold : map tried further ≡ further
unfolding further tried wholly descriptor_fields state_fields types sequence element cut_from cut bytes_of moved character characters cycle place_text place_rule place placed passed_by elements_by admitted outcome interpreted area_after
further-hold = refl

pub read_back_hold : map read_again read_back ≡ read_back
unfolding read_back boundaries
read_back_hold = refl

pub lyings-hold : map lain lyings ≡ lyings
unfolding lyings
lyings-hold = refl
