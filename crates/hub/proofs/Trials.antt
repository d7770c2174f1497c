-- The rows of `specs/Trials.antt` hold: computed by the rule book, each is what it says.
use Rattle.std.proofs.Common.{◌≡◌, refl, map}
use Rattle.part.specs.Ranges.{descriptor_fields, state_fields}
use Rattle.part.specs.Types.{types}
use Rattle.part.specs.Reading.{sequence, element, cut_from, cut}
use Rattle.part.specs.Records.{bytes_of, boundaries}
use Rattle.part.specs.Presenting.{moved}
use Rattle.part.specs.Text.{character, characters, cycle}
use Rattle.part.specs.Place.{place_text, place_rule, place}
use Rattle.part.specs.Part.{placed, passed_by, elements_by, admitted, outcome, interpreted, area_after}
use Rattle.hub.specs.Entries.{entry_fields, fresh}
use Rattle.hub.specs.Requests.{may_open, judged, may_submit, may_take, may_close, opening, closing, one_more, one_less, submitting, area_filled, taking, area_left, step, steps, count_open}
use Rattle.hub.specs.Trials.{asked, step_taken, trials}

pub trials-hold : map asked trials ≡ trials
unfolding trials asked step_taken step steps count_open opening closing one_more one_less submitting area_filled taking area_left may_open judged may_submit may_take may_close boundaries entry_fields fresh descriptor_fields state_fields types sequence element cut_from cut bytes_of moved character characters cycle place_text place_rule place placed passed_by elements_by admitted outcome interpreted area_after
trials-hold = refl
