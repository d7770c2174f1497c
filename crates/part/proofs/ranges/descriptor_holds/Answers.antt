-- `part::ranges::descriptor_holds` meets its contract: test by test, the list of ranges.
use Rattle.part.specs.Ranges.{descriptor_fields}
use Rattle.part.proofs.Fields.{hold-backwards}
use Rattle.part.proofs.ranges.descriptor_holds.Goals as goal

pub returns : goal.returns
unfolding descriptor_fields
returns c = rw (c.is_size.ensures, c.is_size-2.ensures, c.is_colour.ensures) (hold-backwards (descriptor_fields c.args.d))
