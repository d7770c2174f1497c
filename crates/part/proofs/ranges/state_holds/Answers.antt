-- `part::ranges::state_holds` meets its contract: test by test, the list of ranges.
use Rattle.part.specs.Ranges.{state_fields}
use Rattle.part.proofs.Fields.{hold-backwards}
use Rattle.part.proofs.ranges.state_holds.Goals as goal

pub returns : goal.returns
unfolding state_fields
returns c = rw c.is_colour.ensures (hold-backwards (state_fields c.args.s))
