-- What is left to be put are the lines of the rest.
use Rattle.std.proofs.Common.{length}
use Rattle.lister.proofs.Lines.{Left}
use Rattle.lister.proofs.records.put_records.Given as goal

abbrev pub invariant-loop-rest : goal.invariant-loop-rest
invariant-loop-rest l = Left l.initial.out l.bytes l.out l.rest

abbrev pub decreases-loop-rest : goal.decreases-loop-rest
decreases-loop-rest l = length l.rest
