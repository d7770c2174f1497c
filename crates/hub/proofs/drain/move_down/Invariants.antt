-- `hub::drain::move_down` meets its contract. The invariant: the first k bytes are moved.
use Rattle.std.proofs.Common.{◌≡◌, ◌+◌, ◌-◌, ◌≤◌}
use Rattle.hub.specs.Requests.{moved_down}
use Rattle.hub.proofs.drain.move_down.Given as goal

abbrev pub invariant-loop-k : goal.invariant-loop-k
invariant-loop-k l = record { within : l.k ≤ l.n; moved : l.area ≡ moved_down l.initial.area l.from (l.from + l.k) }

abbrev pub decreases-loop-k : goal.decreases-loop-k
decreases-loop-k l = l.n - l.k
