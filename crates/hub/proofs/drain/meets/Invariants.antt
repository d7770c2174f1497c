-- `hub::drain::meets` meets its contract. The invariant: the place is met just when it is from here on.
use Prim.Native.Nat.{ℕ, ◌-◌, ◌≤◌}
use Rattle.hub.specs.Requests.{is_one_of}
use Rattle.part.specs.Records.{boundaries_from, boundaries}
use lib.ListN.{length, drop}
use mathlib.Core.Path.{◌≡◌}
use Rattle.hub.proofs.drain.meets.Given as goal

abbrev pub invariant-loop-at : goal.invariant-loop-at
invariant-loop-at l = (l.at ≤ length l.bytes) × ((most : ℕ) × ((length l.bytes - l.at ≤ most) × (is_one_of l.place (boundaries l.bytes) ≡ is_one_of l.place (boundaries_from most l.at (drop l.at l.bytes)))))

abbrev pub decreases-loop-at : goal.decreases-loop-at
decreases-loop-at l = length l.bytes - l.at
