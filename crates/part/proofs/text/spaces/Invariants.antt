-- `part::text::spaces` meets its contract. The invariant: those so far are counted.
use Rattle.std.proofs.Common.{◌≡◌, ◌≤◌, take}
use Rattle.part.specs.Code.{spaces_in}
use Rattle.part.proofs.text.spaces.Given as goal

abbrev pub invariant-loop-c : goal.invariant-loop-c
invariant-loop-c l = (l.n ≡ spaces_in (take l.c-index l.t)) × (l.n ≤ l.c-index)
