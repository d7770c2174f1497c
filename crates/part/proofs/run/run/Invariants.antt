-- `part::run::run` meets its contract: each turn of its loop is one of the laws about a turn.
use Prim.Native.Nat.{◌-◌}
use Rattle.part.proofs.Turns.{Here}
use lib.ListN.{length}
use Rattle.part.proofs.run.run.Given as goal

abbrev pub invariant-loop-at : goal.invariant-loop-at
invariant-loop-at l = Here (length l.initial.area) l.widths l.d l.part l.initial.s l.initial.area l.area l.s l.at l.count

abbrev pub decreases-loop-at : goal.decreases-loop-at
decreases-loop-at l = length l.part - l.at
