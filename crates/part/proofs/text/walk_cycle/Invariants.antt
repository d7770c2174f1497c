-- `part::text::walk_cycle` meets its contract. The invariant: the rounds that are left and a last part of one end, from i, as all characters do from the start.
use Rattle.std.proofs.Common.{◌≡◌, ◌-◌, ◌/◌, ◌%◌, ◌++◌, length, take}
use Rattle.part.specs.Text.{cycle}
use Rattle.part.specs.Code.{walked}
use Rattle.part.proofs.Cycles.{times}
use Rattle.part.proofs.text.walk_cycle.Given as goal

abbrev pub invariant-loop : goal.invariant-loop
invariant-loop l = walked l.row l.l l.i (times l.t (l.count / length l.t - l.counter) ++ take (l.count % length l.t) l.t) ≡ walked l.row l.l l.start (cycle l.t 0 l.count)
