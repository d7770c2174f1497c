-- `part::text::walk` meets its contract. The invariant: the characters that are left end, from i, as all do from the start.
use Rattle.std.proofs.Common.{◌≡◌, drop}
use Rattle.part.specs.Code.{walked}
use Rattle.part.proofs.text.walk.Given as goal

abbrev pub invariant-loop-c : goal.invariant-loop-c
invariant-loop-c l = walked l.row l.l l.i (drop l.c-index l.t) ≡ walked l.row l.l l.start l.t
