-- The first of them are put.
use Rattle.std.proofs.Common.{map, take}
use Rattle.lister.specs.Lines.{numbers}
use Rattle.lister.specs.Code.{plus_middle, Grown}
use Rattle.lister.proofs.text.Listing.numbers.Given as goal

abbrev pub invariant-loop-n : goal.invariant-loop-n
invariant-loop-n l = Grown l.initial.self l.self (numbers (take l.n-index (map plus_middle l.ns)))
