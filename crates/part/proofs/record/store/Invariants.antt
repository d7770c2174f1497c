-- `part::record::store` meets its contract. The invariant: the first bytes are stored.
use Rattle.std.proofs.Common.{◌≡◌, ◌*◌, take}
use Rattle.std.proofs.lemmas.List.Edits.{sets}
use Rattle.part.proofs.record.store.Given as goal

abbrev pub invariant-loop-k : goal.invariant-loop-k
invariant-loop-k l = l.area ≡ sets l.initial.area l.at (take l.k l.bytes)

abbrev pub invariant-loop-i : goal.invariant-loop-i
invariant-loop-i l = l.area ≡ sets l.initial.area l.at (take (16 * l.i) l.bytes)
