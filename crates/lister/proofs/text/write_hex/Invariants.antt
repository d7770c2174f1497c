-- The digits of the first of them are put.
use Rattle.std.proofs.Common.{◌≡◌, ◌*◌, length, take}
use Rattle.lister.specs.Lines.{hex_bytes}
use Rattle.lister.proofs.text.write_hex.Given as goal

abbrev pub invariant-loop-i : goal.invariant-loop-i
invariant-loop-i l = (length l.out ≡ 2 * length l.bytes) × (take (2 * l.i) l.out ≡ hex_bytes (take l.i l.bytes))
