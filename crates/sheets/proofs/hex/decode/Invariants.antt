-- Of each pair so far the byte stands behind what was there, and there was room for it.
use Rattle.std.proofs.Common.{◌≡◌, ◌+◌, ◌-◌, ◌≤◌, take}
use Rattle.arrayvec.specs.ArrayVec.{array_vec_len}
use Rattle.sheets.specs.Hex.{Spelled}
use Rattle.sheets.proofs.hex.decode.Given as goal

abbrev pub invariant-loop-high : goal.invariant-loop-high
invariant-loop-high g l =
    record {
      kept : take (array_vec_len l.fn.out) l.out.items ≡ l.fn.out.items;
      end : array_vec_len l.out ≡ array_vec_len l.fn.out + l.high-index;
      room : l.high-index ≤ g.row.CAP - array_vec_len l.fn.out;
      spelled : Spelled l.hex (array_vec_len l.fn.out) l.high-index l.out.items;
    }
