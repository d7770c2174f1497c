-- `part::record::store_rounds` meets its contract. The invariant: whole rounds, or all of them, are stored.
use Prim.Native.Nat.{◌-◌, ◌%◌, ◌<◌, ◌≤◌}
use Rattle.part.specs.Text.{cycle}
use lib.ListN.{length}
use lib.Seq.{sets}
use mathlib.Core.Path.{◌≡◌}
use Rattle.part.proofs.record.store_rounds.Given as goal

abbrev pub invariant-loop-done : goal.invariant-loop-done
invariant-loop-done l = record {
  begun : length l.text ≤ l.done;
  within : l.done ≤ l.count;
  whole : l.done < l.count → l.done % length l.text ≡ 0;
  stored : l.area ≡ sets l.fn.area l.at (cycle l.text 0 l.done);
}

abbrev pub decreases-loop-done : goal.decreases-loop-done
decreases-loop-done l = l.count - l.done
