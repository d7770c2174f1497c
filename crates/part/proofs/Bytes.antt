-- Bytes of a list: one that is there, and all from an offset on.
-- Assumes nothing.
use Prim.Native.Nat.{ℕ, ◌-◌, ◌<◌}
use mathlib.Core.Path.{◌≡◌}
use mathlib.Core.List.{List}
use native.Mathlib.Omega.{arith}
use lib.ListN.{length, take, drop, get_or, length-drop}
use lib.Seq.{take_all, drop-cons}

-- a byte that is there, whatever a missing one counts as
pub there : (xs : List ℕ) (k a b : ℕ) → k < length xs → get_or xs k a ≡ get_or xs k b
there xs k a b h = cc (drop-cons xs k a h, drop-cons xs k b h)

-- all bytes from an offset on, as the code cuts them
pub tail_of : (l : List ℕ) (k : ℕ) → take (length l - k) (drop k l) ≡ drop k l
tail_of l k = take_all (length l - k) (drop k l) (omega (arith, length-drop k l))
