-- A list cut into pairs.
use Rattle.std.proofs.Common.{◌≡◌, ℕ, zero, suc, ◌+◌, ◌*◌, ◌<◌, List, [], get_or, drop, arith}
use Rattle.std.proofs.lemmas.List.{get_or-take, get_or-drop}
use Rattle.std.specs.Simd.{first_chunks}

-- an element of a pair, where it stood
pub in_pair : (n : ℕ) (xs : List ℕ) (i j : ℕ) → i < n → j < 2 → get_or (get_or (first_chunks 2 n xs) i []) j 0 ≡ get_or xs (2 * i + j) 0
in_pair zero xs i j h l = absurd (omega arith)
in_pair (suc n) xs zero j h l = grind (arith, get_or-take 2 xs j 0 l)
in_pair (suc n) xs (suc i) j h l = grind (arith, in_pair n (drop 2 xs) i j (omega arith) l, get_or-drop 2 xs (2 * i + j) 0)
