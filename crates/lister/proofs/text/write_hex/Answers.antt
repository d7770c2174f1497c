-- One more: its two digits.
use Rattle.std.proofs.Common.{◌≡◌, ℕ, ◌+◌, ◌<◌, List, [], ◌∷◌, ◌++◌, length, take, arith, append_assoc, length-set, take_all}
use Rattle.std.proofs.Math.ListN.{set}
use Rattle.std.proofs.lemmas.Grind.{take-set_at}
use Rattle.lister.specs.Lines.{each}
use Rattle.lister.proofs.Each.{each_next}
use Rattle.lister.proofs.text.write_hex.Goals as goal

two_set : (xs : List ℕ) (i n a b : ℕ) → n ≡ i + 2 → i + 1 < length xs → take n (set (set xs i a) (i + 1) b) ≡ take i xs ++ (a ∷ b ∷ [])
two_set xs i n a b is h =
    let one = take-set_at xs i (i + 1) a (omega arith) (omega arith) in
    let two = take-set_at (set xs i a) (i + 1) n b (omega arith) (omega (arith, length-set xs i a)) in
    let both = append_assoc (take i xs) (a ∷ []) (b ∷ []) in
    cc

pub loop-i-init : goal.loop-i-init
unfolding each
loop-i-init c = grind arith

pub loop-i-preserved : goal.loop-i-preserved
loop-i-preserved c = grind (arith, each_next, two_set, length-set)

pub returns : goal.returns
returns c = grind (arith, take_all)
