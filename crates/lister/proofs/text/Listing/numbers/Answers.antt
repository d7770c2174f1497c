-- One more: a space and it.
use Rattle.std.proofs.Common.{◌≡◌, ℕ, ◌+◌, ◌<◌, List, ◌∷◌, ◌++◌, length, map, take, get_or, arith, subst}
use Rattle.std.proofs.lemmas.List.{length-map, get_or-map}
use Rattle.lister.specs.Lines.{space, numeral, numbers, each}
use Rattle.lister.specs.Code.{plus_middle, Grown}
use Rattle.lister.specs.declared.text.Number.{Number}
use Rattle.lister.proofs.Each.{each_next}
use Rattle.lister.proofs.Digits.{numbers_some}
use Rattle.lister.proofs.Grown.{unchanged, grown_by_both}
use Rattle.lister.proofs.text.Listing.numbers.Goals as goal

one_more : (ns : List Number) (i : ℕ) (d : Number) → i < length ns
    → numbers (take i (map plus_middle ns)) ++ (space ∷ numeral (plus_middle (get_or ns i d))) ≡ numbers (take (i + 1) (map plus_middle ns))
one_more ns i d h = grind (arith, each_next, get_or-map, length-map)

pub loop-n-init : goal.loop-n-init
unfolding each
loop-n-init c = unchanged c.args.self.now

pub put-requires : goal.put-requires
put-requires c = grind (arith, numbers_some, length-map)

pub number-requires : goal.number-requires
number-requires c = grind (arith, numbers_some, length-map)

pub loop-n-preserved : goal.loop-n-preserved
loop-n-preserved c = subst (Grown _ _) (one_more _ _ _ c.loop-n-test.true) (grown_by_both c.loop-n.invariant (grown_by_both c.put.ensures c.number.ensures))
