-- One behind the other.
use Rattle.std.proofs.Common.{arith, length-append}
use Rattle.std.proofs.lemmas.List.{length-map}
use Rattle.lister.proofs.Digits.{numbers_short}
use Rattle.lister.proofs.text.Listing.line.Goals as goal

pub put-requires : goal.put-requires
put-requires c = grind (arith, numbers_short, length-map, length-append)
