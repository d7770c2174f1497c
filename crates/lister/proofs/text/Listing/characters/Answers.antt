-- One behind the other.
use Rattle.std.proofs.Common.{arith, length-append}
use Rattle.lister.proofs.Digits.{hex_short}
use Rattle.lister.proofs.text.Listing.characters.Goals as goal

pub put-requires-2 : goal.put-requires-2
put-requires-2 c = grind (arith, hex_short, length-append)
