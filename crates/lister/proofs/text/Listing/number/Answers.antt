-- What is printed of two bytes, without or with a sign.
use Rattle.std.proofs.Common.{arith}
use Rattle.lister.proofs.Digits.{plain_printed, signed_printed}
use Rattle.lister.proofs.text.Listing.number.Goals as goal

pub returns-in-Plain : goal.returns-in-Plain
returns-in-Plain c = grind (arith, plain_printed)

pub returns-in-Signed : goal.returns-in-Signed
returns-in-Signed c = grind (arith, signed_printed)
