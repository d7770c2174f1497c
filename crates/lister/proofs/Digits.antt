-- What is printed of a number of two bytes is its numeral; and how long the texts are at most.
-- Assumes nothing.
use Rattle.std.proofs.Common.{◌≡◌, ℕ, zero, suc, ◌*◌, ◌/◌, ◌≤◌, ◌<◌, List, ◌∷◌, length, take, arith, rules, length-append, length-take-le}
use Rattle.std.specs.Prelude.{ℤ, pos, negsuc, FitsSigned}
use Rattle.std.specs.Int.{w16}
use Rattle.std.specs.Fmt.{decimal, signed_decimal}
use Rattle.std.proofs.lemmas.Fmt.{AppendsLastDigit, decimal_from_appends, length-decimal-le}
use Rattle.std.proofs.lemmas.Int.{ints}
use Rattle.lister.specs.Lines.{digits, space, numeral, numbers, hex_byte, hex_bytes}
use Rattle.lister.specs.Code.{plus_middle}
use Rattle.lister.specs.declared.text.Number.TheVariants.{Plain, Signed}
use Rattle.lister.proofs.Each.{each_short}

from_the_last : AppendsLastDigit digits
unfolding digits
from_the_last = search rules

five : (n : ℕ) → n < 65536 → digits 5 n ≡ decimal n
five n h = decimal_from_appends digits from_the_last 5 n (omega arith) (length-decimal-le 5 n (omega arith) (omega arith) (omega arith))

pub plain_printed : (n : ℕ) → n < 65536 → decimal n ≡ numeral (plus_middle (Plain n))
plain_printed n h = grind (arith, five)

pub signed_printed : (z : ℤ) → FitsSigned w16 z → signed_decimal z ≡ numeral (plus_middle (Signed z))
signed_printed (pos n) h = plain_printed n (omega (arith, ints))
signed_printed (negsuc n) h = let few : suc n < 65536 = omega (arith, ints) in grind (arith, five)

at_most : (most n : ℕ) → length (digits most n) ≤ most
unfolding digits
at_most zero n = omega arith
at_most (suc most) n = let h = at_most most (n / 10) in grind (arith, length-append)

-- a minus and five digits
pub number_short : (kept : ℕ) → length (numeral kept) ≤ 6
number_short kept = grind (arith, at_most)

pub numbers_short : (ns : List ℕ) → length (numbers ns) ≤ 7 * length ns
numbers_short ns = each_short (λ n. space ∷ numeral n) 7 (λ n. let h = number_short n in omega arith) ns

-- the first some of them
pub numbers_some : (ns : List ℕ) (i : ℕ) → i ≤ length ns → length (numbers (take i ns)) ≤ 7 * i
numbers_some ns i within = let few = numbers_short (take i ns) in let all = length-take-le i ns within in omega arith

pub hex_short : (bytes : List ℕ) → length (hex_bytes bytes) ≤ 2 * length bytes
hex_short bytes = each_short hex_byte 2 (λ n. omega arith) bytes
