-- Lines of text, in ASCII: a word, then numbers with a space before each; and bytes in capital hexadecimal.
use Rattle.std.specs.Prelude.{ℕ, zero, suc, ◌+◌, ◌-◌, ◌/◌, ◌%◌, List, [], ◌∷◌, ◌++◌, if◌then◌else◌, ltb}

abbrev pub space : ℕ
space = 0x20

abbrev pub minus_sign : ℕ
minus_sign = 0x2D

abbrev pub newline : List ℕ
newline = 0x0A ∷ []

-- the digits of a number, the first not 0 unless it is the only one; of more digits than `most`, the last ones
unfoldable pub digits : ℕ → ℕ → List ℕ
digits zero n = []
digits (suc most) n = (if ltb n 10 then [] else digits most (n / 10)) ++ ((0x30 + n % 10) ∷ [])

-- A number that may be negative is kept plus `middle`. All numbers of a listing are between -65,536 and 65,535, and so have five digits at most.
abbrev pub middle : ℕ
middle = 65536

abbrev pub numeral : ℕ → List ℕ
numeral kept = if ltb kept middle then minus_sign ∷ digits 5 (middle - kept) else digits 5 (kept - middle)

-- the texts of some numbers, one behind the other
unfoldable pub each : (ℕ → List ℕ) → List ℕ → List ℕ
each text [] = []
each text (n ∷ ns) = text n ++ each text ns

-- a space before each
abbrev pub numbers : List ℕ → List ℕ
numbers = each (λ n. space ∷ numeral n)

abbrev pub hex_digit : ℕ → ℕ
hex_digit n = if ltb n 10 then 0x30 + n else 0x37 + n

-- two digits for each byte
abbrev pub hex_byte : ℕ → List ℕ
hex_byte b = hex_digit (b / 16) ∷ hex_digit (b % 16) ∷ []

abbrev pub hex_bytes : List ℕ → List ℕ
hex_bytes = each hex_byte

-- a word and numbers, and the end of the line
abbrev pub line_of : List ℕ → List ℕ → List ℕ
line_of word ns = (word ++ numbers ns) ++ newline

-- characters behind a space, in hexadecimal, and the end of the line
abbrev pub characters_in_hex : List ℕ → List ℕ
characters_in_hex bytes = ((space ∷ []) ++ hex_bytes bytes) ++ newline
