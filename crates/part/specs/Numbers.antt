-- Numbers. Big-endian in sequences, little-endian in records; a position is kept as its number plus `origin`.
use Rattle.std.specs.Prelude.{ℕ, ◌+◌, ◌*◌, ◌/◌, ◌%◌, List, [], ◌∷◌, get_or}

-- 0 stands for -32,768, and `last` for 32,767
abbrev pub origin : ℕ
origin = 32768

abbrev pub last : ℕ
last = 65535

-- all ones, in two bytes: the descriptor's value, or none
abbrev pub ones : ℕ
ones = 0xFFFF

-- a byte of some parameters, where a missing one counts as `absent`; and two of them, the higher first
abbrev pub byte : ℕ → List ℕ → ℕ → ℕ
byte absent bytes k = get_or bytes k absent

abbrev pub word : ℕ → List ℕ → ℕ → ℕ
word absent bytes k = byte absent bytes k * 256 + byte absent bytes (k + 1)

-- two bytes, the lower first
abbrev pub little : ℕ → List ℕ
little n = n % 256 ∷ n / 256 % 256 ∷ []

-- a signed number of 16 bits, plus `origin`
abbrev pub signed : ℕ → ℕ
signed v = (v + origin) % 65536
