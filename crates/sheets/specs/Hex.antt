-- Bytes in capital hexadecimal. Assumes nothing.
use Rattle.std.specs.Prelude.{ℕ, ◌+◌, ◌-◌, ◌*◌, ◌<◌, ◌≡◌, List, get_or, if◌then◌else◌, ltb, leb}

-- the number of a digit; of any other character 0
unfoldable pub digit_of : ℕ → ℕ
digit_of c =
    if ltb c 48 then 0
    else if leb c 57 then c - 48
    else if ltb c 65 then 0
    else if leb c 70 then c - 65 + 10
    else 0

-- byte k of a text, by its digits 2k and 2k + 1
abbrev pub byte_of : List ℕ → ℕ → ℕ
byte_of hex k = digit_of (get_or hex (2 * k) 0) * 16 + digit_of (get_or hex (2 * k + 1) 0)

-- from `at` on stand the first bytes of a text
abbrev pub Spelled : List ℕ → ℕ → ℕ → List ℕ → Type 0
Spelled hex at count out = (k : ℕ) → k < count → get_or out (at + k) 0 ≡ byte_of hex k
