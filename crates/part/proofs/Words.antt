-- The bytes of a number, the lower first: those of its lower part, and behind them those of its upper.
-- Assumes nothing.
use Prim.Native.Nat.{ℕ, zero, suc, ◌+◌, ◌*◌, ◌/◌, ◌%◌, ◌^◌, ◌<◌}
use mathlib.Core.Path.{◌≡◌, ◌∙◌, ap}
use mathlib.Core.List.{List, [], ◌∷◌, ◌++◌}
use native.Mathlib.Omega.{arith}
use native.Mathlib.Nat.{zero-add, suc-add, one-mul, pow-zero, pow-succ', mul_assoc}

-- so many bytes of a number
abbrev pub low_first : ℕ → ℕ → List ℕ
low_first zero v = []
low_first (suc n) v = v % 256 ∷ low_first n (v / 256)

-- of a number put together
together : (m n a b : ℕ) → a < 256 ^ m → low_first (m + n) (a + 256 ^ m * b) ≡ low_first m a ++ low_first n b
together zero n a b h =
    let none : a ≡ 0 = omega (arith, pow-zero 256) in
    rw (none, zero-add, pow-zero, one-mul, zero-add)
together (suc m) n a b h =
    let q = 256 ^ m * b in
    let outer : 256 ^ suc m * b ≡ 256 * q = ap (λ p. p * b) (pow-succ' 256 m) ∙ mul_assoc 256 (256 ^ m) b in
    let low : (a + 256 * q) % 256 ≡ a % 256 = omega arith in
    let high : (a + 256 * q) / 256 ≡ a / 256 + q = omega arith in
    let less : a / 256 < 256 ^ m = omega (arith, pow-succ' 256 m) in
    rw (suc-add, outer, low, high) (ap (λ l. a % 256 ∷ l) (together m n (a / 256) b less))

-- of a number put together of two whose bytes are known
pub made_of : (m n a b : ℕ) (xs ys : List ℕ) → a < 256 ^ m → low_first m a ≡ xs → low_first n b ≡ ys → low_first (m + n) (a + 256 ^ m * b) ≡ xs ++ ys
made_of m n a b xs ys h f g = together m n a b h ∙ ap (λ l. l ++ low_first n b) f ∙ ap (λ l. xs ++ l) g
