-- "Elements of a part": what stands at the start of the bytes that are left, and a part cut into its elements.
-- All numbers count from the element's first byte. The chain is 1 while one is open, else 0.
use Rattle.std.specs.Prelude.{ℕ, zero, suc, ◌+◌, ◌-◌, List, [], ◌∷◌, length, take, drop, leb, eqb, if◌then◌else◌}
use Rattle.part.specs.Numbers.{byte}
use Rattle.part.specs.Checks.{Checked, fine, fault, require, require_at, starting_at, ◌>>=◌, ◌>>◌}
use Rattle.part.specs.Elements.{Element, Text}
use Rattle.part.specs.Types.{function, chaining, types, row_of, ◌takes◌}

-- a whole element, its size, and 1 where it chains the next
pub record Found : Type 0 where
  pub element : Element
  pub size : ℕ
  pub chains : ℕ

abbrev pub found : Element → ℕ → ℕ → Checked Found
found e size chains = fine record { element = e; size = size; chains = chains }

-- the bytes from one offset to before another
abbrev pub between : List ℕ → ℕ → ℕ → List ℕ
between bytes first past = take (past - first) (drop first bytes)

-- The sequence whose LENGTH and TYPE stand at an offset. LENGTH counts itself, TYPE and the parameters.
-- In order: introducer cut 20; LENGTH under 2 22; 23; LENGTH not the type's 22; body cut 20; its values.
-- 20 keeps the element's start; 22 points at LENGTH, 23 at TYPE, a value's fault into the parameters behind them.
unfoldable pub sequence : ℕ → List ℕ → Checked Found
sequence at bytes =
    let n = byte 0 bytes at in
    let type = byte 0 bytes (at + 1) in
    do
      require (leb (at + 2) (length bytes)) 20
      require_at at (leb 2 n) 22
      row ← starting_at (at + 1) (row_of types (function type))
      require_at at (row.lengths takes n) 22
      require (leb (at + n) (length bytes)) 20
      e ← starting_at (at + 2) (row.values (between bytes (at + 2) (at + n)))
      found e (at + n) (chaining type)

-- A free run is a longest stretch of bytes without 2B: how many they are.
abbrev pub stretch : List ℕ → ℕ
stretch [] = 0
stretch (x ∷ xs) = if eqb x 0x2B then 0 else suc (stretch xs)

abbrev pub free_run : List ℕ → Checked Found
free_run bytes = found (Text (take (stretch bytes) bytes)) (stretch bytes) 0

-- A sequence behind 2B D3: 21 if a byte follows 2B and isn't D3, at that byte (where none follows, the introducer is cut).
abbrev pub introduced : List ℕ → Checked Found
introduced bytes = do
  require_at 1 (eqb (byte 0xD3 bytes 1) 0xD3) 21
  sequence 2 bytes

-- A free run while no chain is open. Otherwise a sequence: LENGTH TYPE alone when the one before it had an odd TYPE.
unfoldable pub element : ℕ → List ℕ → Checked Found
element chain bytes =
    if eqb chain 1 then sequence 0 bytes else
    if eqb (byte 0 bytes 0) 0x2B then introduced bytes else
    free_run bytes

-- ---- a part, cut

-- an element of a part: its first offset, and what is found there
pub record Piece : Type 0 where
  pub at : ℕ
  pub what : Checked Found

abbrev pub piece : ℕ → Checked Found → Piece
piece at what = record { at = at; what = what }

-- the elements of what is left from an offset on, up to the first fault; `most` bounds their number
unfoldable pub cut_from : ℕ → ℕ → ℕ → List ℕ → List Piece
cut_from zero at chain rest = []
cut_from (suc most) at chain [] = []
cut_from (suc most) at chain (x ∷ xs) =
    let what = element chain (x ∷ xs) in
    piece at what ∷ elim what [ fine f ↦ cut_from most (at + f.size) f.chains (drop f.size (x ∷ xs)) | fault code k ↦ [] ]

unfoldable pub cut : ℕ → List ℕ → List Piece
cut chain part = cut_from (length part) 0 chain part
