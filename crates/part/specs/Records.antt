-- "Record area": what an element leaves to be shown, and the bytes of its record.
use Rattle.std.specs.Prelude.{ℕ, zero, suc, ◌+◌, ◌-◌, ◌*◌, Bool, true, false, not, ◌&&◌, ◌||◌, List, [], ◌∷◌, ◌++◌, length, get_or, take, drop, leb, eqb, if◌then◌else◌}
use Rattle.part.specs.Numbers.{origin, little}
use Rattle.part.specs.Checks.{Checked, fine, require, ◌>>◌}
use Rattle.part.specs.declared.shapes.Point.{Point}

pub record ShownText : Type 0 where
  pub at : Point
  pub font : ℕ
  pub colour : ℕ
  pub adjustment : ℕ
  pub direction : ℕ
  pub space : ℕ
  pub characters : List ℕ

pub record ShownRule : Type 0 where
  pub at : Point
  pub mark : ℕ
  pub colour : ℕ
  pub len : ℕ
  pub width : ℕ

-- A rule of zero length or zero width makes no marks: it has no ink.
abbrev pub ink : ℕ → ℕ → Bool
ink len width = not (eqb len 0) && not (eqb width 0)

pub data Item : Type 0 where
  text_item : ShownText → Item
  rule_item : ShownRule → Item

-- a position, as a signed number of two bytes
abbrev pub place_bytes : Point → List ℕ
place_bytes p = little (p.i + origin) ++ little (p.b + origin)

-- the adjustment, negative for direction 1
abbrev pub adjustment_bytes : ℕ → ℕ → List ℕ
adjustment_bytes amount direction = little (if eqb direction 1 then 65536 - amount else amount)

-- Length of the whole record in two bytes, kind in two, I and B in two each, then what the kind says.
unfoldable pub bytes_of : Item → List ℕ
bytes_of (text_item t) =
    little (16 + length t.characters) ++ little 1 ++ place_bytes t.at
    ++ little t.font ++ little t.colour ++ adjustment_bytes t.adjustment t.direction ++ little t.space ++ t.characters
bytes_of (rule_item r) = little 16 ++ little 2 ++ place_bytes r.at ++ little r.mark ++ little r.colour ++ little r.len ++ little r.width

abbrev pub all_bytes : List Item → List ℕ
all_bytes [] = []
all_bytes (x ∷ xs) = bytes_of x ++ all_bytes xs

-- Records are added at bytes used. A record that would pass 4,096 is 29.
abbrev pub room : ℕ → List Item → Checked ℕ
room used [] = fine used
room used (x ∷ xs) = do
  require (leb (used + length (bytes_of x)) 4096) 29
  room (used + length (bytes_of x)) xs

-- bytes put in place of those from an offset on
abbrev pub spliced : List ℕ → ℕ → List ℕ → List ℕ
spliced area at bytes = take at area ++ bytes ++ drop (at + length bytes) area

-- ---- reading records back

-- two bytes at an offset, the lower first
abbrev pub little_at : List ℕ → ℕ → ℕ
little_at bytes k = get_or bytes k 0 + 256 * get_or bytes (k + 1) 0

-- A whole record is of kind 1 with a length of 16 or more, or of kind 2 with 16, and ends within the bytes lent.
abbrev pub is_whole : List ℕ → Bool
is_whole bytes =
    let n = little_at bytes 0 in
    let kind = little_at bytes 2 in
    (eqb kind 1 && leb 16 n || eqb kind 2 && eqb n 16) && leb n (length bytes)

-- An empty one leaves nothing to draw: a text of no characters, a rule with no ink.
abbrev pub is_empty : List ℕ → Bool
is_empty bytes = if eqb (little_at bytes 2) 1 then eqb (little_at bytes 0) 16 else not (ink (little_at bytes 12) (little_at bytes 14))

-- Boundaries are the start and the places met by stepping over record lengths from it; a length under 16 ends the steps.
-- A place beyond the end isn't met; the end itself is.
abbrev pub boundaries_from : ℕ → ℕ → List ℕ → List ℕ
boundaries_from zero at rest = at ∷ []
boundaries_from (suc most) at rest =
    let n = little_at rest 0 in
    at ∷ elim (leb 16 n && leb n (length rest)) [ true ↦ boundaries_from most (at + n) (drop n rest) | false ↦ [] ]

unfoldable pub boundaries : List ℕ → List ℕ
boundaries bytes = boundaries_from (length bytes) 0 bytes
