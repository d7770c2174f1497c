-- "Presenting": what lies on the sheet, what is hidden, and the range of positions.
use Rattle.std.specs.Prelude.{ℕ, ◌+◌, ◌-◌, Bool, not, ◌&&◌, leb, eqb, if◌then◌else◌}
use Rattle.part.specs.Numbers.{origin, last}
use Rattle.part.specs.Checks.{Checked, fine, require, ◌>>◌}
use Rattle.part.specs.declared.shapes.Point.{Point}
use Rattle.part.specs.declared.shapes.Descriptor.{Descriptor}
use Rattle.part.specs.declared.shapes.State.{State}

-- All ones means the descriptor's value.
abbrev pub default : ℕ → ℕ → ℕ → ℕ
default all v other = if eqb v all then other else v

-- a number moved forth and back; beyond the entry's range it is 28
unfoldable pub moved : ℕ → ℕ → ℕ → Checked ℕ
moved n forth back = do
  require (leb back (n + forth) && leb (n + forth) (last + back)) 28
  fine (n + forth - back)

-- what starts at a place and reaches so far along I and along B lies in 0..size I, 0..size B
abbrev pub on_sheet : Descriptor → Point → ℕ → ℕ → Bool
on_sheet d p along down =
    leb origin p.i && leb (p.i + along) (origin + d.size.i) && leb origin p.b && leb (p.b + down) (origin + d.size.b)

-- a suppression is open (its id not 0) and its id is the descriptor's hidden one
abbrev pub hides : Descriptor → State → Bool
hides d s = not (eqb s.suppression 0) && eqb s.suppression d.hidden
