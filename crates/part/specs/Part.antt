-- Interpreting one part: the tests before it, its elements in order, and what is answered and left.
use Rattle.std.specs.Prelude.{ℕ, ◌&&◌, List, [], ◌∷◌, ◌++◌, length, leb, eqb}
use Rattle.part.specs.Checks.{Checked, fine, fault, require, starting_at, ◌>>=◌, ◌>>◌}
use Rattle.part.specs.States.{with_chain, with_used}
use Rattle.part.specs.Ranges.{hold, descriptor_fields, state_fields}
use Rattle.part.specs.Elements.{Element}
use Rattle.part.specs.Reading.{Found, Piece, cut}
use Rattle.part.specs.Records.{all_bytes, room, spliced}
use Rattle.part.specs.Place.{Effect, effect, place}
use Rattle.part.specs.declared.shapes.Descriptor.{Descriptor}
use Rattle.part.specs.declared.shapes.State.{State}
use Rattle.part.specs.declared.shapes.Answer.{Answer}
use Rattle.part.specs.declared.shapes.Interpreted.{Interpreted}

-- an effect whose records have room
abbrev pub roomed : State → Checked Effect → Checked Effect
roomed s m = do
  done ← m
  used ← room s.used done.items
  effect (with_used done.state used) done.items

-- elements put in their places in some way
module _ (put : State → Element → Checked Effect) where
  -- one of them, and the chain as it leaves it
  unfoldable pub passed_by : State → Found → Checked Effect
  passed_by s f = do
    done ← put s f.element
    effect (with_chain done.state f.chains) done.items

  -- The part's elements in order. The first element at fault gives the answer.
  unfoldable pub elements_by : State → List Piece → Checked Effect
  elements_by s [] = effect s []
  elements_by s (p ∷ ps) = do
    first ← starting_at p.at (p.what >>= passed_by s)
    others ← elements_by first.state ps
    effect others.state (first.items ++ others.items)

module _ (widths : List ℕ) (d : Descriptor) where
  -- an element placed, and last of all room for its records
  unfoldable pub placed : State → Element → Checked Effect
  placed s e = roomed s (place widths d s e)

  abbrev pub passed : State → Found → Checked Effect
  passed = passed_by placed

  abbrev pub elements : State → List Piece → Checked Effect
  elements = elements_by placed

  -- 10: an area not of 4,096 bytes or a wrong width table; 12: a state out of range; 15: a descriptor; 19: a part above 8,192 bytes
  unfoldable pub admitted : State → List ℕ → List ℕ → Checked Unit
  admitted s part area = do
    require (eqb (length area) 4096 && eqb (length widths) 1024) 10
    require (hold (state_fields s)) 12
    require (hold (descriptor_fields d)) 15
    require (leb (length part) 8192) 19

  unfoldable pub outcome : State → List ℕ → List ℕ → Checked Effect
  outcome s part area = do
    admitted s part area
    elements s (cut s.chain part)

abbrev pub answer : ℕ → ℕ → ℕ → Answer
answer code first second = record { code = code; first = first; second = second }

-- 0 with the elements and the record bytes added; any other code with its offset, and the starting state back
abbrev pub answered : ℕ → State → Checked Effect → Interpreted
answered count s (fine done) = record { answer = answer 0 count (length (all_bytes done.items)); state = done.state }
answered count s (fault code at) = record { answer = answer code at 0; state = s }

-- the records added at bytes used, and all other bytes as they were; with any other code, all bytes
abbrev pub written : List ℕ → ℕ → Checked Effect → List ℕ
written area used (fine done) = spliced area used (all_bytes done.items)
written area used (fault code at) = area

module _ (widths : List ℕ) (d : Descriptor) (s : State) (part area : List ℕ) where
  unfoldable pub interpreted : Interpreted
  interpreted = answered (length (cut s.chain part)) s (outcome widths d s part area)

  unfoldable pub area_after : List ℕ
  area_after = written area s.used (outcome widths d s part area)
