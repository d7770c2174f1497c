-- "Descriptor" and "Entry": the range of each number, in the paper's order.
use Rattle.std.specs.Prelude.{ℕ, Bool, true, ◌&&◌, ◌||◌, List, [], ◌∷◌, leb, eqb}
use Rattle.part.specs.Numbers.{last, ones}
use Rattle.part.specs.declared.shapes.Descriptor.{Descriptor}
use Rattle.part.specs.declared.shapes.State.{State}

infix 75 ◌to◌
infixl 72 ◌or◌
infix 70 ◌within◌
infix 40 ◌∈◌
-- a range: 0 to a number, one number to another, one number alone, either of two ranges
abbrev pub Range : Type 0
Range = ℕ → Bool

abbrev pub up_to : ℕ → Range
up_to greatest v = leb v greatest

abbrev pub ◌to◌ : ℕ → ℕ → Range
◌to◌ least greatest v = leb least v && leb v greatest

abbrev pub only : ℕ → Range
only n v = eqb v n

abbrev pub ◌or◌ : Range → Range → Range
◌or◌ one other v = one v || other v

abbrev pub ◌∈◌ : ℕ → Range → Bool
v ∈ range = range v

-- every number that its bytes can hold
abbrev pub everything : Range
everything v = true

abbrev pub colours : Range
colours = only 0x0000 or only 0xFF00 or only 0xFF07

-- a number and its range
pub record Field : Type 0 where
  pub value : ℕ
  pub range : Range

abbrev pub ◌within◌ : ℕ → Range → Field
v within range = record { value = v; range = range }

abbrev pub hold : List Field → Bool
hold [] = true
hold (f ∷ fs) = f.value ∈ f.range && hold fs

unfoldable pub descriptor_fields : Descriptor → List Field
descriptor_fields d =
    d.size.i within 1 to 32767
    ∷ d.size.b within 1 to 32767
    ∷ d.initial.i within up_to 32767
    ∷ d.initial.b within up_to 32767
    ∷ d.margin within up_to 32767
    ∷ d.increment within up_to 32767
    ∷ d.adjustment within up_to 4095
    ∷ d.direction within up_to 1
    ∷ d.font within up_to 3
    ∷ d.colour within colours
    ∷ d.rule within up_to 192
    ∷ d.hidden within up_to 127
    ∷ []

unfoldable pub state_fields : State → List Field
state_fields s =
    s.at.i within up_to last
    ∷ s.at.b within up_to last
    ∷ s.margin within up_to 32767
    ∷ s.increment within up_to 32767
    ∷ s.adjustment within up_to 4095
    ∷ s.direction within up_to 1
    ∷ s.font within up_to 3
    ∷ s.colour within colours
    ∷ s.space within up_to 4095 or only ones
    ∷ s.suppression within up_to 127
    ∷ s.chain within up_to 1
    ∷ s.used within up_to 4096
    ∷ []
