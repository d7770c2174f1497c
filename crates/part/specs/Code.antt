-- How the code's numbers stand for the rule book's values: what the contracts inside this crate cite, and no rule.
use Rattle.std.specs.Prelude.{ℕ, ◌+◌, ◌-◌, ◌*◌, ◌<◌, ◌≤◌, ◌≡◌, ◌⊎◌, Result, Ok, Err, Bool, true, false, not, ◌&&◌, ◌||◌, List, [], ◌∷◌, ◌++◌, length, take, drop, get_or, ltb, leb, eqb, if◌then◌else◌, sum_by, All}
use Rattle.std.specs.Borrow.{MutBor}
use denote.Triple.Both.{Both}
use Rattle.std.proofs.lemmas.List.Edits.{sets}
use Rattle.part.specs.Numbers.{origin, last, ones, byte, word, little}
use Rattle.part.specs.Checks.{Checked, fine, fault, refuse, require, require_at, starting_at, ◌>>=◌, ◌>>◌}
use Rattle.part.specs.States.{with_inline, with_used}
use Rattle.part.specs.Ranges.{up_to, ◌∈◌, hold, descriptor_fields, state_fields}
use Rattle.part.specs.Elements.{Element, Text, rule_width}
use Rattle.part.specs.Types.{Lengths, types, row_of, all, all_but, ◌takes◌}
use Rattle.part.specs.Reading.{Found, Piece, found, between}
use Rattle.part.specs.Records.{Item, bytes_of, all_bytes}
use Rattle.part.specs.Presenting.{default, moved, hides}
use Rattle.part.specs.Text.{cycle, plus, minus}
use Rattle.part.specs.Place.{Effect, effect, place, shown_text, place_text, place_rule}
use Rattle.part.specs.Part.{passed_by, elements_by}
use Rattle.part.specs.declared.shapes.Descriptor.{Descriptor}
use Rattle.part.specs.declared.shapes.State.{State}
use Rattle.part.specs.declared.faults.Fault.{Fault}
use Rattle.part.specs.declared.faults.Fault.TheVariants.{WrongSizes, WrongState, WrongDescriptor, LongPart, CutSequence, NoClass, WrongLength, UnknownType, WrongValue, WrongSecond, WrongFont, WrongSuppression, OffSheet, OutOfRange, NoRoom}
use Rattle.part.specs.declared.faults.Refusal.{Refusal}
use Rattle.part.specs.declared.types.Kind.{Kind}
use Rattle.part.specs.declared.types.Kind.TheVariants.{Ami, Amb, Rmi, Rmb, Bln, Sim, Sbi, Sia, Svi, Scfl, Stc, Sto, Bsu, Esu, Dir, Dbr, Trn, Rps, Nop}
use Rattle.part.specs.declared.types.Span.{Span}
use Rattle.part.specs.declared.reader.Read.{Read}
use Rattle.part.specs.declared.reader.What.TheVariants.{Characters, Sequence}
use Rattle.part.specs.declared.record.Head.{Head}
use Rattle.part.specs.declared.text.Line.{Line}

-- ---- refusals

-- document 01's code
abbrev pub fault_code : Fault → ℕ
fault_code WrongSizes = 10
fault_code WrongState = 12
fault_code WrongDescriptor = 15
fault_code LongPart = 19
fault_code CutSequence = 20
fault_code NoClass = 21
fault_code WrongLength = 22
fault_code UnknownType = 23
fault_code WrongValue = 24
fault_code WrongSecond = 24
fault_code WrongFont = 25
fault_code WrongSuppression = 26
fault_code OffSheet = 27
fault_code OutOfRange = 28
fault_code NoRoom = 29

-- the byte that it points at, where parameters begin at an offset: LENGTH and TYPE stand in front of them, and D3 behind 2B; any other keeps the element's start
abbrev pub place_of : ℕ → Fault → ℕ
place_of from NoClass = 1
place_of from WrongLength = from - 2
place_of from UnknownType = from - 1
place_of from WrongValue = from
place_of from WrongSecond = from + 2
place_of from WrongFont = from
place_of from WrongSizes = 0
place_of from WrongState = 0
place_of from WrongDescriptor = 0
place_of from LongPart = 0
place_of from CutSequence = 0
place_of from WrongSuppression = 0
place_of from OffSheet = 0
place_of from OutOfRange = 0
place_of from NoRoom = 0

abbrev pub refused_from : {A : Type 0} → ℕ → Fault → Checked A
refused_from from why = fault (fault_code why) (place_of from why)

-- A result as a check: behind 2B D3 a sequence's LENGTH stands at 2 and its parameters begin at 4. What performs a sequence counts so, and
-- only then is it brought nearer, in a chain by two bytes; a fault at the element's start stays there.
abbrev pub valued : {A : Type 0} → Result A Fault → Checked A
valued (Ok a) = fine a
valued (Err why) = refused_from 4 why

-- the same, of what it leaves changed
abbrev pub verdict : {A B : Type 0} → Result B Fault → A → Checked A
verdict (Ok b) a = fine a
verdict (Err why) a = refused_from 4 why

abbrev pub nearer : {A : Type 0} → ℕ → Checked A → Checked A
nearer by (fine a) = fine a
nearer by (fault code at) = fault code (at - by)

-- a number that fits its range, or all ones for the other value
abbrev pub chosen : ℕ → ℕ → Bool → ℕ → Fault → Checked ℕ
chosen all v fits other why = do
  require_at (place_of 4 why) (fits || eqb v all) (fault_code why)
  fine (default all v other)

-- ---- the table of types

abbrev pub function_of : Kind → ℕ
function_of Ami = 0xC6
function_of Amb = 0xD2
function_of Rmi = 0xC8
function_of Rmb = 0xD4
function_of Bln = 0xD8
function_of Sim = 0xC0
function_of Sbi = 0xD0
function_of Sia = 0xC2
function_of Svi = 0xC4
function_of Scfl = 0xF0
function_of Stc = 0x74
function_of Sto = 0xF6
function_of Bsu = 0xF2
function_of Esu = 0xF4
function_of Dir = 0xE4
function_of Dbr = 0xE6
function_of Trn = 0xDA
function_of Rps = 0xEE
function_of Nop = 0xF8

-- the LENGTHs of its row in the rule book's table; `Rows.has_row` says that it has one
abbrev pub lengths_of : Kind → Lengths
lengths_of kind = elim (row_of types (function_of kind)) [ fine r ↦ r.lengths | fault code at ↦ all 0 0 ]

abbrev pub lengths_in : Span → Lengths
lengths_in row = all_but row.least row.greatest row.hole_from row.hole_to

-- a function code's type, or that the rule book has no row for it
abbrev pub Typed : ℕ → Result Kind Fault → Type 0
Typed function (Ok kind) = function ≡ function_of kind
Typed function (Err why) = (why ≡ UnknownType) × (row_of types function ≡ refuse 23)

-- the type takes the LENGTH of these parameters, with itself and TYPE two bytes more; and then something else
abbrev pub suited : Kind → List ℕ → Checked Unit
suited kind p = require_at 2 (lengths_of kind takes (2 + length p)) 22

abbrev pub sized : {A : Type 0} → Kind → List ℕ → Checked A → Checked A
sized kind p m = suited kind p >> m

-- a sequence whose LENGTH stands at an offset and whose body is whole: its row, its LENGTH, its values
abbrev pub fitted : ℕ → ℕ → List ℕ → Checked Element
fitted at code p = do
  row ← starting_at (at + 1) (row_of types code)
  require_at at (row.lengths takes (2 + length p)) 22
  starting_at (at + 2) (row.values p)

-- one whose body is cut: what is refused before that
abbrev pub cut_short : ℕ → ℕ → ℕ → Checked Unit
cut_short at code n = do
  row ← starting_at (at + 1) (row_of types code)
  require_at at (row.lengths takes n) 22
  refuse 20

-- ---- the element reader

-- where parameters begin: behind 2B D3, LENGTH and TYPE; in a chain behind LENGTH and TYPE alone
abbrev pub first_parameter : ℕ → ℕ
first_parameter chain = if eqb chain 1 then 2 else 4

abbrev pub found_by : List ℕ → ℕ → Result Read Fault → Checked Found
found_by bytes from (Ok e) =
    let body = between bytes e.from e.size in
    elim e.what [
      | Characters ↦ found (Text body) e.size e.chains
      | Sequence function ↦ fitted (e.from - 2) function body >>= λ x. found x e.size e.chains
    ]
found_by bytes from (Err why) = refused_from from why

-- it ends within so many bytes, and has one at least; characters begin at 4 at most, parameters at 2 to 4; a TRN is characters
abbrev pub Within : ℕ → Read → Type 0
Within most e =
    (e.from ≤ e.size) × (0 < e.size) × (e.size ≤ most) × (e.chains ≤ 1) × (e.from ≤ 4)
    × elim e.what [ Characters ↦ Unit | Sequence function ↦ (2 ≤ e.from) × (function ≡ 0xDA → ⊥) ]

-- ---- what an element does

-- an effect's state, and its records stored at the bytes used
abbrev pub state_after : Checked Effect → Checked State
state_after m = m >>= λ e. fine e.state

abbrev pub inked : List ℕ → ℕ → Checked Effect → List ℕ
inked area used (fine e) = sets area used (all_bytes e.items)
inked area used (fault code at) = area

-- a slice that is lent to be changed, at entry and at exit
abbrev pub Lent : Type 0
Lent = Both (MutBor (List ℕ)) (MutBor (List ℕ))

-- a function that is lent the state and the area does an effect: its verdict on the state that it leaves, and the records at the bytes used
abbrev pub Does : (State → Checked Effect) → Result Unit Fault → Both (MutBor State) (MutBor State) → Lent → Type 0
Does what r s area =
    (verdict r s.exit.now ≡ state_after (what s.entry.now))
    × (area.exit.now ≡ inked area.entry.now s.entry.now.used (what s.entry.now))

-- what placing relies on: the numbers of the state in range, 1,024 widths, an area of at most 4,096 bytes that holds those used
pub record Ready (table area : List ℕ) (s : State) : Type 0 where
  pub in_range : hold (state_fields s) ≡ true
  pub widths : length table ≡ 1024
  pub small : length area ≤ 4096
  pub fits : s.used ≤ length area

-- ---- records, where an area of so many bytes has room for them

abbrev pub room_in : ℕ → ℕ → List Item → Checked ℕ
room_in most used [] = fine used
room_in most used (x ∷ xs) = do
  require (leb (used + length (bytes_of x)) most) 29
  room_in most (used + length (bytes_of x)) xs

abbrev pub roomed_in : ℕ → State → Checked Effect → Checked Effect
roomed_in most s m = do
  done ← m
  used ← room_in most s.used done.items
  effect (with_used done.state used) done.items

module _ (most : ℕ) (widths : List ℕ) (d : Descriptor) where
  unfoldable pub placed_in : State → Element → Checked Effect
  placed_in s e = roomed_in most s (place widths d s e)

  abbrev pub passed_in : State → Found → Checked Effect
  passed_in = passed_by placed_in

  abbrev pub elements_in : State → List Piece → Checked Effect
  elements_in = elements_by placed_in

-- one item, and nothing else changed but the bytes used
abbrev pub recorded : ℕ → State → Item → Checked Effect
recorded most s x = roomed_in most s (effect s (x ∷ []))

-- text that leaves I at a place
abbrev pub advanced : ℕ → State → ℕ → List ℕ → Checked Effect
advanced most s i cs = roomed_in most s (effect (with_inline s i) (shown_text s cs ∷ []))

-- ---- rules

-- DIR, DBR, from parameters to records
abbrev pub ruled : ℕ → Descriptor → State → ℕ → List ℕ → Checked Effect
ruled most d s mark p = do
  require_at 4 (word 0 p 0 ∈ up_to 0x7FFF) 24
  require_at 6 (rule_width (word 0xFF p 2) (byte 0xFF p 4)) 24
  roomed_in most s (place_rule d s mark (word 0 p 0) (default ones (word 0xFF p 2) d.rule))

-- ---- sequences

-- RPS, from parameters to records
abbrev pub repeating : ℕ → List ℕ → Descriptor → State → List ℕ → Checked Effect
repeating most widths d s p = do
  require_at 4 (word 0 p 0 ∈ up_to (if ltb 2 (length p) then 0x7FFF else 0)) 24
  roomed_in most s (place_text widths d s (cycle (drop 2 p) 0 (word 0 p 0)))

-- any sequence, behind 2B D3
abbrev pub performed : ℕ → List ℕ → Descriptor → State → ℕ → List ℕ → Checked Effect
performed most widths d s function p = fitted 2 function p >>= placed_in most widths d s

-- ---- text: what does not change within an element is in a `Line`

-- B lies on the sheet, or nothing is shown
abbrev pub baseline : Descriptor → State → Bool
baseline d s = hides d s || (leb origin s.at.b && leb (s.at.b + 0) (origin + d.size.b))

-- text that ends at a place and is shown, with nothing subtracted, from the sheet's edge on: its end decides for all of its characters
pub record Plain (s : State) (size_i size_b end : ℕ) : Type 0 where
  pub shown : s.suppression ≡ 0
  pub down : (leb origin s.at.b && leb (s.at.b + 0) (origin + size_b)) ≡ true
  pub added : s.direction ≡ 0
  pub begins : origin ≤ s.at.i
  pub range : end ≤ last
  pub ends : end ≤ origin + size_i + s.adjustment

-- the last character's end, where it decides for all: in range, and on the sheet from its edge on or not shown
pub record AtOnce (l : Line) (start end : ℕ) : Type 0 where
  pub range : end ≤ last
  pub ends : (l.shown ≡ false) ⊎ ((origin ≤ start) × (end + l.minus ≤ l.limit + l.plus))

-- the widths of a state's font
abbrev pub row_in : List ℕ → State → List ℕ
row_in widths s = take 256 (drop (256 * s.font) widths)

-- its line, from that row's width for X'40' and whether it is hidden
abbrev pub line_in : Descriptor → State → ℕ → Bool → Line
line_in d s own hidden = record { space = default ones s.space own; shown = not hidden; limit = origin + d.size.i; plus = plus s; minus = minus s }

-- the width of X'40' is the line's, any other that in the font's row
abbrev pub width_in : List ℕ → ℕ → ℕ → ℕ
width_in row space c = if eqb c 0x40 then space else get_or row c 0

-- one character: on the sheet unless it is hidden, or 27; then the advance
abbrev pub stepped : Line → ℕ → ℕ → Checked ℕ
stepped l i width = do
  require (not l.shown || leb origin i && leb (i + width) l.limit) 27
  moved i (width + l.plus) l.minus

module _ (row : List ℕ) (l : Line) where
  unfoldable pub walked : ℕ → List ℕ → Checked ℕ
  walked i [] = fine i
  walked i (c ∷ cs) = stepped l i (width_in row l.space c) >>= λ j. walked j cs

-- a number for each of some characters is nowhere less than another
abbrev pub AtLeast : (ℕ → ℕ) → ℕ → List ℕ → Type 0
AtLeast f least = All (λ c. least ≤ f c)

-- their widths together; those in the row alone, and how many are X'40'
abbrev pub widths_of : List ℕ → ℕ → List ℕ → ℕ
widths_of row space = sum_by (width_in row space)

abbrev pub row_widths : List ℕ → List ℕ → ℕ
row_widths row = sum_by (λ c. get_or row c 0)

-- a row with one width for all
abbrev pub Fixed : List ℕ → Type 0
Fixed row = (c : ℕ) → c < 256 → get_or row c 0 ≡ get_or row 0 0

abbrev pub is_space : ℕ → ℕ
is_space c = if eqb c 0x40 then 1 else 0

abbrev pub spaces_in : List ℕ → ℕ
spaces_in = sum_by is_space

-- ---- records

-- the eight numbers that a text's record begins with
abbrev pub head_of : State → ℕ → Head
head_of s n = record {
  len = 16 + n;
  kind = 1;
  i = s.at.i + origin;
  b = s.at.b + origin;
  first = s.font;
  second = s.colour;
  third = (if eqb s.direction 1 then 65536 - s.adjustment else s.adjustment);
  fourth = s.space;
}

abbrev pub head_bytes : Head → List ℕ
head_bytes h =
    little h.len ++ little h.kind ++ little h.i ++ little h.b
    ++ little h.first ++ little h.second ++ little h.third ++ little h.fourth

-- ---- a run over a part's elements

-- what a run leaves of an outcome: the state and as many elements, with the records behind the bytes used; or the refusal
abbrev pub Completed : Checked Effect → ℕ → ℕ → List ℕ → ℕ → State → List ℕ → Type 0
Completed (fine e) many used before count s area = (e.state ≡ s) × ((many ≡ count) × (take s.used area ≡ take used before ++ all_bytes e.items))
Completed (fault code at) many used before count s area = ⊥

abbrev pub Ran : Checked Effect → ℕ → ℕ → List ℕ → Result ℕ Refusal → State → List ℕ → Type 0
Ran m many used before (Ok count) s area = Completed m many used before count s area
Ran m many used before (Err r) s area = m ≡ fault (fault_code r.why) r.at

-- what is added to a larger area, from a place on: the records of an outcome, or nothing
abbrev pub AddedAll : Checked Effect → ℕ → List ℕ → ℕ → ℕ → State → List ℕ → Type 0
AddedAll (fine e) many area from count s after = (e.state ≡ s) × ((many ≡ count) × (after ≡ sets area from (all_bytes e.items)))
AddedAll (fault code at) many area from count s after = ⊥

abbrev pub Added : Checked Effect → ℕ → List ℕ → ℕ → Result ℕ Refusal → State → List ℕ → Type 0
Added m many area from (Ok count) s after = AddedAll m many area from count s after
Added m many area from (Err r) s after = (m ≡ fault (fault_code r.why) r.at) × (after ≡ area)

-- ---- the tests before any element, by the lengths alone

abbrev pub admitted_by : ℕ → ℕ → ℕ → Descriptor → State → Checked Unit
admitted_by part widths area d s = do
  require (eqb area 4096 && eqb widths 1024) 10
  require (hold (state_fields s)) 12
  require (hold (descriptor_fields d)) 15
  require (leb part 8192) 19
