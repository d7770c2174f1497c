-- "Sheets to try", as one list: every row that is about parts alone; and more rows, for what those do not show. `proofs/Sheets.antt` has that they hold.
use Rattle.std.specs.Prelude.{ℕ, zero, suc, ◌+◌, ◌-◌, ◌/◌, ◌%◌, Bool, true, false, List, [], ◌∷◌, ◌++◌, map, replicate, length, eqb}
use Rattle.part.specs.Numbers.{origin, ones}
use Rattle.part.specs.Checks.{Checked, fine, fault}
use Rattle.part.specs.States.{point, state}
use Rattle.part.specs.Ranges.{hold, descriptor_fields, state_fields}
use Rattle.part.specs.Reading.{cut}
use Rattle.part.specs.Records.{Item, text_item, rule_item, is_whole, is_empty, boundaries}
use Rattle.part.specs.Place.{Effect}
use Rattle.part.specs.Drawing.{all_on_sheet}
use Rattle.part.specs.Part.{elements, outcome, interpreted, area_after}
use Rattle.part.specs.declared.shapes.Point.{Point}
use Rattle.part.specs.declared.shapes.Descriptor.{Descriptor}
use Rattle.part.specs.declared.shapes.State.{State}
use Rattle.part.specs.declared.shapes.Answer.{Answer}

-- the bytes of a part that is written in hexadecimal, as the paper writes it (64 at most, the first not 00)
abbrev pub bytes_from : ℕ → ℕ → List ℕ → List ℕ
bytes_from zero n later = later
bytes_from (suc most) n later = elim (eqb n 0) [ true ↦ later | false ↦ bytes_from most (n / 256) (n % 256 ∷ later) ]

abbrev pub hex : ℕ → List ℕ
hex n = bytes_from 64 n []

-- 12,240 by 15,840, some increment, rule width 14, colour X'FF07', all else 0; and a fresh job
abbrev pub lined : ℕ → Descriptor
lined increment = record {
  size = point 12240 15840;
  initial = point 0 0;
  margin = 0;
  increment = increment;
  adjustment = 0;
  direction = 0;
  font = 0;
  colour = 0xFF07;
  rule = 14;
  hidden = 0;
}

abbrev pub begun : ℕ → State
begun increment = state (point origin origin) 0 increment 0 0 0 0xFF07 ones 0 0 0

-- increment 240
abbrev pub descriptor : Descriptor
descriptor = lined 240

abbrev pub sheet_state : State
sheet_state = begun 240

-- a code and two numbers
abbrev pub gives : ℕ → ℕ → ℕ → Answer
gives code first second = record { code = code; first = first; second = second }

-- all widths; the part before and its answer; the part and its answer; the place after it, and the characters that it shows
pub record Sheet : Type 0 where
  pub width : ℕ
  pub earlier : List ℕ
  pub first : Answer
  pub part : List ℕ
  pub answer : Answer
  pub i : ℕ
  pub b : ℕ
  pub shown : List ℕ

abbrev pub sheet : ℕ → List ℕ → Answer → List ℕ → Answer → ℕ → ℕ → List ℕ → Sheet
sheet width earlier first part a i b shown = record { width = width; earlier = earlier; first = first; part = part; answer = a; i = i; b = b; shown = shown }

-- the answer to no part before it: an empty one
abbrev pub none : Answer
none = gives 0 0 0

-- a row of one part that is done, and of one that is refused
abbrev pub done : ℕ → ℕ → ℕ → ℕ → ℕ → List ℕ → Sheet
done part elements added i b shown = sheet 144 [] none (hex part) (gives 0 elements added) i b shown

abbrev pub refused : ℕ → ℕ → ℕ → Sheet
refused part code at = sheet 144 [] none (hex part) (gives code at 0) 0 0 []

unfoldable pub sheets : List Sheet
sheets =
    done 0 0 0 0 0 []
    ∷ done 0x2BD302D8 1 0 0 240 []
    ∷ refused 0x2B 20 0
    ∷ refused 0xC12BC1 21 2
    ∷ refused 0x2BD301D8 22 2
    ∷ refused 0x2BD30272 23 3
    ∷ refused 0x2BD304C67F 20 0
    ∷ refused 0x2BD304C68000 24 4
    ∷ done 0x2BD304C62F40C1 2 17 12240 0 (hex 0xC1)
    ∷ refused 0x2BD304C62F41C1 27 6
    ∷ done 0x2BD304DA2BD3 1 18 288 0 (hex 0x2BD3)
    ∷ done 0x2BD306EE0005C1C2 1 21 720 0 (hex 0xC1C2C1C2C1)
    ∷ refused 0x2BD303F405 26 0
    ∷ refused 0x2BD304C880002BD304C88000 28 6
    ∷ done 0x2BD307E405A0000E00 1 16 0 0 []
    ∷ sheet 144 (hex 0x2BD302D9) (gives 0 1 0) (hex 0x02D8) (gives 0 1 0) 0 480 []
    ∷ sheet 144 (hex 0x2BD302D9) (gives 0 1 0) (hex 0x2BD302D8) (gives 22 0 0) 0 240 []
    ∷ sheet 0 [] none (hex 0x2BD305EE0FF0C1) (gives 0 1 4096) 0 0 (replicate 0xFF0 0xC1)
    ∷ sheet 0 [] none (hex 0x2BD305EE0FF1C1) (gives 29 0 0) 0 0 []
    ∷ done 0x2BD304C702D004D201E0C1C2 3 18 1008 480 (hex 0xC1C2)
    -- "Point at the byte": a second parameter, a font behind text, and a second parameter in a chain behind both, and in the next part's
    ∷ refused 0x2BD305C2000A02 24 6
    ∷ refused 0xC12BD303F004 25 5
    ∷ refused 0xC1C22BD304C7006405C2000A02 24 12
    ∷ sheet 144 (hex 0x2BD302D9) (gives 0 1 0) (hex 0x05C2000A02) (gives 24 4 0) 0 240 []
    ∷ []

-- the characters of some items
abbrev pub characters_of : List Item → List ℕ
characters_of [] = []
characters_of (text_item t ∷ xs) = t.characters ++ characters_of xs
characters_of (rule_item r ∷ xs) = characters_of xs

abbrev pub shown_of : Checked Effect → List ℕ
shown_of (fine e) = characters_of e.items
shown_of (fault code at) = []

-- a sheet as the definitions have it
unfoldable pub computed : Sheet → Sheet
computed s =
    let widths = replicate 1024 s.width in
    let empty : List ℕ = replicate 4096 0 in
    let before = interpreted widths descriptor sheet_state s.earlier empty in
    let area = area_after widths descriptor sheet_state s.earlier empty in
    let after = interpreted widths descriptor before.state s.part area in
    sheet s.width s.earlier before.answer s.part after.answer after.state.at.i after.state.at.b
    (shown_of (outcome widths descriptor before.state s.part area))

-- the same sheet, its place as it is kept
abbrev pub kept : Sheet → Sheet
kept s = sheet s.width s.earlier s.first s.part s.answer (origin + s.i) (origin + s.b) s.shown

-- ---- more rows, each with all that is given and all that is left

-- how much is lent, and what is given; the answer, the state and the whole area afterwards
pub record Whole : Type 0 where
  pub widths : ℕ
  pub area : ℕ
  pub descriptor : Descriptor
  pub before : State
  pub part : List ℕ
  pub answer : Answer
  pub after : State
  pub left : List ℕ

-- a part with all that belongs to it; or its elements alone under `job`, whose first fault is a code at an offset (0, 0: none);
-- or the numbers of a state, or of a descriptor, and whether all are in range
pub data Trial : Type 0 where
  whole : Whole → Trial
  fails : State → List ℕ → ℕ → ℕ → Trial
  ranged : State → Bool → Trial
  described : Descriptor → Bool → Trial

-- so many numbers from one on
abbrev pub numbers_from : ℕ → ℕ → List ℕ
numbers_from n zero = []
numbers_from n (suc count) = n ∷ numbers_from (n + 1) count

-- every character its own width: font f's code point c is as wide as 256 f + c
abbrev pub width_table : ℕ → List ℕ
width_table count = numbers_from 0 count

-- a lent area, of which nothing is written
abbrev pub blank : ℕ → List ℕ
blank count = replicate count 0xEE

-- a place on the sheet; and one by the numbers that are kept, 32,768 more
abbrev pub kept_as : ℕ → ℕ → Point
kept_as i b = record { i = i; b = b }

abbrev pub on : ℕ → ℕ → Point
on i b = kept_as (32768 + i) (32768 + b)

-- place; margin, increment, adjustment, direction, font, colour, variable space; suppression, chain, used
abbrev pub stands : Point → ℕ → ℕ → ℕ → ℕ → ℕ → ℕ → ℕ → ℕ → ℕ → ℕ → State
stands p margin increment adjustment direction font colour space suppression chain used = record {
  at = p;
  margin = margin;
  increment = increment;
  adjustment = adjustment;
  direction = direction;
  font = font;
  colour = colour;
  space = space;
  suppression = suppression;
  chain = chain;
  used = used;
}

-- size; initial place; margin, increment, adjustment, direction, font, colour; rule width, hidden suppression
abbrev pub job_of : ℕ → ℕ → ℕ → ℕ → ℕ → ℕ → ℕ → ℕ → ℕ → ℕ → ℕ → ℕ → Descriptor
job_of i b i₀ b₀ margin increment adjustment direction font colour width hidden = record {
  size = kept_as i b;
  initial = kept_as i₀ b₀;
  margin = margin;
  increment = increment;
  adjustment = adjustment;
  direction = direction;
  font = font;
  colour = colour;
  rule = width;
  hidden = hidden;
}

-- no two numbers alike, so that none can stand for another; the same on the largest sheet, and with no rule width
abbrev pub job : Descriptor
job = job_of 5000 3000 10 20 30 40 5 1 2 0xFF00 60 7

abbrev pub vast : Descriptor
vast = job_of 32767 32767 10 20 30 40 5 1 2 0xFF00 60 7

abbrev pub thin : Descriptor
thin = job_of 5000 3000 10 20 30 40 5 1 2 0xFF00 0 7

-- a job that stands somewhere with so many bytes used, its other numbers unlike the descriptor's; and where most rows begin
abbrev pub halfway : Point → ℕ → State
halfway p used = stands p 80 70 6 0 1 0 50 0 0 used

abbrev pub start : State
start = halfway (on 100 90) 160

-- a part that is accepted, with its elements and record bytes: the state after it, and the records
abbrev pub accepts : Descriptor → State → List ℕ → ℕ → ℕ → State → List ℕ → Trial
accepts d s part elements added after records = whole record {
  widths = 1024;
  area = 4096;
  descriptor = d;
  before = s;
  part = part;
  answer = gives 0 elements added;
  after = after;
  left = blank s.used ++ records ++ blank (4096 - (s.used + length records));
}

-- a refusal, with so many widths and bytes lent: all stays
abbrev pub lends : ℕ → ℕ → Descriptor → State → List ℕ → ℕ → ℕ → Trial
lends widths area d s part code at = whole record {
  widths = widths;
  area = area;
  descriptor = d;
  before = s;
  part = part;
  answer = gives code at 0;
  after = s;
  left = blank area;
}

abbrev pub refuses : Descriptor → State → List ℕ → ℕ → ℕ → Trial
refuses d s part code at = lends 1024 4096 d s part code at

-- parts whose first element is refused, all with one code and pointing at one byte; and the same where a chain is open
abbrev pub faults : ℕ → ℕ → List ℕ → List Trial
faults code at parts = map (λ part. fails start (hex part) code at) parts

abbrev pub faults_in_chain : ℕ → ℕ → List ℕ → List Trial
faults_in_chain code at parts = map (λ part. fails (stands (on 100 90) 80 70 6 0 1 0 50 0 1 160) (hex part) code at) parts

-- one part that is refused at some places
abbrev pub faults_at : ℕ → ℕ → List Point → List Trial
faults_at code part places = map (λ p. fails (halfway p 160) (hex part) code 0) places

-- the numbers that a field takes, and some that it doesn't
abbrev pub of_state : (ℕ → State) → List ℕ → List ℕ → List Trial
of_state f inside beyond = map (λ n. ranged (f n) true) inside ++ map (λ n. ranged (f n) false) beyond

abbrev pub of_descriptor : (ℕ → Descriptor) → List ℕ → List ℕ → List Trial
of_descriptor f inside beyond = map (λ n. described (f n) true) inside ++ map (λ n. described (f n) false) beyond

unfoldable pub further : List Trial
further =
    -- an element cut; a class that is not D3
    faults 20 0 (0x2B ∷ 0x2BD3 ∷ 0x2BD301 ∷ 0x2BD304C6 ∷ 0x2BD304C680 ∷ 0x2BD3FFDAC1 ∷ [])
    ++ faults 21 1 (0x2BC1 ∷ 0x2B2B ∷ 0x2BD2 ∷ [])
    -- LENGTH under 2 before the type, the type before its LENGTHs, those before the cut
    ++ faults 22 2 (0x2BD30072 ∷ 0x2BD30172 ∷ 0x2BD301DA ∷ 0x2BD301F8 ∷ [])
    ++ faults 23 3 (0x2BD30272 ∷ 0x2BD30472 ∷ 0x2BD30476 ∷ 0x2BD30478 ∷ 0x2BD30480 ∷ 0x2BD302FE ∷ 0x2BD304CA ∷ 0x2BD30200 ∷ [])
    ++ faults 22 2 (0x2BD303C6 ∷ 0x2BD305C6 ∷ 0x2BD303D2 ∷ 0x2BD305D2 ∷ 0x2BD303C8 ∷ 0x2BD305C8 ∷ 0x2BD303D4 ∷ 0x2BD305D4 ∷ 0x2BD303D8 ∷ [])
    ++ faults 22 2 (0x2BD303C0 ∷ 0x2BD305C0 ∷ 0x2BD303D0 ∷ 0x2BD305D0 ∷ 0x2BD303C2 ∷ 0x2BD306C2 ∷ 0x2BD303C4 ∷ 0x2BD305C4 ∷ [])
    ++ faults 22 2 (0x2BD302F0 ∷ 0x2BD304F0 ∷ 0x2BD30374 ∷ 0x2BD30674 ∷ 0x2BD305F6 ∷ 0x2BD307F6 ∷ 0x2BD302F2 ∷ 0x2BD304F2 ∷ 0x2BD302F4 ∷ 0x2BD304F4 ∷ [])
    ++ faults 22 2 (0x2BD303E4 ∷ 0x2BD305E40001 ∷ 0x2BD306E4 ∷ 0x2BD308E4 ∷ 0x2BD303E6 ∷ 0x2BD305E6 ∷ 0x2BD306E6 ∷ 0x2BD308E6 ∷ 0x2BD303EE ∷ [])
    -- each parameter beyond its range
    ++ faults 24 4 (0x2BD304C68000 ∷ 0x2BD304C6FFFF ∷ 0x2BD304D28000 ∷ 0x2BD304D2FFFF ∷ 0x2BD304C08000 ∷ 0x2BD304C0FFFE ∷ 0x2BD304D08000 ∷ 0x2BD304D0FFFE ∷ [])
    ++ faults 24 4 (0x2BD304C21000 ∷ 0x2BD304C2FFFE ∷ 0x2BD305C2100002 ∷ 0x2BD304C41000 ∷ 0x2BD304C4FFFE ∷ [])
    ++ faults 24 6 (0x2BD305C2000002 ∷ 0x2BD305C20000FE ∷ [])
    ++ faults 24 4 (0x2BD304740001 ∷ 0x2BD30474FEFF ∷ 0x2BD30474FF01 ∷ 0x2BD30474FF06 ∷ 0x2BD30474FF08 ∷ 0x2BD30474FFFE ∷ [])
    ++ faults 24 4 (0x2BD306F600012D00 ∷ 0x2BD306F6FFFE2D00 ∷ 0x2BD306F600012D01 ∷ [])
    ++ faults 24 6 (0x2BD306F600002CFF ∷ 0x2BD306F600002D01 ∷ 0x2BD306F60000FFFE ∷ [])
    ++ faults 24 4 (0x2BD303F200 ∷ 0x2BD303F280 ∷ 0x2BD303F400 ∷ 0x2BD303F480 ∷ [])
    ++ faults 24 4 (0x2BD304E48000 ∷ 0x2BD307E4800000C100 ∷ 0x2BD304E68000 ∷ 0x2BD307E6800000C100 ∷ 0x2BD305EE8000C1 ∷ 0x2BD304EE0001 ∷ 0x2BD304EE8000 ∷ [])
    ++ faults 24 6 (0x2BD307E4000100C100 ∷ 0x2BD307E40001000001 ∷ 0x2BD307E4000100C0FF ∷ 0x2BD307E40001FFFF00 ∷ 0x2BD307E40001FFFEFF ∷ 0x2BD307E6000100C100 ∷ [])
    ++ faults 25 4 (0x2BD303F004 ∷ 0x2BD303F0FE ∷ [])
    -- in a chain all of it counts from LENGTH
    ++ faults_in_chain 20 0 (0x02 ∷ 0x04C680 ∷ [])
    ++ faults_in_chain 22 0 (0x01D8 ∷ 0x03C6 ∷ 0x03C6AA ∷ 0x2BD302D8 ∷ 0x2BC1 ∷ [])
    ++ faults_in_chain 23 1 (0x0272 ∷ 0x0472 ∷ [])
    ++ faults_in_chain 24 2 (0x04C68000 ∷ 0x05C2100002 ∷ 0x06F600012D01 ∷ 0x07E4800000C100 ∷ 0x04EE0001 ∷ 0x03F200 ∷ [])
    ++ faults_in_chain 24 4 (0x05C2000002 ∷ 0x06F600002D01 ∷ 0x07E40001000001 ∷ [])
    ++ faults_in_chain 25 2 (0x03F004 ∷ [])
    ++ faults_in_chain 26 0 (0x03F401 ∷ [])
    ++ faults_in_chain 27 0 (0x04E47FFF ∷ 0x05EE7FFFC1 ∷ [])
    -- beyond the sheet by one, on each side; and values that are in range, but not on it
    ++ faults_at 27 0xC1 (on 4552 3000 ∷ on 4551 3001 ∷ kept_as 32767 32768 ∷ kept_as 32768 32767 ∷ [])
    ++ faults_at 27 0x40 (on 4951 0 ∷ [])
    ++ faults_at 27 0x2BD304E403E8 (on 4001 2940 ∷ on 4000 2941 ∷ kept_as 32767 32768 ∷ kept_as 32768 32767 ∷ [])
    ++ faults_at 27 0x2BD304E603E8 (on 4941 2000 ∷ on 4940 2001 ∷ kept_as 32767 32768 ∷ kept_as 32768 32767 ∷ [])
    ++ faults_at 27 0x2BD304E40000 (on 5001 2940 ∷ on 5000 2941 ∷ kept_as 32767 32768 ∷ kept_as 32768 32767 ∷ [])
    ++ faults_at 27 0x2BD307E603E8000000 (on 5001 2000 ∷ on 5000 2001 ∷ kept_as 32767 32768 ∷ kept_as 32768 32767 ∷ [])
    ++ faults 27 0 (0x2BD304E47FFF ∷ 0x2BD304E67FFF ∷ 0x2BD305EE7FFFC1 ∷ [])
    -- beyond the positions by one
    ++ faults_at 28 0x2BD304C80001 (on 32767 0 ∷ [])
    ++ faults_at 28 0x2BD304C8FFFF (kept_as 0 32768 ∷ [])
    ++ faults_at 28 0x2BD304D40001 (on 0 32767 ∷ [])
    ++ faults_at 28 0x2BD304D4FFFF (kept_as 32768 0 ∷ [])
    ++ faults_at 28 0x2BD302D8 (on 100 32698 ∷ [])
    -- the numbers of a state
    ++ of_state (λ n. stands (kept_as n 0) 80 70 6 0 1 0 50 0 0 160) (0 ∷ 65535 ∷ []) (65536 ∷ [])
    ++ of_state (λ n. stands (kept_as 0 n) 80 70 6 0 1 0 50 0 0 160) (0 ∷ 65535 ∷ []) (65536 ∷ [])
    ++ of_state (λ n. stands (on 100 90) n 70 6 0 1 0 50 0 0 160) (0 ∷ 32767 ∷ []) (32768 ∷ [])
    ++ of_state (λ n. stands (on 100 90) 80 n 6 0 1 0 50 0 0 160) (0 ∷ 32767 ∷ []) (32768 ∷ [])
    ++ of_state (λ n. stands (on 100 90) 80 70 n 0 1 0 50 0 0 160) (0 ∷ 4095 ∷ []) (4096 ∷ [])
    ++ of_state (λ n. stands (on 100 90) 80 70 6 n 1 0 50 0 0 160) (0 ∷ 1 ∷ []) (2 ∷ [])
    ++ of_state (λ n. stands (on 100 90) 80 70 6 0 n 0 50 0 0 160) (0 ∷ 3 ∷ []) (4 ∷ [])
    ++ of_state (λ n. stands (on 100 90) 80 70 6 0 1 n 50 0 0 160) (0 ∷ 0xFF00 ∷ 0xFF07 ∷ []) (1 ∷ 0xFEFF ∷ 0xFF01 ∷ 0xFF06 ∷ 0xFF08 ∷ 0xFFFF ∷ [])
    ++ of_state (λ n. stands (on 100 90) 80 70 6 0 1 0 n 0 0 160) (0 ∷ 4095 ∷ 65535 ∷ []) (4096 ∷ 65534 ∷ 65536 ∷ [])
    ++ of_state (λ n. stands (on 100 90) 80 70 6 0 1 0 50 n 0 160) (0 ∷ 127 ∷ []) (128 ∷ [])
    ++ of_state (λ n. stands (on 100 90) 80 70 6 0 1 0 50 0 n 160) (0 ∷ 1 ∷ []) (2 ∷ [])
    ++ of_state (λ n. stands (on 100 90) 80 70 6 0 1 0 50 0 0 n) (0 ∷ 4096 ∷ []) (4097 ∷ [])
    -- and of a descriptor
    ++ of_descriptor (λ n. job_of n 3000 10 20 30 40 5 1 2 0xFF00 60 7) (1 ∷ 32767 ∷ []) (0 ∷ 32768 ∷ [])
    ++ of_descriptor (λ n. job_of 5000 n 10 20 30 40 5 1 2 0xFF00 60 7) (1 ∷ 32767 ∷ []) (0 ∷ 32768 ∷ [])
    ++ of_descriptor (λ n. job_of 5000 3000 n 20 30 40 5 1 2 0xFF00 60 7) (0 ∷ 32767 ∷ []) (32768 ∷ [])
    ++ of_descriptor (λ n. job_of 5000 3000 10 n 30 40 5 1 2 0xFF00 60 7) (0 ∷ 32767 ∷ []) (32768 ∷ [])
    ++ of_descriptor (λ n. job_of 5000 3000 10 20 n 40 5 1 2 0xFF00 60 7) (0 ∷ 32767 ∷ []) (32768 ∷ [])
    ++ of_descriptor (λ n. job_of 5000 3000 10 20 30 n 5 1 2 0xFF00 60 7) (0 ∷ 32767 ∷ []) (32768 ∷ [])
    ++ of_descriptor (λ n. job_of 5000 3000 10 20 30 40 n 1 2 0xFF00 60 7) (0 ∷ 4095 ∷ []) (4096 ∷ [])
    ++ of_descriptor (λ n. job_of 5000 3000 10 20 30 40 5 n 2 0xFF00 60 7) (0 ∷ 1 ∷ []) (2 ∷ [])
    ++ of_descriptor (λ n. job_of 5000 3000 10 20 30 40 5 1 n 0xFF00 60 7) (0 ∷ 3 ∷ []) (4 ∷ [])
    ++ of_descriptor (λ n. job_of 5000 3000 10 20 30 40 5 1 2 n 60 7) (0 ∷ 0xFF00 ∷ 0xFF07 ∷ []) (1 ∷ 0xFF01 ∷ 0xFFFF ∷ [])
    ++ of_descriptor (λ n. job_of 5000 3000 10 20 30 40 5 1 2 0xFF00 n 7) (0 ∷ 192 ∷ []) (193 ∷ [])
    ++ of_descriptor (λ n. job_of 5000 3000 10 20 30 40 5 1 2 0xFF00 60 n) (0 ∷ 127 ∷ []) (128 ∷ [])
    -- AMI and AMB to their ends, RMI and RMB to theirs; FFFF is -1
    ++ accepts job start (hex 0x2BD304C77FFF_04D20000) 2 0 (halfway (on 32767 0) 160) []
    ∷ accepts job start (hex 0x2BD304C70000_04D27FFF) 2 0 (halfway (on 0 32767) 160) []
    ∷ accepts job start (hex 0x2BD304C9FFFF_04D40002) 2 0 (halfway (on 99 92) 160) []
    ∷ accepts job (halfway (on 0 0) 160) (hex 0x2BD304C97FFF_04D48000) 2 0 (halfway (kept_as 65535 0) 160) []
    ∷ accepts job (halfway (on 0 0) 160) (hex 0x2BD304C98000_04D47FFF) 2 0 (halfway (kept_as 0 65535) 160) []
    -- BLN
    ∷ accepts job start (hex 0x2BD302D8) 1 0 (halfway (on 80 160) 160) []
    ∷ accepts job (halfway (on 100 32697) 160) (hex 0x2BD302D8) 1 0 (halfway (on 80 32767) 160) []
    -- SIM, SBI, SIA, SVI, SCFL, STC, STO: the greatest, all ones, the least; SIA's two values default each alone
    ∷ accepts job start (hex 0x2BD304C17FFF_04D17FFF_05C30FFF01_04C50FFF_03F103_0575FF07AA_06F700002D00_02F8) 8 0 (stands (on 100 90) 32767 32767 4095 1 3 0xFF07 4095 0 0 160) []
    ∷ accepts job start (hex 0x2BD306F7FFFFFFFF_0475FFFF_03F1FF_04C5FFFF_05C3FFFFFF_04D1FFFF_04C0FFFF) 7 0 (stands (on 100 90) 30 40 5 1 2 0xFF00 65535 0 0 160) []
    ∷ accepts job (stands (on 100 90) 80 70 6 1 1 0xFF07 50 0 0 160) (hex 0x2BD304C10000_04D10000_04C30000_04C50000_03F100_04750000_06F60000FFFF) 7 0 (stands (on 100 90) 0 0 0 0 0 0 0 0 0 160) []
    ∷ accepts job start (hex 0x2BD305C3FFFF00_04D10003_0475FF00_06F6FFFF2D00) 4 0 (stands (on 100 90) 80 3 5 0 1 0xFF00 50 0 0 160) []
    ∷ accepts job start (hex 0x2BD305C20007FF) 1 0 (stands (on 100 90) 80 70 7 1 1 0 50 0 0 160) []
    -- a run in font 1 with a variable space; TRN in font 3 without, its adjustment subtracted
    ∷ accepts job start (hex 0xC140C2) 1 19 (halfway (on 1067 90) 179) (hex 0x1300_0100_6400_5A00_0100_0000_0600_3200_C140C2)
    ∷ accepts job (stands (on 100 90) 80 70 6 1 3 0xFF07 65535 0 0 160) (hex 0x2BD305DA2BD340) 1 19 (stands (on 2704 90) 80 70 6 1 3 0xFF07 65535 0 0 179) (hex 0x1300_0100_6400_5A00_0300_07FF_FAFF_FFFF_2BD340)
    -- RPS: more than its text, less, none, none of no text
    ∷ accepts job start (hex 0x2BD307EF0005C1C2C3_06EF0001C4C5_05EF0000C1_04EE0000) 4 38 (halfway (on 2837 90) 198) (hex 0x1500_0100_6400_5A00_0100_0000_0600_3200_C1C2C3C1C2 ++ hex 0x1100_0100_4B09_5A00_0100_0000_0600_3200_C4)
    -- runs around a sequence, each with its record
    ∷ accepts job start (hex 0xC1_2BD302D8_C2) 3 34 (halfway (on 536 160) 194) (hex 0x1100_0100_6400_5A00_0100_0000_0600_3200_C1 ++ hex 0x1100_0100_5000_A000_0100_0000_0600_3200_C2)
    -- the greatest LENGTHs; TRN and NOP of nothing
    ∷ accepts job (stands (on 0 0) 80 70 0 0 0 0 50 0 0 160) (hex 0x2BD3FFDA ++ replicate 253 0) 1 269 (stands (on 0 0) 80 70 0 0 0 0 50 0 0 429) (hex 0x0D01_0100_0000_0000_0000_0000_0000_3200 ++ replicate 253 0)
    ∷ accepts job start (hex 0x2BD3FFEE0001C1 ++ replicate 250 0x2B) 1 17 (halfway (on 555 90) 177) (hex 0x1100_0100_6400_5A00_0100_0000_0600_3200_C1)
    ∷ accepts job start (hex 0x2BD3FFF8 ++ replicate 253 0x2B) 1 0 start []
    ∷ accepts job start (hex 0x2BD302DB_02F8) 2 0 start []
    -- DIR and DBR: width absent, given, all ones
    ∷ accepts job (stands (on 100 90) 80 70 6 0 1 0xFF07 50 0 0 160) (hex 0x2BD304E40014) 1 16 (stands (on 100 90) 80 70 6 0 1 0xFF07 50 0 0 176) (hex 0x1000_0200_6400_5A00_0000_07FF_1400_3C00)
    ∷ accepts job start (hex 0x2BD307E6001400C000) 1 16 (halfway (on 100 90) 176) (hex 0x1000_0200_6400_5A00_0100_0000_1400_C000)
    ∷ accepts job start (hex 0x2BD307E50014FFFFFF_07E40000000000) 2 16 (halfway (on 100 90) 176) (hex 0x1000_0200_6400_5A00_0000_0000_1400_3C00)
    ∷ accepts job start (hex 0x2BD307E60014FFFFFF) 1 16 (halfway (on 100 90) 176) (hex 0x1000_0200_6400_5A00_0100_0000_1400_3C00)
    -- "Rules with no ink": of no length; of no width, given, absent and by all ones; the least of both has its record, whatever the descriptor's width
    ∷ accepts job start (hex 0x2BD304E50000_04E60000) 2 0 start []
    ∷ accepts job start (hex 0x2BD307E50014000000_07E60014000000) 2 0 start []
    ∷ accepts thin start (hex 0x2BD304E50014_07E60014FFFFFF) 2 0 start []
    ∷ accepts thin start (hex 0x2BD307E60001000100) 1 16 (halfway (on 100 90) 176) (hex 0x1000_0200_6400_5A00_0100_0000_0100_0100)
    -- they need no room, and are tested for 24 and 27 all the same, but not for 27 while hidden
    ∷ accepts thin (halfway (on 100 90) 4096) (hex 0x2BD304E50000_07E70014000000_04E50014_07E60014FFFFFF) 4 0 (halfway (on 100 90) 4096) []
    ∷ accepts job (halfway (on 5000 2940) 4081) (hex 0x2BD304E40000) 1 0 (halfway (on 5000 2940) 4081) []
    ∷ accepts job (halfway (on 5000 2000) 4081) (hex 0x2BD307E603E8000000) 1 0 (halfway (on 5000 2000) 4081) []
    ∷ refuses thin (halfway (on 5001 2000) 4096) (hex 0x2BD304E603E8) 27 0
    ∷ refuses thin start (hex 0x2BD307E40000000001) 24 6
    ∷ accepts job (stands (kept_as 32763 32858) 80 70 6 0 1 0 50 7 0 4096) (hex 0x2BD304E50000_07E67FFF000000) 2 0 (stands (kept_as 32763 32858) 80 70 6 0 1 0 50 7 0 4096) []
    -- suppression 7 is hidden, also from the part before: no record and no edge, but I moves; 8 is not
    ∷ accepts job (stands (kept_as 32763 32858) 80 70 6 0 1 0 50 7 0 160) (hex 0xC1_2BD304E57FFF_03F507_04C60000_C2) 5 17 (halfway (on 456 90) 177) (hex 0x1100_0100_0000_5A00_0100_0000_0600_3200_C2)
    ∷ accepts job (stands (on 100 90) 80 70 6 0 1 0 50 8 0 160) (hex 0xC1_2BD304E50014_03F508_03F307_03DAC2) 5 33 (stands (on 1011 90) 80 70 6 0 1 0 50 7 0 193) (hex 0x1100_0100_6400_5A00_0100_0000_0600_3200_C1 ++ hex 0x1000_0200_2B02_5A00_0000_0000_1400_3C00)
    ∷ accepts job start (hex 0x2BD303F301_03F501_03F37F_03F57F_03F201) 5 0 (stands (on 100 90) 80 70 6 0 1 0 50 1 0 160) []
    -- a chain from the part before, and to the next
    ∷ accepts job (stands (on 100 90) 80 70 6 0 1 0 50 0 1 160) (hex 0x02D8) 1 0 (halfway (on 80 160) 160) []
    ∷ accepts job start (hex 0x2BD302D9) 1 0 (stands (on 80 160) 80 70 6 0 1 0 50 0 1 160) []
    ∷ accepts job (stands (on 100 90) 80 70 6 0 1 0 50 0 1 160) [] 0 0 (stands (on 100 90) 80 70 6 0 1 0 50 0 1 160) []
    -- 27: a character, the variable space, DIR and DBR, at the edges and beyond each
    ∷ accepts job (halfway (on 0 0) 160) (hex 0xC1) 1 17 (halfway (on 455 0) 177) (hex 0x1100_0100_0000_0000_0100_0000_0600_3200_C1)
    ∷ accepts job (halfway (on 4551 3000) 160) (hex 0xC1) 1 17 (halfway (on 5006 3000) 177) (hex 0x1100_0100_C711_B80B_0100_0000_0600_3200_C1)
    ∷ accepts job (halfway (on 4950 0) 160) (hex 0x40) 1 17 (halfway (on 5006 0) 177) (hex 0x1100_0100_5613_0000_0100_0000_0600_3200_40)
    ∷ accepts job (halfway (on 0 0) 160) (hex 0x2BD304E403E8) 1 16 (halfway (on 0 0) 176) (hex 0x1000_0200_0000_0000_0000_0000_E803_3C00)
    ∷ accepts job (halfway (on 4000 2940) 160) (hex 0x2BD304E403E8) 1 16 (halfway (on 4000 2940) 176) (hex 0x1000_0200_A00F_7C0B_0000_0000_E803_3C00)
    ∷ accepts job (halfway (on 4940 2000) 160) (hex 0x2BD304E603E8) 1 16 (halfway (on 4940 2000) 176) (hex 0x1000_0200_4C13_D007_0100_0000_E803_3C00)
    -- 28: an advance to the last position; before it the sheet is tested, and hidden text reaches the first one
    ∷ accepts vast (halfway (on 32312 0) 160) (hex 0xC1) 1 17 (halfway (on 32767 0) 177) (hex 0x1100_0100_387E_0000_0100_0000_0600_3200_C1)
    ∷ refuses vast (halfway (on 32313 0) 160) (hex 0xC1) 28 0
    ∷ refuses vast (halfway (on 32319 0) 160) (hex 0xC1) 27 0
    ∷ accepts job (stands (kept_as 4095 0) 80 70 4095 1 0 0 50 7 0 160) (0 ∷ []) 1 0 (stands (kept_as 0 0) 80 70 4095 1 0 0 50 7 0 160) []
    ∷ fails (stands (kept_as 4094 0) 80 70 4095 1 0 0 50 7 0 160) (0 ∷ []) 28 0
    -- the last character advances too, and off the sheet; another one is 27
    ∷ accepts job (stands (on 0 90) 80 70 4095 1 0 0 50 0 0 160) (hex 0x01) 1 17 (stands (kept_as 28674 32858) 80 70 4095 1 0 0 50 0 0 177) (hex 0x1100_0100_0000_5A00_0000_0000_01F0_3200_01)
    ∷ fails (stands (on 0 90) 80 70 4095 1 0 0 50 0 0 160) (hex 0x0101) 27 0
    -- 29: a record that ends at 4,096, and one that would pass it; what is not recorded needs no room
    ∷ accepts job (halfway (on 100 90) 4080) (hex 0x2BD304E40014) 1 16 (halfway (on 100 90) 4096) (hex 0x1000_0200_6400_5A00_0000_0000_1400_3C00)
    ∷ refuses job (halfway (on 100 90) 4081) (hex 0x2BD304E40014) 29 0
    ∷ accepts job (halfway (on 100 90) 4079) (hex 0xC1) 1 17 (halfway (on 555 90) 4096) (hex 0x1100_0100_6400_5A00_0100_0000_0600_3200_C1)
    ∷ fails (halfway (on 100 90) 4080) (hex 0xC1) 29 0
    ∷ accepts job (stands (on 100 90) 80 70 6 0 1 0 50 7 0 4096) (hex 0xC1_2BD304E40014) 2 0 (stands (on 555 90) 80 70 6 0 1 0 50 7 0 4096) []
    ∷ fails (halfway (on 4941 2000) 4096) (hex 0x2BD304E603E8) 27 0
    ∷ refuses vast (halfway (on 32313 0) 4096) (hex 0xC1) 28 0
    -- the first element at fault: the byte counts from it, and nothing of the others is kept
    ∷ refuses job start (hex 0xC1_2BD304C68000) 24 5
    ∷ fails start (hex 0x2BD302D9_02D9_04C78000_02) 24 8
    ∷ fails start (hex 0xC1C2_2BD304C70064_05C2000A02) 24 12
    ∷ fails start (hex 0xC1_2BD302D9_0272) 23 6
    ∷ fails (halfway (on 100 90) 4064) (hex 0x2BD304E50014_04E40014_04E40014) 29 10
    -- 26, and 24 before it
    ∷ fails start (hex 0x2BD303F301_03F201) 26 5
    ∷ fails start (hex 0x2BD303F301_03F202) 26 5
    ∷ fails start (hex 0x2BD303F301_03F402) 26 5
    ∷ fails start (hex 0x2BD303F301_03F280) 24 7
    ∷ fails start (hex 0x2BD303F401) 26 0
    -- what is lent: 10 before 12, 12 before 15, 15 before 19, 19 before the elements
    ∷ lends 1023 4096 job start [] 10 0
    ∷ lends 1025 4096 job start [] 10 0
    ∷ lends 1024 4095 job start [] 10 0
    ∷ lends 1024 4097 job (halfway (on 100 90) 4097) [] 10 0
    ∷ refuses (job_of 0 3000 10 20 30 40 5 1 2 0xFF00 60 7) (halfway (on 100 90) 4097) [] 12 0
    ∷ refuses (job_of 0 3000 10 20 30 40 5 1 2 0xFF00 60 7) start (replicate 8193 0x2B) 15 0
    ∷ refuses job start (replicate 8193 0x2B) 19 0
    ∷ refuses job start (replicate 8192 0x2B) 21 1
    ∷ []

-- a row as the definitions have it
abbrev pub code_of : Checked Effect → ℕ
code_of (fine e) = 0
code_of (fault code at) = code

abbrev pub offset_of : Checked Effect → ℕ
offset_of (fine e) = 0
offset_of (fault code at) = at

abbrev pub alone : State → List ℕ → Checked Effect
alone s part = elements (width_table 1024) job s (cut s.chain part)

unfoldable pub wholly : Whole → Whole
wholly t =
    let r = interpreted (width_table t.widths) t.descriptor t.before t.part (blank t.area) in
    record {
      widths = t.widths;
      area = t.area;
      descriptor = t.descriptor;
      before = t.before;
      part = t.part;
      answer = r.answer;
      after = r.state;
      left = area_after (width_table t.widths) t.descriptor t.before t.part (blank t.area);
    }

unfoldable pub tried : Trial → Trial
tried (whole t) = whole (wholly t)
tried (fails s part code at) = fails s part (code_of (alone s part)) (offset_of (alone s part))
tried (ranged s ok) = ranged s (hold (state_fields s))
tried (described d ok) = described d (hold (descriptor_fields d))

-- ---- records read back

-- some bytes, whether they begin with a whole record and whether that is empty, and their boundaries
pub record ReadBack : Type 0 where
  pub bytes : List ℕ
  pub whole : Bool
  pub empty : Bool
  pub boundaries : List ℕ

abbrev pub reads : List ℕ → Bool → Bool → List ℕ → ReadBack
reads bytes first nothing places = record { bytes = bytes; whole = first; empty = nothing; boundaries = places }

unfoldable pub read_back : List ReadBack
read_back =
    reads [] false true (0 ∷ [])
    -- a text of no characters, and a rule; then with a byte too few, and with records after them
    ∷ reads (hex 0x1000_0100 ++ blank 12) true true (0 ∷ 16 ∷ [])
    ∷ reads (hex 0x1000_0200 ++ blank 12) true false (0 ∷ 16 ∷ [])
    ∷ reads (hex 0x1000_0100 ++ blank 11) false true (0 ∷ [])
    ∷ reads (hex 0x1000_0200 ++ blank 11) false false (0 ∷ [])
    ∷ reads (hex 0x1100_0100 ++ blank 13 ++ hex 0x1000_0200 ++ blank 12 ++ hex 0x1200_0100) true false (0 ∷ 17 ∷ 33 ∷ [])
    ∷ reads (hex 0x0D01_0100 ++ blank 265 ++ hex 0x0F00) true false (0 ∷ 269 ∷ [])
    -- rules of no length and of no width, which are whole; a text whose numbers are all 0, and a number in its second byte alone
    ∷ reads (hex 0x1000_0200 ++ replicate 8 0 ++ hex 0xEEEE_0000) true true (0 ∷ 16 ∷ [])
    ∷ reads (hex 0x1000_0200 ++ replicate 10 0 ++ hex 0xEEEE) true true (0 ∷ 16 ∷ [])
    ∷ reads (hex 0x1100_0100 ++ replicate 13 0) true false (0 ∷ 17 ∷ [])
    ∷ reads (hex 0x1001_0100 ++ blank 268) true false (0 ∷ 272 ∷ [])
    ∷ reads (hex 0x1000_0200 ++ replicate 9 0 ++ hex 0x01_0001) true false (0 ∷ 16 ∷ [])
    -- other lengths and kinds; a length under 16 ends the steps, a kind does not
    ∷ reads (hex 0x0F00_0100 ++ blank 12) false false (0 ∷ [])
    ∷ reads (hex 0x0F00_0200 ++ blank 12) false false (0 ∷ [])
    ∷ reads (hex 0x1100_0200 ++ blank 13) false false (0 ∷ 17 ∷ [])
    ∷ reads (hex 0x1000_0300 ++ blank 12) false false (0 ∷ 16 ∷ [])
    ∷ reads (hex 0x1000_0101 ++ blank 12) false false (0 ∷ 16 ∷ [])
    ∷ []

-- such a row as the definitions have it
abbrev pub read_again : ReadBack → ReadBack
read_again r = reads r.bytes (is_whole r.bytes) (is_empty r.bytes) (boundaries r.bytes)

-- ---- records that lie on the sheet, and beyond it by one

-- items under `job`, and whether all of them lie on its sheet
pub record Lying : Type 0 where
  pub items : List Item
  pub lie : Bool

abbrev pub lying : List Item → Bool → Lying
lying items lie = record { items = items; lie = lie }

-- place, adjustment and direction, variable space, characters; in font 1
abbrev pub a_text : Point → ℕ → ℕ → ℕ → ℕ → Item
a_text p amount direction space cs =
    text_item record { at = p; font = 1; colour = 0; adjustment = amount; direction = direction; space = space; characters = hex cs }

-- place, mark; 1,000 long and 60 wide
abbrev pub a_rule : Point → ℕ → Item
a_rule p mark = rule_item record { at = p; mark = mark; colour = 0; len = 1000; width = 60 }

unfoldable pub lyings : List Lying
lyings =
    -- one character on each edge: C1 is 449 wide, and X'40' 320 or the variable space
    lying (a_text (on 4551 3000) 6 0 50 0xC1 ∷ []) true
    ∷ lying (a_text (on 4552 3000) 6 0 50 0xC1 ∷ []) false
    ∷ lying (a_text (on 4551 3001) 6 0 50 0xC1 ∷ []) false
    ∷ lying (a_text (on 0 0) 6 0 50 0xC1 ∷ []) true
    ∷ lying (a_text (kept_as 32767 32768) 6 0 50 0xC1 ∷ []) false
    ∷ lying (a_text (kept_as 32768 32767) 6 0 50 0xC1 ∷ []) false
    ∷ lying (a_text (on 4950 0) 6 0 50 0x40 ∷ []) true
    ∷ lying (a_text (on 4951 0) 6 0 50 0x40 ∷ []) false
    ∷ lying (a_text (on 4680 0) 6 0 65535 0x40 ∷ []) true
    ∷ lying (a_text (on 4681 0) 6 0 65535 0x40 ∷ []) false
    -- the second behind the advance of the first
    ∷ lying (a_text (on 4096 0) 6 0 50 0xC1C1 ∷ []) true
    ∷ lying (a_text (on 4097 0) 6 0 50 0xC1C1 ∷ []) false
    ∷ lying (a_text (on 4108 0) 6 1 50 0xC1C1 ∷ []) true
    ∷ lying (a_text (on 4109 0) 6 1 50 0xC1C1 ∷ []) false
    ∷ lying (a_text (on 400 0) 4095 1 50 0xC1C1 ∷ []) false
    ∷ lying (a_rule (on 4000 2940) 0 ∷ []) true
    ∷ lying (a_rule (on 4001 2940) 0 ∷ []) false
    ∷ lying (a_rule (on 4000 2941) 0 ∷ []) false
    ∷ lying (a_rule (on 4940 2000) 1 ∷ []) true
    ∷ lying (a_rule (on 4941 2000) 1 ∷ []) false
    ∷ lying (a_rule (on 4940 2001) 1 ∷ []) false
    -- all of some items
    ∷ lying [] true
    ∷ lying (a_text (on 0 0) 6 0 50 0xC1 ∷ a_rule (on 0 0) 0 ∷ []) true
    ∷ lying (a_text (on 0 0) 6 0 50 0xC1 ∷ a_rule (on 4001 0) 0 ∷ []) false
    ∷ []

-- such a row as the definitions have it
abbrev pub lain : Lying → Lying
lain l = lying l.items (all_on_sheet (width_table 1024) job l.items)
