-- What is read is in range: an element's parameters as the table's last column has them; and a fault points where its code does.
-- Assumes nothing.
use Rattle.std.specs.Prelude.{if◌then◌else◌}
use Prim.Native.Nat.{ℕ, ◌+◌, ◌-◌, ◌<◌, ◌≤◌}
use mathlib.Core.Path.{◌≡◌, refl, sym, ◌∙◌}
use mathlib.Core.Bool.{Bool, true, false, true≢false, ◌&&◌, ◌||◌}
use mathlib.Core.List.{List, [], ◌∷◌}
use native.Mathlib.Nat.{add-zero}
use native.Mathlib.Omega.{arith}
use lib.ListN.{length, drop, length-drop, get_or-eq_default}
use lib.Seq.{length-take-le}
use lib.Dec.{leb, ltb, eqb}
use borrow.Author.Tests.{ltb-true, ltb-false, leb-true, le-leb}
use Rattle.part.specs.Numbers.{ones, byte, word}
use Rattle.part.specs.Checks.{Checked, fine, starting_at}
use Rattle.part.specs.Ranges.{Range, up_to, only, colours, ◌to◌, ◌or◌, ◌∈◌}
use Rattle.part.specs.Elements.{Element, Text, RepeatString, AbsoluteMoveInline, AbsoluteMoveBaseline, RelativeMoveInline, RelativeMoveBaseline, BeginLine, SetInlineMargin, SetBaselineIncrement, SetIntercharacterAdjustment, SetVariableSpace, SetCodedFont, SetTextColor, SetTextOrientation, BeginSuppression, EndSuppression, DrawRule, NoOperation, number, adjustment, font, orientation, suppression, drawn_rule, repeated_string, rule_width}
use Rattle.part.specs.Types.{Lengths, Row, types, row_of, function, ◌takes◌}
use Rattle.part.specs.Reading.{Found, between, sequence, introduced, free_run, element}
use Rattle.part.specs.Pointing.{length_at, Pointed, at_cut, at_start, at_class, at_length, at_type, at_parameter}
use Rattle.part.proofs.Checks.{first_of, second_of, both_of, Gives, value, refusal, gives_then, gives_unless, gives_where, gives_either, gives_at, value_of}
use Rattle.part.proofs.Every.{Every, none, ◌also◌}

-- each parameter in its range
abbrev pub fits : Element → Bool
fits (Text cs) = true
fits (RepeatString cs count) = count ∈ up_to 0x7FFF
fits (AbsoluteMoveInline v) = v ∈ up_to 0x7FFF
fits (AbsoluteMoveBaseline v) = v ∈ up_to 0x7FFF
fits (RelativeMoveInline v) = true
fits (RelativeMoveBaseline v) = true
fits BeginLine = true
fits (SetInlineMargin v) = v ∈ up_to 0x7FFF or only ones
fits (SetBaselineIncrement v) = v ∈ up_to 0x7FFF or only ones
fits (SetIntercharacterAdjustment v direction) = v ∈ up_to 0x0FFF or only ones && direction ∈ up_to 0x01 or only 0xFF
fits (SetVariableSpace v) = v ∈ up_to 0x0FFF or only ones
fits (SetCodedFont f) = f ∈ up_to 0x03 or only 0xFF
fits (SetTextColor v) = v ∈ colours or only ones
fits SetTextOrientation = true
fits (BeginSuppression id) = id ∈ 0x01 to 0x7F
fits (EndSuppression id) = id ∈ 0x01 to 0x7F
fits (DrawRule mark len width) = len ∈ up_to 0x7FFF && width ∈ up_to 0x00C0 or only ones
fits NoOperation = true

abbrev pub Fits : Element → Type 0
Fits e = fits e ≡ true

-- ---- where a fault points

-- as the page has it; and at a byte that is there, if any is
abbrev pub There : List ℕ → ℕ → ℕ → ℕ → Type 0
There bytes h code at = Pointed bytes h code at × (0 < length bytes → at < length bytes)

-- the codes of elements
abbrev pub Coded : ℕ → Type 0
Coded code = (code ∈ 20 to 29) ≡ true

wider : (code first last : ℕ) → 20 ≤ first → last ≤ 29 → (code ∈ first to last) ≡ true → Coded code
wider code first last h k e =
    let a = leb-true first code (first_of (leb first code) (leb code last) e) in
    let b = leb-true code last (second_of (leb first code) (leb code last) e) in
    both_of (leb 20 code) (leb code 29) (le-leb 20 code (omega arith)) (le-leb code 29 (omega arith))

pub pointed_coded : {bytes : List ℕ} {h code at : ℕ} → Pointed bytes h code at → Coded code
pointed_coded at_cut = refl
pointed_coded {code = code} (at_start e) = wider code 26 29 (omega arith) (omega arith) e
pointed_coded at_class = refl
pointed_coded at_length = refl
pointed_coded at_type = refl
pointed_coded {code = code} (at_parameter e h k) = wider code 24 25 (omega arith) (omega arith) e

-- ---- the table, row by row

-- a parameter's fault: its code, and a byte of the parameters
abbrev Wrong : List ℕ → ℕ → ℕ → Type 0
Wrong p code at = ((code ∈ 24 to 25) ≡ true) × (at < length p)

-- what reads the parameters of a type whose LENGTH is never less
abbrev Sound : ℕ → (List ℕ → Checked Element) → Type 0
Sound least values = (p : List ℕ) → least ≤ 2 + length p → Gives Fits (Wrong p) (values p)

-- a byte that can't be absent is there; so is one that is wrong, and would pass if it were absent
not_absent : (p : List ℕ) (k : ℕ) → (length p ≤ k → ⊥) → k < length p
not_absent p k never = go (ltb k (length p)) refl
  where
    go : (t : Bool) → ltb k (length p) ≡ t → k < length p
    go true e = ltb-true k (length p) e
    go false e = absurd (never (ltb-false k (length p) e))

there : (p : List ℕ) (k absent : ℕ) (test : ℕ → Bool) → test absent ≡ true → test (byte absent p k) ≡ false → k < length p
there p k absent test passes wrong = not_absent p k (λ short. true≢false (sym passes ∙ rw (get_or-eq_default p absent short) at wrong))

number_fits : (range : Range) (e : ℕ → Element) → ((v : ℕ) → (v ∈ range) ≡ true → Fits (e v)) → Sound 4 (number range e)
number_fits range e k p h = gives_unless 0 (word 0 p 0 ∈ range) 24 (fine (e (word 0 p 0))) (λ _. (refl, omega arith)) (λ t. value (k _ t))

suppression-fits : (e : ℕ → Element) → ((v : ℕ) → (v ∈ 0x01 to 0x7F) ≡ true → Fits (e v)) → Sound 3 (suppression e)
suppression-fits e k p h = gives_unless 0 (byte 0 p 0 ∈ 0x01 to 0x7F) 24 (fine (e (byte 0 p 0))) (λ _. (refl, omega arith)) (λ t. value (k _ t))

adjustment-fits : Sound 4 adjustment
adjustment-fits p h =
    let amount = word 0 p 0 ∈ up_to 0x0FFF or only ones in
    let direction = byte 0 p 2 ∈ up_to 0x01 or only 0xFF in
    gives_unless 0 amount 24 _ (λ _. (refl, omega arith)) λ t.
    gives_unless 2 direction 24 _ (λ u. (refl, there p 2 0 (λ x. x ∈ up_to 0x01 or only 0xFF) refl u)) λ u.
    value (both_of amount direction t u)

font-fits : Sound 3 font
font-fits p h = gives_unless 0 (byte 0 p 0 ∈ up_to 0x03 or only 0xFF) 25 (fine (SetCodedFont (byte 0 p 0))) (λ _. (refl, omega arith)) value

orientation-fits : Sound 6 orientation
orientation-fits p h =
    gives_unless 0 (word 0 p 0 ∈ only 0x0000 or only ones) 24 _ (λ _. (refl, omega arith)) λ _.
    gives_unless 2 (word 0 p 2 ∈ only 0x2D00 or only ones) 24 _ (λ _. (refl, omega arith)) λ _.
    value refl

rule_fits : (mark : ℕ) → Sound 4 (drawn_rule mark)
rule_fits mark p h =
    let len = word 0 p 0 ∈ up_to 0x7FFF in
    let width = word 0xFF p 2 in
    gives_unless 0 len 24 _ (λ _. (refl, omega arith)) λ t.
    gives_unless 2 (rule_width width (byte 0xFF p 4)) 24 _ (λ u. (refl, wide u)) λ u.
    value (both_of len (width ∈ up_to 0x00C0 or only ones) t (weaker (width ∈ up_to 0x00C0) (width ∈ only ones) _ _ u))
  where
    weaker : (b c e f : Bool) → (b && e || c && f) ≡ true → (b || c) ≡ true
    weaker true c e f h = refl
    weaker false true e f h = refl
    weaker false false e f h = h

    -- an absent width is all ones
    wide : rule_width (word 0xFF p 2) (byte 0xFF p 4) ≡ false → 2 < length p
    wide u = not_absent p 2 λ short.
        true≢false (rw (get_or-eq_default p 0xFF {n = 2} short, get_or-eq_default p 0xFF {n = 3} (omega arith), get_or-eq_default p 0xFF {n = 4} (omega arith)) at u)

repeated-fits : Sound 4 repeated_string
repeated-fits p h =
    gives_unless 0 (word 0 p 0 ∈ up_to (if ltb 2 (length p) then 0x7FFF else 0)) 24 (fine (RepeatString _ (word 0 p 0))) (λ _. (refl, omega arith)) (λ t. value (go (ltb 2 (length p)) t))
  where
    go : (t : Bool) → (word 0 p 0 ∈ up_to (if t then 0x7FFF else 0)) ≡ true → (word 0 p 0 ∈ up_to 0x7FFF) ≡ true
    go true h = h
    go false h = le-leb (word 0 p 0) 0x7FFF (omega (arith, leb-true (word 0 p 0) 0 h))

abbrev Reads : Row → Type 0
Reads r = Sound r.lengths.least r.values

pub rows_fit : Every Reads types
unfolding types
rows_fit =
    number_fits _ AbsoluteMoveInline (λ v t. t)
    also number_fits _ AbsoluteMoveBaseline (λ v t. t)
    also number_fits _ RelativeMoveInline (λ v t. t)
    also number_fits _ RelativeMoveBaseline (λ v t. t)
    also (λ p _. value refl)
    also number_fits _ SetInlineMargin (λ v t. t)
    also number_fits _ SetBaselineIncrement (λ v t. t)
    also adjustment-fits
    also number_fits _ SetVariableSpace (λ v t. t)
    also font-fits
    also number_fits _ SetTextColor (λ v t. t)
    also orientation-fits
    also suppression-fits BeginSuppression (λ v t. t)
    also suppression-fits EndSuppression (λ v t. t)
    also rule_fits 0
    also rule_fits 1
    also (λ p _. value refl)
    also repeated-fits
    also (λ p _. value refl)
    also none

-- TYPE itself is what is unknown
abbrev Unknown : ℕ → ℕ → Type 0
Unknown code at = (code ≡ 23) × (at ≡ 0)

pub row_fits : (rs : List Row) (code : ℕ) → Every Reads rs → Gives Reads Unknown (row_of rs code)
row_fits [] code none = refusal (refl, refl)
row_fits (r ∷ rs) code (one also others) = gives_either (eqb r.function code) (value one) (row_fits rs code others)

-- no LENGTH is below the least
pub least-taken : (ns : Lengths) (n : ℕ) → (ns takes n) ≡ true → ns.least ≤ n
least-taken ns n e = leb-true _ _ (first_of _ _ (first_of _ _ e))

-- ---- a whole element

pub record Ranged (f : Found) : Type 0 where
  pub fit : Fits f.element
  pub chains : f.chains ≤ 1

sequence-fits : (at : ℕ) (bytes : List ℕ) → Gives Ranged (There bytes at) (sequence at bytes)
unfolding sequence
sequence-fits at bytes =
    let n = byte 0 bytes at in
    let type = byte 0 bytes (at + 1) in
    let body = between bytes (at + 2) (at + n) in
    gives_where (leb (at + 2) (length bytes)) 20 _ (at_cut, λ some. some) λ began.
    let introduced = leb-true (at + 2) (length bytes) began in
    gives_unless at (leb 2 n) 22 _ (λ _. (at_length, λ _. omega arith)) λ _.
    gives_then (starting_at (at + 1) (row_of types (function type))) _
    (gives_at (at + 1) (row_of types (function type)) (λ code k u. rw (u.0, u.1, add-zero (at + 1)) (at_type, λ _. omega arith)) (row_fits types (function type) rows_fit)) λ row reads.
    gives_unless at (row.lengths takes n) 22 _ (λ _. (at_length, λ _. omega arith)) λ taken.
    gives_where (leb (at + n) (length bytes)) 20 _ (at_cut, λ some. some) λ ended.
    let whole = leb-true (at + n) (length bytes) ended in
    let size = length-take-le (at + n - (at + 2)) (drop (at + 2) bytes) (omega (arith, length-drop (at + 2) bytes)) in
    gives_then (starting_at (at + 2) (row.values body)) _
    (gives_at (at + 2) (row.values body) (λ code k wrong. let inside = wrong.1 in (at_parameter wrong.0 (omega arith) (omega arith), λ _. omega arith))
    (reads body (omega (arith, least-taken row.lengths n taken)))) λ e fit.
    value (record { fit = fit; chains = omega arith })

pub element-fits : (chain : ℕ) (bytes : List ℕ) → Gives Ranged (There bytes (length_at chain)) (element chain bytes)
unfolding element
element-fits chain bytes = go (eqb chain 1)
  where
    no_class : Pointed bytes 2 21 1
    no_class = at_class

    go : (t : Bool) → Gives Ranged (There bytes (if t then 0 else 2)) (if t then sequence 0 bytes else if eqb (byte 0 bytes 0) 0x2B then introduced bytes else free_run bytes)
    go true = sequence-fits 0 bytes
    go false =
        gives_either (eqb (byte 0 bytes 0) 0x2B)
        (gives_unless _ (eqb (byte 0xD3 bytes 1) 0xD3) 21 (sequence 2 bytes) (λ u. (no_class, λ _. there bytes 1 0xD3 (λ x. eqb x 0xD3) refl u)) (λ _. sequence-fits 2 bytes))
        (value (record { fit = refl; chains = omega arith }))

pub found-fits : {f : Found} (chain : ℕ) (bytes : List ℕ) → element chain bytes ≡ fine f → Ranged f
found-fits chain bytes h = value_of (element chain bytes) (element-fits chain bytes) h
