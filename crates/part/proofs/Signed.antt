-- A position is kept as its number plus `origin`: what the moves do to the kept numbers is what addition does to the signed ones.
-- Assumes nothing.
use Rattle.std.specs.Prelude.{if◌then◌else◌}
use Prim.Native.Nat.{ℕ, ◌+◌, ◌-◌, ◌<◌}
use mathlib.Core.Path.{◌≡◌, refl, sym, ◌∙◌, ap}
use mathlib.Core.Bool.{Bool, true, false, ◌&&◌, ◌||◌}
use mathlib.Core.List.{List}
use native.Mathlib.Omega.{arith}
use lib.Dec.{ltb, leb, eqb}
use lib.IntN.{ℤ, pos, neg_ℤ, ◌+ℤ◌, ◌-ℤ◌, +ℤ_assoc, +ℤ_comm, +ℤ_idr, +ℤ-neg_ℤ_cancel}
use borrow.Author.Tests.{leb-true, ltb-true, ltb-false}
use Rattle.part.specs.Numbers.{origin, last, signed}
use Rattle.part.specs.Checks.{fine}
use Rattle.part.specs.States.{point}
use Rattle.part.specs.Presenting.{moved, on_sheet, hides}
use Rattle.part.specs.Text.{width_of, plus, minus, character}
use Rattle.part.specs.declared.shapes.Descriptor.{Descriptor}
use Rattle.part.specs.declared.shapes.State.{State}
use Rattle.part.proofs.Checks.{same_value, tested, first_of}

-- the number that is kept as n
abbrev pub plain : ℕ → ℤ
plain n = pos n -ℤ pos origin

swap : (a b c : ℤ) → a +ℤ b +ℤ c ≡ a +ℤ c +ℤ b
swap a b c = +ℤ_assoc a b c ∙ ap (λ x. a +ℤ x) (+ℤ_comm b c) ∙ sym (+ℤ_assoc a c b)

-- if x is m and some more, m is x less as much
less : (m more x by : ℕ) → m + more ≡ x → pos m -ℤ pos by ≡ pos x -ℤ pos by -ℤ pos more
less m more x by e =
    ap (λ z. z -ℤ pos by) (sym (+ℤ-neg_ℤ_cancel (pos m) (pos more)))
    ∙ ap (λ (k : ℕ). pos k -ℤ pos more -ℤ pos by) e
    ∙ swap (pos x) (neg_ℤ (pos more)) (neg_ℤ (pos by))

-- a number moved forth and back is that number, and the one, less the other
pub moves : {m : ℕ} (n forth back : ℕ) → moved n forth back ≡ fine m → plain m ≡ plain n +ℤ pos forth -ℤ pos back
unfolding moved
moves {m} n forth back h =
    let t = tested (leb back (n + forth) && leb (n + forth) (last + back)) 28 (fine (n + forth - back)) h in
    let least = leb-true back (n + forth) (first_of (leb back (n + forth)) (leb (n + forth) (last + back)) t.0) in
    let e : n + forth - back ≡ m = same_value t.1 in
    less m back (n + forth) origin (omega arith) ∙ ap (λ z. z -ℤ pos back) (swap (pos n) (pos forth) (neg_ℤ (pos origin)))

-- AMI and AMB
pub moves_to : {m : ℕ} (v : ℕ) → moved origin v 0 ≡ fine m → plain m ≡ pos v
moves_to v h = moves origin v 0 h ∙ ap pos (omega arith)

-- BLN
pub moves_on : {m : ℕ} (b increment : ℕ) → moved b increment 0 ≡ fine m → plain m ≡ plain b +ℤ pos increment
moves_on b increment h = moves b increment 0 h ∙ +ℤ_idr (plain b +ℤ pos increment)

-- RMI and RMB
pub moves_by : {m : ℕ} (i v : ℕ) → moved i (signed v) origin ≡ fine m → plain m ≡ plain i +ℤ plain (signed v)
moves_by i v h = moves i (signed v) origin h ∙ +ℤ_assoc (plain i) (pos (signed v)) (neg_ℤ (pos origin))

-- two bytes as a signed number
pub two's_complement : (v : ℕ) → v < 65536 → plain (signed v) ≡ (if ltb v 32768 then pos v else (pos v -ℤ pos 65536))
two's_complement v h = go (ltb v 32768) refl
  where
    go : (t : Bool) → ltb v 32768 ≡ t → plain (signed v) ≡ (if t then pos v else (pos v -ℤ pos 65536))
    go true e =
        let below = ltb-true v 32768 e in
        let kept : signed v ≡ v + origin = omega arith in
        ap plain kept ∙ +ℤ-neg_ℤ_cancel (pos v) (pos origin)
    go false e =
        let above = ltb-false v 32768 e in
        less (signed v) 65536 (v + origin) origin (omega arith) ∙ ap (λ z. z -ℤ pos 65536) (+ℤ-neg_ℤ_cancel (pos v) (pos origin))

-- the adjustment as a signed number
abbrev pub adjusts : State → ℤ
adjusts s = if eqb s.direction 1 then neg_ℤ (pos s.adjustment) else pos s.adjustment

pub character_moves : {j : ℕ} (widths : List ℕ) (d : Descriptor) (s : State) (i c : ℕ) → character widths d s i c ≡ fine j → plain j ≡ plain i +ℤ pos (width_of widths s c) +ℤ adjusts s
unfolding character
character_moves {j} widths d s i c h = go (eqb s.direction 1) (moves i _ _ (tested (hides d s || on_sheet d (point i s.at.b) (width_of widths s c) 0) 27 (moved i (width_of widths s c + plus s) (minus s)) h).1)
  where
    go : (t : Bool) → plain j ≡ plain i +ℤ pos (width_of widths s c + (if t then 0 else s.adjustment)) -ℤ pos (if t then s.adjustment else 0) → plain j ≡ plain i +ℤ pos (width_of widths s c) +ℤ (if t then neg_ℤ (pos s.adjustment) else pos s.adjustment)
    go true e = e ∙ ap (λ (w : ℕ). plain i +ℤ pos w -ℤ pos s.adjustment) (omega arith)
    go false e = e ∙ +ℤ_idr _ ∙ sym (+ℤ_assoc (plain i) (pos (width_of widths s c)) (pos s.adjustment))
