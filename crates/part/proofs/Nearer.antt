-- A sequence is refused in a chain as it is behind 2B D3, two bytes nearer; and what keeps the element's start stays there.
-- Assumes nothing.
use Prim.Native.Nat.{ℕ, ◌+◌, ◌-◌, ◌≤◌}
use mathlib.Core.Path.{◌≡◌, refl, ◌∙◌, ap, subst}
use mathlib.Core.Bool.{Bool, true, false}
use mathlib.Core.List.{List}
use native.Mathlib.Omega.{arith}
use lib.ListN.{length}
use lib.Dec.{eqb}
use borrow.Author.Tests.{eqb-true}
use Rattle.part.specs.Checks.{Checked, fine, fault, require_at, starting_at, ◌>>=◌, ◌>>◌}
use Rattle.part.specs.Ranges.{◌to◌, ◌∈◌}
use Rattle.part.specs.Elements.{Element}
use Rattle.part.specs.Types.{Row, types, row_of, ◌takes◌}
use Rattle.part.specs.Code.{fault_code, place_of, nearer, fitted, placed_in, performed}
use Rattle.part.specs.declared.shapes.Descriptor.{Descriptor}
use Rattle.part.specs.declared.shapes.State.{State}
use Rattle.part.specs.declared.faults.Fault.{Fault}
use Rattle.part.specs.declared.faults.Fault.TheVariants.{WrongSizes, WrongState, WrongDescriptor, LongPart, CutSequence, NoClass, WrongLength, UnknownType, WrongValue, WrongSecond, WrongFont, WrongSuppression, OffSheet, OutOfRange, NoRoom}
use Rattle.part.proofs.Bounds.{between}
use Rattle.part.proofs.Checks.{Gives, value, refusal, OfCode, gives_then, gives_at, gives_unless, gives_so, first_of, second_of}
use Rattle.part.proofs.Fits.{rows_fit, row_fits, least-taken}
use Rattle.part.proofs.Placing.{Unplaced}
use Rattle.part.proofs.Scratch.{placed_in_leaves}

-- ---- refusals

abbrev pub NotClass : ℕ → Type 0
NotClass code = code ≡ 21 → ⊥

-- the byte that a fault points at, where parameters begin nearer; but for 21, which points in front of a sequence
pub place-nearer : (from : ℕ) (why : Fault) → NotClass (fault_code why) → from ≤ 4 → place_of 4 why - (4 - from) ≡ place_of from why
place-nearer from NoClass other most = absurd (other refl)
place-nearer from WrongLength other most = omega arith
place-nearer from UnknownType other most = omega arith
place-nearer from WrongValue other most = omega arith
place-nearer from WrongSecond other most = omega arith
place-nearer from WrongFont other most = omega arith
place-nearer from WrongSizes other most = omega arith
place-nearer from WrongState other most = omega arith
place-nearer from WrongDescriptor other most = omega arith
place-nearer from LongPart other most = omega arith
place-nearer from CutSequence other most = omega arith
place-nearer from WrongSuppression other most = omega arith
place-nearer from OffSheet other most = omega arith
place-nearer from OutOfRange other most = omega arith
place-nearer from NoRoom other most = omega arith

-- what performs a sequence, or places text, has no prefix to refuse
fitted-leaves : (at function : ℕ) (p : List ℕ) → Gives (λ _. Unit) (OfCode NotClass) (fitted at function p)
fitted-leaves at function p =
    gives_then (starting_at (at + 1) (row_of types function)) _ (gives_at (at + 1) (row_of types function) (λ code k u e. omega (arith, u.0, e)) (row_fits types function rows_fit)) λ row reads.
    gives_unless at (row.lengths takes (2 + length p)) 22 _ (λ _ e. omega (arith, e)) λ taken.
    gives_at (at + 2) (row.values p) (λ code k wrong e. omega (arith, between code 24 25 wrong.0, e)) (gives_so (λ _ _. tt) (λ _ _ w. w) (reads p (least-taken row.lengths (2 + length p) taken)))

pub placed-leaves : (most : ℕ) (widths : List ℕ) (d : Descriptor) (s : State) (e : Element) → Gives (λ _. Unit) (OfCode NotClass) (placed_in most widths d s e)
placed-leaves most widths d s e = gives_so (λ _ _. tt) (λ code at u e. omega (arith, between code 26 29 (first_of (code ∈ 26 to 29) (eqb at 0) u), e)) (placed_in_leaves most widths d s e)

pub performed-leaves : (most : ℕ) (widths : List ℕ) (d : Descriptor) (s : State) (function : ℕ) (p : List ℕ) → Gives (λ _. Unit) (OfCode NotClass) (performed most widths d s function p)
performed-leaves most widths d s function p = gives_then (fitted 2 function p) _ (fitted-leaves 2 function p) λ e _. placed-leaves most widths d s e

-- ---- checks

-- what begins so much nearer
starting : {A : Type 0} (by at left : ℕ) (m : Checked A) → by + left ≡ at → nearer by (starting_at at m) ≡ starting_at left m
starting by at left (fine a) h = refl
starting by at left (fault code k) h = ap (fault code) (let e : at + k - by ≡ left + k = omega arith in e)

-- one check after the other
after : {A B : Type 0} (by : ℕ) (m : Checked A) (f : A → Checked B) → nearer by (m >>= f) ≡ (nearer by m >>= λ a. nearer by (f a))
after by (fine a) f = refl
after by (fault code at) f = refl

-- row, LENGTH and values all begin so much nearer
fitted-nearer : (by left code : ℕ) (p : List ℕ) → nearer by (fitted (by + left) code p) ≡ fitted left code p
fitted-nearer by left code p = go (row_of types code)
  where
    tests : (t : Bool) (v : Checked Element) → nearer by (require_at (by + left) t 22 >> starting_at (by + left + 2) v) ≡ (require_at left t 22 >> starting_at (left + 2) v)
    tests true v = starting by (by + left + 2) (left + 2) v (omega arith)
    tests false v = ap (fault 22) (let e : by + left - by ≡ left = omega arith in e)

    go : (q : Checked Row) → nearer by (starting_at (by + left + 1) q >>= λ r. require_at (by + left) (r.lengths takes (2 + length p)) 22 >> starting_at (by + left + 2) (r.values p))
        ≡ (starting_at (left + 1) q >>= λ r. require_at left (r.lengths takes (2 + length p)) 22 >> starting_at (left + 2) (r.values p))
    go (fine r) = tests (r.lengths takes (2 + length p)) (r.values p)
    go (fault c k) = ap (fault c) (let e : by + left + 1 + k - by ≡ left + 1 + k = omega arith in e)

-- a fault of placing stays
pub stays : {A : Type 0} {P : A → Type 0} (by : ℕ) (m : Checked A) → Gives P Unplaced m → nearer by m ≡ m
stays by (fine a) (value p) = refl
stays by (fault code at) (refusal q) = let z = eqb-true at 0 (second_of (code ∈ 26 to 29) (eqb at 0) q) in ap (fault code) (let e : at - by ≡ at = omega arith in e)

-- a sequence whose LENGTH stands at an offset, from how it is performed
pub performed-nearer : (most : ℕ) (widths : List ℕ) (d : Descriptor) (s : State) (function by left : ℕ) (p : List ℕ) → by + left ≡ 2 → nearer by (performed most widths d s function p) ≡ (fitted left function p >>= placed_in most widths d s)
performed-nearer most widths d s function by left p h =
    subst (λ (at : ℕ). nearer by (fitted at function p >>= placed_in most widths d s) ≡ (fitted left function p >>= placed_in most widths d s)) h
    (after by (fitted (by + left) function p) (placed_in most widths d s) ∙ rw (fitted-nearer by left function p) (go (fitted left function p)))
  where
    go : (m : Checked Element) → (m >>= λ e. nearer by (placed_in most widths d s e)) ≡ (m >>= placed_in most widths d s)
    go (fine e) = stays by (placed_in most widths d s e) (placed_in_leaves most widths d s e)
    go (fault code at) = refl
